-- A file written record by record, how many there are, and the file read back.
use Rattle.std.specs.Prelude.{◌≡◌, ℕ, zero, suc, ◌+◌, ◌-◌, ◌/◌, true, List, [], ◌∷◌, length, take, drop, nat_le, nat_lt, slice_index}
use Rattle.basis.specs.Choice.{pick}
use Rattle.basis.specs.Refusals.{Answer, refused, given}
use Rattle.runs.specs.Map.{named}
use Rattle.image.specs.Hex.{File, record_in, close_of}
use Rattle.image.specs.Writer.{Step, step, text, upper_half, record_part, lowest, step_from}

-- a record with its line end removed
abbrev pub unended : List ℕ → List ℕ
unended s = take (length s - 1) s

-- the records that the writer gives from address a and upper half u on, k of them at most
unfoldable pub lines : ℕ → List ℕ → List ℕ → ℕ → ℕ → ℕ → List (List ℕ)
lines size image map a u zero = []
lines size image map a u (suc k) =
    let s = step_from size image map a u in
    pick (nat_lt size a) [] (unended s.text ∷ lines size image map s.next s.upper k)

-- the address to go on from after k records
unfoldable pub address_after : ℕ → List ℕ → List ℕ → ℕ → ℕ → ℕ → ℕ
address_after size image map a u zero = a
address_after size image map a u (suc k) =
    let s = step_from size image map a u in address_after size image map s.next s.upper k

-- the records of a file at most: a data record for two bytes, a 04 record for each upper half past 0,
-- the end record; 31,745 on the short board, 63,490 on the long one
abbrev pub records_most : ℕ → ℕ
records_most size = size / 2 + upper_half (size - 1) + 1

-- a writer that knows no upper half: no 04 record, AAAA the whole place
abbrev pub plain_from : ℕ → List ℕ → List ℕ → ℕ → Step
plain_from size image map a =
    let k = lowest size map a in
    pick (nat_lt size a) (step [] a 0)
    (pick (nat_le size k) (step (text 0 1 []) (size + 1) 0)
    (step (text k 0 (take (record_part map k) (drop k image))) (k + record_part map k) 0))

-- the records that it gives from address a on, k of them at most
unfoldable pub plain_lines : ℕ → List ℕ → List ℕ → ℕ → ℕ → List (List ℕ)
plain_lines size image map a zero = []
plain_lines size image map a (suc k) =
    let s = plain_from size image map a in
    pick (nat_lt size a) [] (unended s.text ∷ plain_lines size image map s.next k)

abbrev pub onward : Answer File → (File → Answer File) → Answer File
onward (refused n) g = refused n
onward (given f) g = g f

-- records read one after the other
unfoldable pub read_lines : ℕ → List (List ℕ) → File → Answer File
read_lines size [] f = given f
read_lines size (l ∷ s) f = onward (record_in size f.reader l f.image f.map) (read_lines size s)

-- a file that closes, with the map and the named bytes that were written
pub record Back (image map : List ℕ) (f : File) : Type 0 where
  pub closes : close_of f.reader ≡ given f.reader
  pub same_map : f.map ≡ map
  pub same_bytes : (j : ℕ) → named map j ≡ true → slice_index f.image j ≡ slice_index image j

-- all k records from address a and upper half u on are taken by a reader at f, and give such a file
pub record Returned (size : ℕ) (image map : List ℕ) (a u k : ℕ) (f : File) : Type 0 where
  pub result : File
  pub read : read_lines size (lines size image map a u k) f ≡ given result
  pub back : Back image map result
