-- The hex reader: what start, one record and closing give, on a board of `size` bytes.
use Rattle.std.specs.Prelude.{◌≡◌, ℕ, zero, suc, ◌+◌, ◌-◌, ◌*◌, ◌/◌, ◌%◌, Bool, true, false, not, List, [], ◌∷◌, ◌++◌, length, drop, replicate, ◌==◌, nat_le, nat_lt, slice_set}
use Rattle.basis.specs.Choice.{pick, both, either, any}
use Rattle.basis.specs.Refusals.{Answer, given, Rule, ◌when◌, first}
use Rattle.basis.specs.Units.{right_sizes_in}
use Rattle.image.specs.Digits.{decoded}
use Rattle.basis.specs.Lists.{copy_of}
use Rattle.image.specs.Record.{count, address, kind, payload, value, is_data, character_rows, byte_rows, shape_rows, Pointed, wrong, right}
use Rattle.image.specs.declared.hex.Hex.{Hex}
use Rattle.runs.specs.Map.{named, name_of, any_named, name_all_of}

-- reader, image and map together
pub record File : Type 0 where
  pub reader : Hex
  pub image : List ℕ
  pub map : List ℕ

abbrev pub file : Hex → List ℕ → List ℕ → File
file h image map = record { reader = h; image = image; map = map }

-- the answer, with image and map as they then stand
pub record Settled : Type 0 where
  pub answer : Pointed Hex
  pub image : List ℕ
  pub map : List ℕ

abbrev pub settled_as : Pointed Hex → List ℕ → List ℕ → Settled
settled_as a image map = record { answer = a; image = image; map = map }

-- a refusal leaves image and map as they stood
abbrev pub settled : Pointed File → List ℕ → List ℕ → Settled
settled (wrong n c) image map = settled_as (wrong n c) image map
settled (right f) image map = settled_as (right f.reader) f.image f.map

-- the rule set, both bases, whether the latest of 02 and 04 was 02, whether the end record came, and whether
-- a data byte was taken
abbrev pub hex : ℕ → ℕ → ℕ → Bool → Bool → Bool → Hex
hex rules linear segment segmented ended taken =
    record {
      rules = rules;
      linear = linear;
      segment = segment;
      segmented = segmented;
      ended = ended;
      taken = taken;
    }

-- both bases start at 0, and neither 02 nor 04 has come
abbrev pub fresh : ℕ → Hex
fresh rules = hex rules 0 0 false false false

-- the rule sets
abbrev pub is_rule_set : ℕ → Bool
is_rule_set rules = either (rules == 1) (rules == 2)

-- a file at its start
abbrev pub started : ℕ → ℕ → File
started size rules = file (fresh rules) (replicate size 0xFF) (replicate (size / 8) 0)

-- start under a rule set: 20, then 34 unknown set, else image and map filled
unfoldable pub start_in : ℕ → ℕ → List ℕ → List ℕ → Answer File
start_in size rules image map =
    first
    (20 when not (right_sizes_in size (length image) (length map)) ∷ 34 when not (is_rule_set rules) ∷ [])
    (given (started size rules))

-- the place of byte i of a data record
abbrev pub place : Hex → List ℕ → ℕ → ℕ
place h b i =
    -- set 1: linear base + segment base + AAAA + index, a whole number with no wrap
    pick (h.rules == 1) (h.linear + h.segment + address b + i)
    -- set 2 under 02: the offset wraps inside its segment of 64 KiB, and the linear base is not looked at
    (pick h.segmented (h.segment + (address b + i) % 65536)
    -- set 2 under 04, or before any 02 or 04: nothing wraps, and the segment base is not looked at
    (h.linear + address b + i))

-- the reader after n data bytes
abbrev pub fed : Hex → ℕ → Hex
fed h n =
    hex h.rules h.linear h.segment h.segmented h.ended (either (nat_lt 0 n) h.taken)

-- and after a record of another type: 01 ends, 02 sets the segment base, 04 the linear base
abbrev pub other_of : Hex → List ℕ → Hex
other_of h b =
    pick (kind b == 1) (hex h.rules h.linear h.segment h.segmented true h.taken)
    (pick (kind b == 2) (hex h.rules h.linear (16 * value b) true h.ended h.taken)
    (pick (kind b == 4) (hex h.rules (65536 * value b) h.segment false h.ended h.taken) h))

-- the place of a byte lies past the board
abbrev pub past_board : ℕ → Hex → List ℕ → Bool
past_board size h b = any (λ (i : ℕ). nat_le size (place h b i)) 0 (count b)

-- the place of a byte was named before
abbrev pub named_before : Hex → List ℕ → List ℕ → Bool
named_before h b map = any (λ (i : ℕ). named map (place h b i)) 0 (count b)

-- the image with the bytes s, from the j-th on, each at its own place
unfoldable pub put_each : (ℕ → ℕ) → List ℕ → ℕ → List ℕ → List ℕ
put_each at image j [] = image
put_each at image j (x ∷ s) = put_each at (slice_set image (at j) x) (j + 1) s

-- the map with the places of n bytes named, from the j-th on
unfoldable pub name_each : (ℕ → ℕ) → List ℕ → ℕ → ℕ → List ℕ
name_each at map j zero = map
name_each at map j (suc n) = name_each at (name_of map (at j)) (j + 1) n

-- what a data record does
abbrev pub placed : Hex → List ℕ → List ℕ → List ℕ → File
placed h b image map =
    file (fed h (count b)) (put_each (place h b) image 0 (payload b)) (name_each (place h b) map 0 (count b))

-- what a record does
abbrev pub effect : Hex → List ℕ → List ℕ → List ℕ → File
effect h b image map = pick (is_data b) (placed h b image map) (file (other_of h b) image map)

-- 29 and 30, of a data record
abbrev pub place_rows : ℕ → Hex → List ℕ → List ℕ → List Rule
place_rows size h b map = 29 when past_board size h b ∷ 30 when named_before h b map ∷ []

-- 25 to 30, of the bytes of a record of n characters
abbrev pub apply_rows : ℕ → Hex → ℕ → List ℕ → List ℕ → List Rule
apply_rows size h n b map = byte_rows n b ++ shape_rows b ++ pick (is_data b) (place_rows size h b map) []

-- one record, its line end removed: the refusals in the paper's order, else what it does
unfoldable pub record_in : ℕ → Hex → List ℕ → List ℕ → List ℕ → Answer File
record_in size h line image map =
    let b = decoded (drop 1 line) in
    first
    (20 when not (right_sizes_in size (length image) (length map))
    ∷ 34 when not (is_rule_set h.rules)
    ∷ 21 when h.ended
    ∷ character_rows line ++ apply_rows size h (length line) b map)
    (given (effect h b image map))

-- and its cuts: from 25 on, and from 29 on
unfoldable pub apply_in : ℕ → Hex → ℕ → List ℕ → List ℕ → List ℕ → Answer File
apply_in size h n b image map = first (apply_rows size h n b map) (given (effect h b image map))

unfoldable pub data_in : ℕ → Hex → List ℕ → List ℕ → List ℕ → Answer File
data_in size h b image map = first (place_rows size h b map) (given (placed h b image map))

-- unknown set; no end record; no data byte taken since the start
unfoldable pub close_of : Hex → Answer Hex
close_of h =
    first (34 when not (is_rule_set h.rules) ∷ 31 when not h.ended ∷ 32 when not h.taken ∷ [])
    (given h)

-- ---- the places of a data record in two rows: up to where its segment wraps, and from its start on

-- what AAAA is added to
abbrev pub base_of : Hex → ℕ
base_of h =
    pick (h.rules == 1) (h.linear + h.segment) (pick h.segmented h.segment h.linear)

-- how many of n bytes from the offset on stand in the first row
abbrev pub row_of : Hex → ℕ → ℕ → ℕ
row_of h offset n =
    let wraps = both (not (h.rules == 1)) (both h.segmented (nat_lt (65536 - offset) n)) in
    pick wraps (65536 - offset) n

-- the bytes s from place a on and t from place c on go into image and map, unless one of the places is named
-- before; r says whether they do
abbrev pub Puts : List ℕ → List ℕ → ℕ → List ℕ → ℕ → List ℕ → Bool → List ℕ → List ℕ → Type 0
Puts image map a s c t r image' map' =
    let free = not (either (any_named map a (length s)) (any_named map c (length t))) in
    (r ≡ free) × (image' ≡ pick free (copy_of (copy_of image a s) c t) image)
    × (map' ≡ pick free (name_all_of (name_all_of map a (length s)) c (length t)) map)
