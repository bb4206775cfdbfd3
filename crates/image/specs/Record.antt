-- A record by itself: its parts, and its refusals 22 to 28 with their columns.
use Rattle.std.specs.Prelude.{ℕ, ◌+◌, ◌-◌, ◌*◌, ◌%◌, Bool, false, not, List, [], ◌∷◌, length, take, drop, ◌==◌, nat_lt, slice_index}
use Rattle.basis.specs.Choice.{pick, either}
use Rattle.basis.specs.Lists.{pair_at}
use Rattle.basis.specs.Refusals.{Answer, refused, given, Rule, ◌when◌, first}
use Rattle.basis.specs.Sums.{sum_of}
use Rattle.image.specs.Digits.{first_bad, decoded}

-- ---- the parts of a record, of its bytes

-- BB
abbrev pub count : List ℕ → ℕ
count b = slice_index b 0

-- AAAA
abbrev pub address : List ℕ → ℕ
address b = pair_at b 1

-- TT
abbrev pub kind : List ℕ → ℕ
kind b = slice_index b 3

-- the BB bytes
abbrev pub payload : List ℕ → List ℕ
payload b = take (count b) (drop 4 b)

-- the value of the two bytes of types 02 and 04
abbrev pub value : List ℕ → ℕ
value b = pair_at b 4

-- the characters of a record of no bytes, the shortest; two more for each byte
abbrev pub record_least : ℕ
record_least = 11

-- the characters of the longest record, of 255 bytes
abbrev pub record_most : ℕ
record_most = 521

-- ---- the tests

-- no colon or empty
abbrev pub no_colon : List ℕ → Bool
no_colon line = either (length line == 0) (not (slice_index line 0 == 0x3A))

-- length under 11, over 521 or even
abbrev pub length_wrong : List ℕ → Bool
length_wrong line =
    either (nat_lt (length line) record_least)
    (either (nat_lt record_most (length line)) (length line % 2 == 0))

-- a character that is no digit
abbrev pub not_digits : List ℕ → Bool
not_digits line = nat_lt (first_bad line) (length line)

-- length not 11 + 2 BB
abbrev pub count_wrong : ℕ → List ℕ → Bool
count_wrong n b = not (n == record_least + 2 * count b)

abbrev pub sum_wrong : List ℕ → Bool
sum_wrong b = not (sum_of b == 0)

abbrev pub is_data : List ℕ → Bool
is_data b = kind b == 0

-- type above 05
abbrev pub kind_wrong : List ℕ → Bool
kind_wrong b = nat_lt 5 (kind b)

-- 03 and 05 name a start address
abbrev pub is_start : ℕ → Bool
is_start k = either (k == 3) (k == 5)

-- BB by the type: 01 has 0, 02 and 04 have 2, 03 and 05 have 4
abbrev pub count_for : ℕ → ℕ
count_for k = pick (k == 1) 0 (pick (is_start k) 4 2)

-- BB wrong for the type
abbrev pub count_unfit : List ℕ → Bool
count_unfit b = not (count b == count_for (kind b))

-- BB or AAAA wrong for the type: data has any, each other type its BB and AAAA 0
abbrev pub shape_wrong : List ℕ → Bool
shape_wrong b = pick (is_data b) false (either (count_unfit b) (not (address b == 0)))

-- ---- the rows of the paper's table, and the cuts: what one part of them says

-- 22 to 24, of the characters
abbrev pub character_rows : List ℕ → List Rule
character_rows line = 22 when no_colon line ∷ 23 when length_wrong line ∷ 24 when not_digits line ∷ []

unfoldable pub characters_of : List ℕ → Answer Unit
characters_of line = first (character_rows line) (given tt)

-- the bytes that are decoded by then: none where 22 or 23 came
abbrev pub decoded_bytes : List ℕ → List ℕ
decoded_bytes line = pick (either (no_colon line) (length_wrong line)) [] (decoded (drop 1 line))

-- 25 and 26, of the bytes of a record of n characters
abbrev pub byte_rows : ℕ → List ℕ → List Rule
byte_rows n b = 25 when count_wrong n b ∷ 26 when sum_wrong b ∷ []

unfoldable pub framing_of : ℕ → List ℕ → Answer Unit
framing_of n b = first (byte_rows n b) (given tt)

-- 27 and 28, of type and shape
abbrev pub shape_rows : List ℕ → List Rule
shape_rows b = 27 when kind_wrong b ∷ 28 when shape_wrong b ∷ []

unfoldable pub shape_of : List ℕ → Answer Unit
shape_of b = first (shape_rows b) (given tt)

-- ---- the columns

-- the column of a refusal of this line, counted from 0
unfoldable pub column_of : ℕ → List ℕ → ℕ
column_of k line =
    -- the colon's place
    pick (k == 22) 0
    -- the line's length
    (pick (either (k == 23) (k == 25)) (length line)
    -- the first bad character
    (pick (k == 24) (first_bad line)
    -- the checksum's first digit
    (pick (k == 26) (length line - 2)
    -- the type's first digit
    (pick (k == 27) 7
    -- the count's first digit if the count is wrong, else the address's
    (pick (k == 28) (pick (count_unfit (decoded (drop 1 line))) 1 3)
    -- other refusals
    0)))))

-- an answer to a line: wrong, with the paper's number and the column, or right
pub data Pointed (A : Type 0) : Type 0 where
  wrong : ℕ → ℕ → Pointed A
  right : A → Pointed A

-- a refusal with its column
abbrev pub pointed : {A : Type 0} → List ℕ → Answer A → Pointed A
pointed line (refused k) = wrong k (column_of k line)
pointed line (given x) = right x

-- where there is none, as at the start and at closing
abbrev pub no_line : List ℕ
no_line = []
