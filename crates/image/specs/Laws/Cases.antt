-- The paper's records, start records and columns, read by a fresh reader on a board of 272 bytes; records
-- that run past offset 0xFFFF, under both rule sets; and records written.
use Rattle.std.specs.Prelude.{◌≡◌, ℕ, ◌*◌, Bool, true, false, List, [], ◌∷◌, ◌++◌, length, replicate, ◌==◌, slice_index, slice_set, refl}
use Rattle.basis.specs.Choice.{both, all, any}
use Rattle.basis.specs.Units.{start_of}
use Rattle.basis.specs.Refusals.{Answer, refused, given, first}
use Rattle.basis.specs.Sums.{plain_sum, sum_of}
use Rattle.image.specs.Digits.{digit_of, digits_before, decoded}
use Rattle.image.specs.Hex.{File, hex, fresh, place, put_each, name_each, record_in}
use Rattle.image.specs.Record.{column_of, Pointed, wrong, right, pointed}
use Rattle.image.specs.RoundTrip.{lines, records_most}
use Rattle.image.specs.Writer.{letter_of, spelt, Step, step, text, step_from}
use Rattle.runs.specs.Runs.{len, next}
use Rattle.runs.specs.Map.{named, name_of}

-- a line, read, and a record of these bytes
abbrev on_line : List ℕ → Answer File
on_line l = record_in 272 (fresh 1) l (replicate 272 0xFF) (replicate 34 0)

abbrev on : List ℕ → Answer File
on b = on_line (0x3A ∷ spelt b)

-- the number of its refusal, or 0
abbrev number : Answer File → ℕ
number (refused n) = n
number (given f) = 0

-- the byte at an address, and the linear base
abbrev byte_at : Answer File → ℕ → ℕ
byte_at (refused n) a = 0
byte_at (given f) a = slice_index f.image a

abbrev linear : Answer File → ℕ
linear (refused n) = 0
linear (given f) = f.reader.linear

-- accepted, and image and map stand as at the start
abbrev unchanged : Answer File → Bool
unchanged (refused n) = false
unchanged (given f) = both (plain_sum f.image == 272 * 0xFF) (plain_sum f.map == 0)

-- refused with this number and this column
abbrev told : ℕ → ℕ → Pointed File → Bool
told n c (wrong k d) = both (k == n) (d == c)
told n c (right f) = false

abbrev wrong_at : ℕ → ℕ → List ℕ → Bool
wrong_at n c l = told n c (pointed l (on_line l))

-- :00000001FF
abbrev end_line : List ℕ
end_line = 0x3A ∷ spelt (0x00 ∷ 0x00 ∷ 0x00 ∷ 0x01 ∷ 0xFF ∷ [])

abbrev cases : List Bool
cases =
    -- :020000001234B8 is right, and its bytes stand in the image
    (number (on (0x02 ∷ 0x00 ∷ 0x00 ∷ 0x00 ∷ 0x12 ∷ 0x34 ∷ 0xB8 ∷ [])) == 0)
    ∷ (byte_at (on (0x02 ∷ 0x00 ∷ 0x00 ∷ 0x00 ∷ 0x12 ∷ 0x34 ∷ 0xB8 ∷ [])) 1 == 0x34)
    -- :00000001FF is right
    ∷ (number (on (0x00 ∷ 0x00 ∷ 0x00 ∷ 0x01 ∷ 0xFF ∷ [])) == 0)
    -- :020000040108EA is 26; F1 is right
    ∷ (number (on (0x02 ∷ 0x00 ∷ 0x00 ∷ 0x04 ∷ 0x01 ∷ 0x08 ∷ 0xEA ∷ [])) == 26)
    ∷ (linear (on (0x02 ∷ 0x00 ∷ 0x00 ∷ 0x04 ∷ 0x01 ∷ 0x08 ∷ 0xF1 ∷ [])) == 0x01080000)
    -- :0200000212FFBD needs EB
    ∷ (number (on (0x02 ∷ 0x00 ∷ 0x00 ∷ 0x02 ∷ 0x12 ∷ 0xFF ∷ 0xBD ∷ [])) == 26)
    ∷ (number (on (0x02 ∷ 0x00 ∷ 0x00 ∷ 0x02 ∷ 0x12 ∷ 0xFF ∷ 0xEB ∷ [])) == 0)
    -- :0401000090FFAA5502 needs 6D
    ∷ (number (on (0x04 ∷ 0x01 ∷ 0x00 ∷ 0x00 ∷ 0x90 ∷ 0xFF ∷ 0xAA ∷ 0x55 ∷ 0x02 ∷ [])) == 26)
    ∷ (number (on (0x04 ∷ 0x01 ∷ 0x00 ∷ 0x00 ∷ 0x90 ∷ 0xFF ∷ 0xAA ∷ 0x55 ∷ 0x6D ∷ [])) == 0)
    -- start records have four bytes, which change nothing; :020000030000FB and :020000050000F9 are 28
    ∷ unchanged (on (0x04 ∷ 0x00 ∷ 0x00 ∷ 0x03 ∷ 0x00 ∷ 0x00 ∷ 0x08 ∷ 0x00 ∷ 0xF1 ∷ []))
    ∷ unchanged (on (0x04 ∷ 0x00 ∷ 0x00 ∷ 0x05 ∷ 0x00 ∷ 0x00 ∷ 0x08 ∷ 0x00 ∷ 0xEF ∷ []))
    ∷ (number (on (0x02 ∷ 0x00 ∷ 0x00 ∷ 0x03 ∷ 0x00 ∷ 0x00 ∷ 0xFB ∷ [])) == 28)
    ∷ (number (on (0x02 ∷ 0x00 ∷ 0x00 ∷ 0x05 ∷ 0x00 ∷ 0x00 ∷ 0xF9 ∷ [])) == 28)
    -- data of count 0 at 0xFFFF is accepted and changes nothing
    ∷ unchanged (on (0x00 ∷ 0xFF ∷ 0xFF ∷ 0x00 ∷ 0x02 ∷ []))
    -- the board's last byte is taken, one more is 29, which has no column
    ∷ (number (on (0x01 ∷ 0x01 ∷ 0x0F ∷ 0x00 ∷ 0x00 ∷ 0xEF ∷ [])) == 0)
    ∷ wrong_at 29 0 (0x3A ∷ spelt (0x02 ∷ 0x01 ∷ 0x0F ∷ 0x00 ∷ 0x00 ∷ 0x00 ∷ 0xEE ∷ []))
    -- the colon's place; the line's length, a 0D and a wrong count
    ∷ wrong_at 22 0 (slice_set end_line 0 0x58)
    ∷ wrong_at 23 12 (end_line ++ (0x0D ∷ []))
    ∷ wrong_at 25 11 (slice_set end_line 2 0x31)
    -- the first bad character: the last of the line, the first of two
    ∷ wrong_at 24 10 (slice_set end_line 10 0x47)
    ∷ wrong_at 24 1 (slice_set (slice_set end_line 1 0x47) 2 0x47)
    -- the checksum's first digit; the type's
    ∷ wrong_at 26 9 (slice_set end_line 10 0x45)
    ∷ wrong_at 27 7 (0x3A ∷ spelt (0x00 ∷ 0x00 ∷ 0x00 ∷ 0x06 ∷ 0xFA ∷ []))
    -- the count's first digit, also where the address is wrong too; the address's
    ∷ wrong_at 28 1 (0x3A ∷ spelt (0x01 ∷ 0x00 ∷ 0x00 ∷ 0x01 ∷ 0x00 ∷ 0xFE ∷ []))
    ∷ wrong_at 28 1 (0x3A ∷ spelt (0x01 ∷ 0x00 ∷ 0x01 ∷ 0x01 ∷ 0x00 ∷ 0xFD ∷ []))
    ∷ wrong_at 28 3 (0x3A ∷ spelt (0x00 ∷ 0x00 ∷ 0x01 ∷ 0x01 ∷ 0xFE ∷ []))
    ∷ []

pub record-cases : all cases ≡ true
unfolding first record_in column_of digit_of digits_before decoded any put_each name_each named name_of plain_sum sum_of letter_of spelt
record-cases = refl

-- ---- the two rule sets, on a board of 0x10010 bytes

-- :04FFFE001122334455, four bytes of which the last two run past offset 0xFFFF
abbrev running : List ℕ
running = 0x04 ∷ 0xFF ∷ 0xFE ∷ 0x00 ∷ 0x11 ∷ 0x22 ∷ 0x33 ∷ 0x44 ∷ 0x55 ∷ []

-- read under a rule set, with these bases, under 02 or not, with this place named before
abbrev ran : ℕ → ℕ → ℕ → Bool → ℕ → ℕ
ran rules linear segment segmented before =
    number
    (record_in 0x10010 (hex rules linear segment segmented false false) (0x3A ∷ spelt running)
    (replicate 0x10010 0xFF) (name_of (replicate 0x2002 0) before))

-- taken, its four bytes at these places
abbrev lands : ℕ → ℕ → ℕ → Bool → ℕ → ℕ → ℕ → ℕ → Bool
lands rules linear segment segmented p q r s =
    let at = place (hex rules linear segment segmented false false) running in
    all
    ((ran rules linear segment segmented 5 == 0)
    ∷ (at 0 == p) ∷ (at 1 == q) ∷ (at 2 == r) ∷ (at 3 == s) ∷ [])

abbrev set_cases : List Bool
set_cases =
    -- set 1 adds both bases and does not wrap
    lands 1 0 0 true 0xFFFE 0xFFFF 0x10000 0x10001
    ∷ lands 1 1 2 true 0x10001 0x10002 0x10003 0x10004
    -- set 2 under 02: both ends of the segment; the linear base is not looked at
    ∷ lands 2 0x50000 0 true 0xFFFE 0xFFFF 0x0 0x1
    ∷ lands 2 0 0x10 true 0x1000E 0x1000F 0x10 0x11
    -- set 2 otherwise: no wrap; the segment base is not looked at
    ∷ lands 2 0 0x50000 false 0xFFFE 0xFFFF 0x10000 0x10001
    -- one byte of the high part past the board, though both ends of the record lie on it
    ∷ (ran 2 0 0x11 true 5 == 29)
    -- a place named before, in the high part and in the low one
    ∷ (ran 2 0 0 true 0xFFFF == 30)
    ∷ (ran 2 0 0 true 1 == 30)
    -- which set 1 leaves free
    ∷ (ran 1 0 0 true 1 == 0)
    -- unknown sets
    ∷ (ran 0 0 0 true 1 == 34)
    ∷ (ran 3 0 0 true 1 == 34)
    ∷ []

pub set-cases : all set_cases ≡ true
unfolding first record_in column_of digit_of digits_before decoded any put_each name_each named name_of plain_sum sum_of letter_of spelt
set-cases = refl

-- ---- what is written

-- :020000040000FA
abbrev upper_zero : List ℕ
upper_zero =
    0x3A ∷ 0x30 ∷ 0x32 ∷ 0x30 ∷ 0x30 ∷ 0x30 ∷ 0x30 ∷ 0x30 ∷ 0x34
    ∷ 0x30 ∷ 0x30 ∷ 0x30 ∷ 0x30 ∷ 0x46 ∷ 0x41 ∷ 0x0A ∷ []

-- :02000500FFFFFB
abbrev data_five : List ℕ
data_five =
    0x3A ∷ 0x30 ∷ 0x32 ∷ 0x30 ∷ 0x30 ∷ 0x30 ∷ 0x35 ∷ 0x30 ∷ 0x30
    ∷ 0x46 ∷ 0x46 ∷ 0x46 ∷ 0x46 ∷ 0x46 ∷ 0x42 ∷ 0x0A ∷ []

-- :00000001FF
abbrev end_text : List ℕ
end_text =
    0x3A ∷ 0x30 ∷ 0x30 ∷ 0x30 ∷ 0x30 ∷ 0x30 ∷ 0x30 ∷ 0x30 ∷ 0x31
    ∷ 0x46 ∷ 0x46 ∷ 0x0A ∷ []

-- :020000040001F9
abbrev upper_one : List ℕ
upper_one =
    0x3A ∷ 0x30 ∷ 0x32 ∷ 0x30 ∷ 0x30 ∷ 0x30 ∷ 0x30 ∷ 0x30 ∷ 0x34
    ∷ 0x30 ∷ 0x30 ∷ 0x30 ∷ 0x31 ∷ 0x46 ∷ 0x39 ∷ 0x0A ∷ []

-- :01000000FF00
abbrev data_one : List ℕ
data_one =
    0x3A ∷ 0x30 ∷ 0x31 ∷ 0x30 ∷ 0x30 ∷ 0x30 ∷ 0x30 ∷ 0x30 ∷ 0x30
    ∷ 0x46 ∷ 0x46 ∷ 0x30 ∷ 0x30 ∷ 0x0A ∷ []

-- of a file of 272 bytes with the places 5 and 6 named
abbrev from_low : ℕ → ℕ → Step
from_low a u = step_from 272 (replicate 272 0xFF) (0x60 ∷ replicate 33 0) a u

-- of one of 0x10010 bytes with the place 0x10000 named
abbrev from_high : ℕ → ℕ → Step
from_high a u = step_from 0x10010 (replicate 0x10010 0xFF) (replicate 0x2000 0 ++ (0x01 ∷ 0x00 ∷ [])) a u

-- a given upper half other than the place's gets its 04 record, the address kept; then the data record comes
pub writer-cases :
    (from_low 3 1 ≡ step upper_zero 3 0)
    × (from_low 3 0 ≡ step data_five 7 0)
    × (from_high 0xFFFF 0 ≡ step upper_one 0xFFFF 1)
    × (from_high 0xFFFF 1 ≡ step data_one 0x10001 1)
    × (from_low 7 1 ≡ step end_text 273 1)
    × (from_low 273 1 ≡ step [] 273 1)
unfolding step_from text sum_of plain_sum letter_of spelt named len next
writer-cases = (refl, refl, refl, refl, refl, refl)

-- a file that names every second byte has as many records as a file can have; what that is on the two boards
pub most-cases :
    (length (lines 32 (replicate 32 0xFF) (replicate 4 0x55) 0 0 100) ≡ records_most 32)
    × (records_most (start_of 124) ≡ 31745)
    × (records_most (start_of 248) ≡ 63490)
unfolding lines step_from text sum_of plain_sum letter_of spelt named len next
most-cases = (refl, refl, refl)
