-- The hex writer: the next record from an address and an upper half, on a board of `size` bytes.
use Rattle.std.specs.Prelude.{ℕ, ◌+◌, ◌-◌, ◌/◌, ◌%◌, not, ltb, List, [], ◌∷◌, ◌++◌, length, take, drop, ◌==◌, nat_le, nat_lt}
use Rattle.basis.specs.Units.{right_sizes_in}
use Rattle.basis.specs.Choice.{pick}
use Rattle.basis.specs.Refusals.{Answer, refused, given, ◌when◌, first}
use Rattle.basis.specs.Sums.{checksum_of}
use Rattle.runs.specs.Map.{named}
use Rattle.runs.specs.Runs.{len, next}

-- the upper case character of a digit
unfoldable pub letter_of : ℕ → ℕ
letter_of d = pick (nat_lt d 10) (0x30 + d) (0x37 + d)

-- bytes as characters, two a byte, the higher digit first
unfoldable pub spelt : List ℕ → List ℕ
spelt [] = []
spelt (x ∷ s) = letter_of (x / 16) ∷ letter_of (x % 16) ∷ spelt s

-- count, address, type and bytes
abbrev pub content : ℕ → ℕ → List ℕ → List ℕ
content address kind s = length s ∷ address / 256 ∷ address % 256 ∷ kind ∷ s

-- a record as the reader takes it: colon, content and checksum
abbrev pub line : ℕ → ℕ → List ℕ → List ℕ
line address kind s = 0x3A ∷ spelt (content address kind s ++ (checksum_of (content address kind s) ∷ []))

-- closed by 0A
unfoldable pub text : ℕ → ℕ → List ℕ → List ℕ
text address kind s = line address kind s ++ (0x0A ∷ [])

-- what is written, the address to go on from, and the upper half last written
pub record Step : Type 0 where
  pub text : List ℕ
  pub next : ℕ
  pub upper : ℕ

abbrev pub step : List ℕ → ℕ → ℕ → Step
step s a u = record { text = s; next = a; upper = u }

-- the upper and the lower half of a place
abbrev pub upper_half : ℕ → ℕ
upper_half a = a / 65536

abbrev pub lower_half : ℕ → ℕ
lower_half a = a % 65536

-- the 04 record of an upper half, which is its two bytes
abbrev pub upper_bytes : ℕ → List ℕ
upper_bytes u = u / 256 ∷ u % 256 ∷ []

abbrev pub upper_text : ℕ → List ℕ
upper_text u = text 0 4 (upper_bytes u)

-- how much of the run at a goes into its record: up to the next multiple of 16
abbrev pub record_part : List ℕ → ℕ → ℕ
record_part map a = len (named map) a (16 - a % 16)

-- the data record at place k; AAAA is the lower half
abbrev pub record_from : List ℕ → List ℕ → ℕ → ℕ → Step
record_from image map u k =
    step (text (lower_half k) 0 (take (record_part map k) (drop k image))) (k + record_part map k) u

-- the lowest named place from address a on being k: where the upper half changes a 04 record, the address
-- kept; else the data record
abbrev pub record_at : List ℕ → List ℕ → ℕ → ℕ → ℕ → Step
record_at image map a u k =
    pick (upper_half k == u) (record_from image map u k) (step (upper_text (upper_half k)) a (upper_half k))

-- the lowest named place from a on, or the board's size
abbrev pub lowest : ℕ → List ℕ → ℕ → ℕ
lowest size map a = next (named map) a (size - a)

-- above the board nothing; with no named byte left the end record, and on from one past the board;
-- both leave the upper half; else the record at the lowest
unfoldable pub step_from : ℕ → List ℕ → List ℕ → ℕ → ℕ → Step
step_from size image map a u =
    pick (nat_lt size a) (step [] a u)
    (pick (nat_le size (lowest size map a)) (step (text 0 1 []) (size + 1) u)
    (record_at image map a u (lowest size map a)))

-- the room that a record asks for: the characters of 16 bytes, and 0A
abbrev pub record_room : ℕ
record_room = 44

-- writing into a buffer of n bytes: 20, 33, else the next record
unfoldable pub write_in : ℕ → List ℕ → List ℕ → ℕ → ℕ → ℕ → Answer Step
write_in size image map a u n =
    first
    (20 when not (right_sizes_in size (length image) (length map))
    ∷ 33 when ltb n record_room ∷ [])
    (given (step_from size image map a u))

-- the length of what is written, the address to go on from, and the upper half last written
pub record Measured : Type 0 where
  pub length : ℕ
  pub next : ℕ
  pub upper : ℕ

-- what is given of a step
abbrev pub measured : Answer Step → Answer Measured
measured (refused n) = refused n
measured (given s) = given (record { length = length s.text; next = s.next; upper = s.upper })

-- a refusal writes nothing
abbrev pub text_bytes : Answer Step → List ℕ
text_bytes (refused n) = []
text_bytes (given s) = s.text
