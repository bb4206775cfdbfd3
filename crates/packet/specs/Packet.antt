-- The packet, what building one gives, and what reading one gives.
use Rattle.std.specs.Prelude.{ℕ, ◌+◌, ◌-◌, ◌*◌, ◌/◌, ◌%◌, Bool, not, List, [], ◌∷◌, ◌++◌, map, leb, ltb, eqb, length, get_or, take, drop}
use Rattle.basis.specs.Board.{data_most}
use Rattle.basis.specs.Choice.{pick, both}
use Rattle.basis.specs.Refusals.{Answer, given, Rule, ◌when◌, first}
use Rattle.basis.specs.Sums.{sum_of, checksum_of}
use Rattle.packet.specs.Table.{verify_byte, table}
use Rattle.packet.specs.Turn.{turned_of, restored_of}

-- a 32-bit address, most significant byte first
abbrev pub address_bytes : ℕ → List ℕ
address_bytes a = a / 16777216 % 256 ∷ a / 65536 % 256 ∷ a / 256 % 256 ∷ a % 256 ∷ []

-- the two bytes that a packet starts with
abbrev pub start_byte : ℕ
start_byte = 0x07

abbrev pub next_start_byte : ℕ
next_start_byte = 0x0E

-- the eight bytes before the data: 07 0E, count N, the command, the address
abbrev pub front_of : ℕ → ℕ → ℕ → List ℕ
front_of n c a = start_byte ∷ next_start_byte ∷ n ∷ c ∷ address_bytes a

-- a byte as the packet carries it: turned for V
abbrev pub carried_of : ℕ → ℕ → ℕ
carried_of c b = pick (eqb c verify_byte) (turned_of b) b

-- what is summed: N and the N data bytes, and not the start bytes
abbrev pub summed : ℕ → ℕ → List ℕ → List ℕ
summed c a d = (length d + 5) ∷ c ∷ address_bytes a ++ map (carried_of c) d

-- the packet of a command, an address and plain data
unfoldable pub packet : ℕ → ℕ → List ℕ → List ℕ
packet c a d = start_byte ∷ next_start_byte ∷ summed c a d ++ (checksum_of (summed c a d) ∷ [])

-- W and V carry at most 250 bytes, so no packet is longer than 259
abbrev pub packet_most : ℕ
packet_most = data_most + 9

-- building into a buffer with room for so many bytes: 20, 5, 6, else the packet;
-- P's type is the first data byte, 0 where there is none, which no row looks at
unfoldable pub build_of : ℕ → ℕ → ℕ → List ℕ → Answer (List ℕ)
build_of room c a d =
    first (20 when ltb room packet_most ∷ table c (length d + 5) (get_or d 0 0)) (given (packet c a d))

-- where an input has N, the command, the byte after the address, and the address
abbrev pub count : List ℕ → ℕ
count s = get_or s 2 0

abbrev pub command : List ℕ → ℕ
command s = get_or s 3 0

abbrev pub kind : List ℕ → ℕ
kind s = get_or s 8 0

abbrev pub joined : ℕ → ℕ → ℕ → ℕ → ℕ
joined a b c d = a * 16777216 + b * 65536 + c * 256 + d

abbrev pub address : List ℕ → ℕ
address s = joined (get_or s 4 0) (get_or s 5 0) (get_or s 6 0) (get_or s 7 0)

-- the command, the address and the data's place and length
pub record Parts : Type 0 where
  pub command : ℕ
  pub address : ℕ
  pub place : ℕ
  pub size : ℕ

-- what an input says
abbrev pub parts : List ℕ → Parts
parts s = record { command = command s; address = address s; place = 8; size = count s - 5 }

-- the first two bytes
abbrev pub starts_right : List ℕ → Bool
starts_right s =
    both (leb 2 (length s)) (both (eqb (get_or s 0 0) start_byte) (eqb (get_or s 1 0) next_start_byte))

-- a packet that is whole and sums to zero: 5, 6, or what it says
unfoldable pub tabled_of : List ℕ → Answer Parts
tabled_of s = first (table (command s) (count s) (kind s)) (given (parts s))

-- 1 to 4, in the loader's order
unfoldable pub rows : List ℕ → List Rule
rows s =
    1 when not (starts_right s)
    ∷ 2 when leb (length s) 2
    ∷ 3 when ltb (count s) 5
    ∷ 2 when not (eqb (length s) (count s + 4))
    ∷ 4 when not (eqb (sum_of (drop 2 s)) 0)
    ∷ []

-- reading: 1 to 4, then 5, 6 or what the packet says
unfoldable pub read_of : List ℕ → Answer Parts
read_of s = first (rows s) (tabled_of s)

-- what a packet of a command, an address and plain data says
abbrev pub said : ℕ → ℕ → List ℕ → Parts
said c a d = record { command = c; address = a; place = 8; size = length d }

-- a byte as the file has it: that of V turned back
abbrev pub plain : ℕ → ℕ → ℕ
plain c b = pick (eqb c verify_byte) (restored_of b) b

-- the plain data that a reading of s names
abbrev pub plain_data : Parts → List ℕ → List ℕ
plain_data p s = map (plain p.command) (take p.size (drop p.place s))
