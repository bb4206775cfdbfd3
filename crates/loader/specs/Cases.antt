-- The paper's cases marked (p), as one list in its order, for every flash of the board's size.
-- They stand on the short board, with the long one's beside them; the list ends with what read protection
-- and greeting are on each.
-- Those of the loader are of its entry: serving, as from the factory, it is given the whole packet.
use Rattle.std.specs.Prelude.{ℕ, ◌+◌, ◌-◌, ◌<◌, List, [], ◌∷◌, ◌++◌, ◌≡◌, length, get_or, set, take, drop, replicate}
use Rattle.basis.specs.Board.{pages_of, page_size, opening_byte, ack_byte, bel_byte}
use Rattle.basis.specs.Refusals.{refused, given}
use Rattle.basis.specs.Units.{start_of}
use Rattle.basis.specs.declared.board.Board.{Board}
use Rattle.image.specs.Flash.{store_of}
use Rattle.loader.specs.Protection.{none, with_group, with_read}
use Rattle.loader.specs.State.{factory_of, with_condition, with_added}
use Rattle.loader.specs.Take.{take_of, answer_bytes}
use Rattle.loader.specs.declared.protection.Protection.{Protection}
use Rattle.loader.specs.declared.state.Condition.TheVariants.{Serving}
use Rattle.loader.specs.declared.state.Loader.{Loader}
use Rattle.packet.specs.Packet.{packet}
use Rattle.packet.specs.Table.{erase_byte, write_byte, verify_byte, protect_byte, run_byte}
use Rattle.packet.specs.Turn.{turned_of}

-- all of a list of statements hold
abbrev pub Holds : List (Type 0) → Type 0
Holds [] = Unit {0}
Holds (c ∷ s) = c × Holds s

-- the last byte of a packet
abbrev pub checksum : List ℕ → ℕ
checksum s = get_or s (length s - 1) 0

abbrev pub serving : Loader
serving = with_condition factory_of Serving

-- and with a protect sequence open, to which so much was added
abbrev pub opened : Protection → Loader
opened p = with_added serving p

-- the loader l accepts the input with the answer bytes w alone, and loader and flash are m and g then
abbrev pub Gives : ℕ → Loader → List ℕ → ℕ → List ℕ → List ℕ → Loader → List ℕ → Type 0
Gives board l f room s w m g =
    (take_of board l s f room ≡ given (record { loader = m; flash = g }))
    × (answer_bytes board l (take_of board l s f room) ≡ w)

-- the input is accepted with ACK alone, the loader goes on as it was, and flash is g then
abbrev pub Accepts : ℕ → List ℕ → ℕ → List ℕ → List ℕ → Type 0
Accepts board f room s g = Gives board serving f room s (ack_byte ∷ []) serving g

-- P 0x0F at the address a is accepted with ACK alone, and p is what the sequence has added then
abbrev pub Adds : ℕ → List ℕ → ℕ → ℕ → Protection → Type 0
Adds board f room a p =
    Gives board (opened none) f room (packet protect_byte a (0x0F ∷ [])) (ack_byte ∷ []) (opened p) f

-- the single 08 is answered with the bytes w, and the loader serves then
abbrev pub Greets : ℕ → List ℕ → ℕ → List ℕ → Type 0
Greets board f room w = Gives board factory_of f room (opening_byte ∷ []) w serving f

-- the loader l refuses the input with the number n and BEL alone; loader and flash stay (`effect_after`)
abbrev pub Refuses : ℕ → Loader → List ℕ → ℕ → List ℕ → ℕ → Type 0
Refuses board l f room s n =
    (take_of board l s f room ≡ refused n) × (answer_bytes board l (take_of board l s f room) ≡ bel_byte ∷ [])

-- flash with page p erased and every other byte as it was
abbrev pub page_erased : ℕ → List ℕ → List ℕ
page_erased p f = take (start_of p) f ++ (replicate page_size 0xFF ++ drop (start_of p + page_size) f)

-- the cases, for a short flash f, a long flash g, and an answer buffer with so much room
abbrev pub cases : List ℕ → List ℕ → ℕ → List (Type 0)
cases f g room =
    let short : ℕ = pages_of Board.Short in
    let long : ℕ = pages_of Board.Long in
    -- turned 0x81 is 0x0C; 0x12 is 0x90; 0x34 is 0xA1
    (turned_of 0x81 ≡ 0x0C)
    ∷ (turned_of 0x12 ≡ 0x90)
    ∷ (turned_of 0x34 ≡ 0xA1)
    -- R with address 1 has checksum A8; P type 0x01 with key 0x12345678 has 95;
    -- P 0x0F at 0xF800 has A3, at 0x800 has 93
    ∷ (checksum (packet run_byte 1 []) ≡ 0xA8)
    ∷ (checksum (packet protect_byte 0x12345678 (0x01 ∷ [])) ≡ 0x95)
    ∷ (checksum (packet protect_byte 0xF800 (0x0F ∷ [])) ≡ 0xA3)
    ∷ (checksum (packet protect_byte 0x800 (0x0F ∷ [])) ≡ 0x93)
    -- E at 0x01FF count 1 erases page 0
    ∷ Accepts short f room (packet erase_byte 0x01FF (1 ∷ [])) (page_erased 0 f)
    -- E at 0xF600 count 1 is accepted, count 2 is 7; count 0 at address 1 is 7
    ∷ Accepts short f room (packet erase_byte 0xF600 (1 ∷ [])) (page_erased 123 f)
    ∷ Refuses short serving f room (packet erase_byte 0xF600 (2 ∷ [])) 7
    ∷ Refuses short serving f room (packet erase_byte 1 (0 ∷ [])) 7
    -- on the long board E at 0x1EE00 count 1 is accepted, count 2 is 7
    ∷ Accepts long g room (packet erase_byte 0x1EE00 (1 ∷ [])) (page_erased 247 g)
    ∷ Refuses long serving g room (packet erase_byte 0x1EE00 (2 ∷ [])) 7
    -- W of 1 byte at 0xF7FF is accepted, of 2 is 7
    ∷ ((b : ℕ) → Accepts short f room (packet write_byte 0xF7FF (b ∷ [])) (store_of f 0xF7FF (b ∷ [])))
    ∷ ((b c : ℕ) → Refuses short serving f room (packet write_byte 0xF7FF (b ∷ c ∷ [])) 7)
    -- on the long board W of 1 byte at 0x1EFFF is accepted, of 2 is 7
    ∷ ((b : ℕ) → Accepts long g room (packet write_byte 0x1EFFF (b ∷ [])) (store_of g 0x1EFFF (b ∷ [])))
    ∷ ((b c : ℕ) → Refuses long serving g room (packet write_byte 0x1EFFF (b ∷ c ∷ [])) 7)
    -- W 0x0F over 0xF0 leaves 0x00; V of 0x0F is then 10
    ∷ ((a : ℕ) → a < start_of short → get_or f a 0 ≡ 0xF0
    → Accepts short f room (packet write_byte a (0x0F ∷ [])) (set f a 0x00)
    × Refuses short serving (set f a 0x00) room (packet verify_byte a (0x0F ∷ [])) 10)
    -- N = 4 is 3 even if bytes are missing
    ∷ ((s : List ℕ) → Refuses short serving f room (0x07 ∷ 0x0E ∷ 0x04 ∷ s) 3)
    -- P 0x0F on the short board at 0xF800 and 0xFFFF is read protection, at 0x10000 it is 7
    ∷ Adds short f room 0xF800 (with_read none)
    ∷ Adds short f room 0xFFFF (with_read none)
    ∷ Refuses short (opened none) f room (packet protect_byte 0x10000 (0x0F ∷ [])) 7
    -- on the long board at 0xF800 it adds group 31, at 0x1F000 and 0x1F7FF it is read protection,
    -- at 0x1F800 it is 7
    ∷ Adds long g room 0xF800 (with_group none 31)
    ∷ Adds long g room 0x1F000 (with_read none)
    ∷ Adds long g room 0x1F7FF (with_read none)
    ∷ Refuses long (opened none) g room (packet protect_byte 0x1F800 (0x0F ∷ [])) 7
    -- the greeting of the short board, and that of the long one
    ∷ Greets short f room
    (0x41 ∷ 0x44 ∷ 0x75 ∷ 0x43 ∷ 0x37 ∷ 0x30 ∷ 0x32 ∷ 0x78 ∷ 0x20 ∷ 0x20 ∷ 0x20
    ∷ 0x2D ∷ 0x36 ∷ 0x32 ∷ 0x20
    ∷ 0x49 ∷ 0x33 ∷ 0x31 ∷ 0x20 ∷ 0x20 ∷ 0x20 ∷ 0x20 ∷ 0x0A ∷ 0x0D ∷ [])
    ∷ Greets long g room
    (0x41 ∷ 0x44 ∷ 0x75 ∷ 0x43 ∷ 0x37 ∷ 0x30 ∷ 0x32 ∷ 0x78 ∷ 0x20 ∷ 0x20 ∷ 0x20
    ∷ 0x2D ∷ 0x31 ∷ 0x32 ∷ 0x34
    ∷ 0x49 ∷ 0x33 ∷ 0x31 ∷ 0x20 ∷ 0x20 ∷ 0x20 ∷ 0x20 ∷ 0x0A ∷ 0x0D ∷ [])
    ∷ []
