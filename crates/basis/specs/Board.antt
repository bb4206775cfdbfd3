-- The boards: their sizes, what a packet carries to one, how each greets, and its version of the service log.
use Rattle.std.specs.Prelude.{ℕ, ◌+◌, ◌*◌, List, [], ◌∷◌, ◌==◌, nat_eq, Option, Some, None}
use Rattle.basis.specs.Choice.{pick}
use Rattle.basis.specs.declared.board.Board.{Board}

-- a page has 512 bytes, and a group 4 pages: 0x800 bytes
abbrev pub page_size : ℕ
page_size = 512

abbrev pub group_pages : ℕ
group_pages = 4

abbrev pub group_size : ℕ
group_size = group_pages * page_size

-- the short board has 124 pages, 0xF800 bytes; the long one 248 pages, 0x1F000 bytes
abbrev pub pages_of : Board → ℕ
pages_of Board.Short = 124
pages_of Board.Long = 248

-- no board has more
abbrev pub pages_most : ℕ
pages_most = 248

-- the board that a number names, where each board has its own
abbrev pub board_by : (Board → ℕ) → ℕ → Option Board
board_by f n =
    pick (n == f Board.Short) (Some Board.Short)
    (pick (n == f Board.Long) (Some Board.Long) None)

-- the board of so many pages
abbrev pub board_of : ℕ → Option Board
board_of = board_by pages_of

-- a packet carries at most 250 bytes of a file, and so a piece has no more
abbrev pub data_most : ℕ
data_most = 250

-- the byte that opens the board
abbrev pub opening_byte : ℕ
opening_byte = 0x08

-- what the loader answers to a packet that it accepts (ACK), and to one that it refuses (BEL)
abbrev pub ack_byte : ℕ
ack_byte = 0x06

abbrev pub bel_byte : ℕ
bel_byte = 0x07

-- no answer is longer than the greeting
abbrev pub answer_most : ℕ
answer_most = 24

-- "ADuC702x", three spaces, "-62" and one space on the short board, "-124" with no space after on the long
-- one, "I31", four spaces, 0A 0D
abbrev pub greeting_of : ℕ → List ℕ
greeting_of board =
    let short = nat_eq board (pages_of Board.Short) in
    0x41 ∷ 0x44 ∷ 0x75 ∷ 0x43 ∷ 0x37 ∷ 0x30 ∷ 0x32 ∷ 0x78
    ∷ 0x20 ∷ 0x20 ∷ 0x20
    ∷ 0x2D ∷ pick short 0x36 0x31 ∷ 0x32 ∷ pick short 0x20 0x34
    ∷ 0x49 ∷ 0x33 ∷ 0x31
    ∷ 0x20 ∷ 0x20 ∷ 0x20 ∷ 0x20
    ∷ 0x0A ∷ 0x0D
    ∷ []

-- the service log's version for a board: 1 with two-byte counts, 2 with four-byte counts
abbrev pub version_of : Board → ℕ
version_of Board.Short = 1
version_of Board.Long = 2

abbrev pub count_bytes : Board → ℕ
count_bytes Board.Short = 2
count_bytes Board.Long = 4

-- what its length field says, version, outcome and three counts: 0x0008 or 0x000E
abbrev pub log_length : Board → ℕ
log_length b = 2 + 3 * count_bytes b

-- the board whose log has this length
abbrev pub board_logged : ℕ → Option Board
board_logged = board_by log_length
