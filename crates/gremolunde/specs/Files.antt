-- Hex files for C: what the reader and the writer say on the board of so many pages, or 65.
use Rattle.std.specs.Prelude.{ℕ, List}
use Rattle.basis.specs.Board.{pages_of, board_of}
use Rattle.basis.specs.Refusals.{Answer, on_board}
use Rattle.basis.specs.Units.{start_of}
use Rattle.basis.specs.declared.board.Board.{Board}
use Rattle.gremolunde.specs.States.{hex_meant}
use Rattle.gremolunde.specs.declared.states.HexState.{HexState}
use Rattle.image.specs.Hex.{Settled, settled, start_in, record_in, close_of}
use Rattle.image.specs.Record.{Pointed, pointed, no_line}
use Rattle.image.specs.Writer.{Step, write_in}
use Rattle.image.specs.declared.hex.Hex.{Hex}

-- a start, with image and map as they then stand
abbrev pub start_on : ℕ → ℕ → List ℕ → List ℕ → Settled
start_on board rules image map =
    let a = on_board (board_of board) (λ (b : Board). start_in (start_of (pages_of b)) rules image map) in
    settled (pointed no_line a) image map

-- a record
abbrev pub record_on : HexState → List ℕ → List ℕ → List ℕ → Settled
record_on s line image map =
    let h = hex_meant s in
    let a = on_board (board_of s.board) (λ (b : Board). record_in (start_of (pages_of b)) h line image map) in
    settled (pointed line a) image map

-- the end of the file
abbrev pub close_on : HexState → Pointed Hex
close_on s = pointed no_line (on_board (board_of s.board) (λ (b : Board). close_of (hex_meant s)))

-- the next record that is written
abbrev pub write_on : ℕ → List ℕ → List ℕ → ℕ → ℕ → ℕ → Answer Step
write_on board image map a u n =
    on_board (board_of board) (λ (b : Board). write_in (start_of (pages_of b)) image map a u n)
