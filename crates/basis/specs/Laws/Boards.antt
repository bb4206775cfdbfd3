-- Laws of the boards: what holds of both, so that nobody else need tell them apart.
use Rattle.std.specs.Prelude.{◌≡◌, ℕ, ◌+◌, ◌*◌, ◌%◌, ◌^◌, ◌<◌, ◌≤◌, Bool, true, false, ◌==◌, slice_index, refl, Option, Some, None}
use Rattle.std.proofs.Common.{sym, ap, ◌∙◌, arith, eqb-true}
use Rattle.basis.specs.Board.{pages_of, pages_most, board_by, board_of, greeting_of, count_bytes, log_length, board_logged}
use Rattle.basis.specs.Laws.Choice.{decide, true-false}
use Rattle.basis.specs.Laws.Units.{sizes-right}
use Rattle.basis.specs.Units.{page_group_of, start_of, map_bytes, right_sizes_in}
use Rattle.basis.specs.declared.board.Board.{Board}

-- ---- the board that a number names

board_in : Option Board → Board
board_in None = Board.Short
board_in (Some b) = b

is_known : Option Board → Bool
is_known None = false
is_known (Some b) = true

-- it has that number
pub board-by : (f : Board → ℕ) (n : ℕ) (b : Board) → board_by f n ≡ Some b → f b ≡ n
unfolding board_in is_known
board-by f n b e =
    decide (n == f Board.Short)
    (λ t. ap f (sym (ap board_in (rw t at e))) ∙ sym (eqb-true n _ t))
    (λ t. decide (n == f Board.Long)
    (λ u. ap f (sym (ap board_in (rw (t, u) at e))) ∙ sym (eqb-true n _ u))
    (λ u. absurd (true-false (sym (ap is_known (rw (t, u) at e))))))

-- and its own number names a board
pub board-back : (b : Board) → board_of (pages_of b) ≡ Some b
board-back Board.Short = refl
board-back Board.Long = refl

-- ---- sizes

-- the paper's bytes, map bytes and groups of each board
pub board-sizes :
    (start_of (pages_of Board.Short) ≡ 0xF800) × (map_bytes (pages_of Board.Short) ≡ 7936)
    × (page_group_of (pages_of Board.Short) ≡ 31)
    × (start_of (pages_of Board.Long) ≡ 0x1F000) × (map_bytes (pages_of Board.Long) ≡ 15872)
    × (page_group_of (pages_of Board.Long) ≡ 62)
board-sizes = (refl, refl, refl, refl, refl, refl)

pub pages-few : (b : Board) → pages_of b ≤ pages_most
pages-few Board.Short = omega arith
pages-few Board.Long = omega arith

pub pages-some : (b : Board) → 124 ≤ pages_of b
pages-some Board.Short = omega arith
pages-some Board.Long = omega arith

-- what right sizes say of an image and its map, whatever the board
pub sizes-fit : (b : Board) (i m : ℕ) → right_sizes_in (start_of (pages_of b)) i m ≡ true
    → (i ≡ 8 * m) × (m % 64 ≡ 0) × (i ≤ start_of pages_most)
sizes-fit b i m e =
    let s = sizes-right (start_of (pages_of b)) i m e in
    let few = pages-few b in
    (omega (arith, s.0, s.1), omega (arith, s.1), omega (arith, s.0))

-- two boards that greet alike where the greeting tells the size are one
pub greetings-differ : (a b : Board)
    → slice_index (greeting_of (pages_of a)) 12 ≡ slice_index (greeting_of (pages_of b)) 12 → a ≡ b
greetings-differ Board.Short Board.Short e = refl
greetings-differ Board.Short Board.Long e = absurd (omega (arith, e))
greetings-differ Board.Long Board.Short e = absurd (omega (arith, e))
greetings-differ Board.Long Board.Long e = refl

-- a log's length tells its board
pub logged-back : (b : Board) → board_logged (log_length b) ≡ Some b
logged-back Board.Short = refl
logged-back Board.Long = refl

pub counts-fit : (b : Board) → (2 ≤ count_bytes b) × (count_bytes b ≤ 4)
counts-fit Board.Short = (omega arith, omega arith)
counts-fit Board.Long = (omega arith, omega arith)

-- and its counts hold every packet and every byte of a file for it
pub counts-hold : (b : Board) → pages_of b + start_of (pages_of b) + 2 < 256 ^ count_bytes b
counts-hold Board.Short = omega arith
counts-hold Board.Long = omega arith
