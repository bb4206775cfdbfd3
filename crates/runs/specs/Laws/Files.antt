-- What the laws of pieces say of a file on the board: its pieces
-- of named bytes and its runs of touched pages.
use Rattle.std.specs.Prelude.{ℕ, suc, ◌+◌, ◌≤◌, ◌≡◌, true, false, List, length}
use Rattle.std.proofs.Common.{arith}
use Rattle.basis.specs.Units.{start_of, map_bytes}
use Rattle.runs.specs.Map.{named}
use Rattle.runs.specs.Pages.{touched}
use Rattle.runs.specs.Pieces.{piece_most, piece_starts, piece_len, run_starts, run_len}
use Rattle.runs.specs.Laws.Map.{named_past}
use Rattle.runs.specs.Laws.Pages.{touched-past}
use Rattle.runs.specs.Laws.Pieces.{piece-fits, run-before, run-after}

module _ (board : ℕ) (m : List ℕ) (long : length m ≡ map_bytes board) where
  -- nothing is named or touched past the board
  pub bytes_past : (a : ℕ) → start_of board ≤ a → named m a ≡ false
  bytes_past a l = named_past m a (omega arith)

  pub pages-past : (q : ℕ) → board ≤ q → touched m q ≡ false
  pages-past q l = touched-past m q (omega arith)

  -- pieces and runs lie on the board
  pub file-piece : (s : ℕ) → piece_starts m s ≡ true → s + piece_len m s ≤ start_of board
  file-piece = piece-fits (named m) piece_most (start_of board) bytes_past

  pub file-run : (q : ℕ) → run_starts board m q ≡ true → q + run_len board m q ≤ board
  file-run = piece-fits (touched m) board board pages-past

  -- runs are maximal: the pages before and behind one are not touched
  pub file-run-before : (q : ℕ) → run_starts board m (suc q) ≡ true → touched m q ≡ false
  file-run-before = run-before (touched m) board board pages-past (omega arith)

  pub file-run-after : (q : ℕ) → run_starts board m q ≡ true → touched m (q + run_len board m q) ≡ false
  file-run-after = run-after (touched m) board board pages-past (omega arith)
