-- Where runs and pieces start on the board, and what a piece carries.
use Rattle.std.specs.Prelude.{ℕ, ◌+◌, ◌≤◌, ◌<◌, true, false, List, ◌≡◌, ltb, length, drop}
use Rattle.std.proofs.Common.{sym, ap, ◌∙◌, arith, ltb-true, ltb-false, length-drop, length-take-le}
use Rattle.basis.specs.Laws.Choice.{decide, true-false}
use Rattle.basis.specs.Units.{page_of, start_of, map_bytes}
use Rattle.runs.specs.Laws.Files.{bytes_past, pages-past, file-piece}
use Rattle.runs.specs.Laws.Pages.{named-touched}
use Rattle.runs.specs.Laws.Pieces.{starts-below, piece-some}
use Rattle.runs.specs.Laws.Runs.{len-le, count-zero, count-le, count-skip, next-pass, next-skip}
use Rattle.runs.specs.Map.{named}
use Rattle.runs.specs.Pages.{touched}
use Rattle.runs.specs.Pieces.{piece_most, piece_starts, piece_len, run_starts, run_count, named_count}
use Rattle.runs.specs.Runs.{count}
use Rattle.order.specs.Steps.{lowest_run, lowest_piece}
use Rattle.order.specs.Plan.{piece_bytes}

-- e is small; so is w, by pieces-half of Totals
pub runs-most : (board : ℕ) (m : List ℕ) → run_count board m ≤ board
runs-most board m = count-le (run_starts board m) board

-- a board with a named byte has a page
pub some-page : (board : ℕ) (m : List ℕ) → 0 < named_count board m → 0 < board
some-page board m some = omega (arith, count-le (named m) (start_of board))

module _ (board : ℕ) (m : List ℕ) (long : length m ≡ map_bytes board) where
  -- runs and pieces start on the board
  pub run-below : (q : ℕ) → run_starts board m q ≡ true → q < board
  run-below = starts-below (touched m) board board (pages-past board m long)

  pub piece-below : (a : ℕ) → piece_starts m a ≡ true → a < start_of board
  piece-below = starts-below (named m) piece_most (start_of board) (bytes_past board m long)

  -- a file with a named byte has a first piece and a first run
  pub first-piece-below : 0 < named_count board m → lowest_piece board m < start_of board
  first-piece-below some =
      decide (ltb (lowest_piece board m) (start_of board)) (λ d. ltb-true _ _ d)
      (λ d. absurd (omega (arith, none d, count-zero (named m))))
    where
      none : ltb (lowest_piece board m) (start_of board) ≡ false → named_count board m ≡ count (named m) 0
      none d =
          let e : start_of board ≡ 0 + start_of board = omega arith in
          ap (count (named m)) e
          ∙ count-skip (named m) 0 (start_of board)
          (λ i u v. next-skip (named m) (start_of board) 0 i u
          (omega (arith, ltb-false (lowest_piece board m) (start_of board) d)))

  pub first-run-below : 0 < named_count board m → lowest_run board m < board
  first-run-below some =
      let l = first-piece-below some in
      decide (ltb (lowest_run board m) board) (λ d. ltb-true _ _ d)
      (λ d. absurd
      (true-false (sym
      (named-touched m (lowest_piece board m) (next-pass (named m) (start_of board) 0 (omega arith)))
      ∙ next-skip (touched m) board 0 (page_of (lowest_piece board m)) (omega arith)
      (omega (arith, ltb-false (lowest_run board m) board d)))))

  -- a piece has 1 to 250 bytes, all in the image
  pub piece-carried : (image : List ℕ) (a : ℕ) → length image ≡ start_of board → piece_starts m a ≡ true
      → (length (piece_bytes image m a) ≡ piece_len m a) × (0 < piece_len m a) × (piece_len m a ≤ piece_most)
  piece-carried image a e h =
      let l = file-piece board m long a h in
      let k : piece_len m a ≤ length (drop a image) = simp length-drop (omega arith) in (
        length-take-le (piece_len m a) (drop a image) k,
        piece-some (named m) piece_most (omega arith) a h,
        len-le (named m) a piece_most,
      )
