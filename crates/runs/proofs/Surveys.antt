-- A walk has two tallies, and the survey is told by those of its halts.
use Rattle.std.proofs.Common.{ℕ, ◌+◌, ◌^◌, ◌<◌, ◌*◌, ◌≡◌, refl, ap, ◌∙◌, arith, List}
use Rattle.std.specs.Prelude.{ltb}
use Rattle.basis.specs.Board.{pages_of}
use Rattle.basis.specs.Laws.Boards.{pages-few}
use Rattle.basis.specs.declared.board.Board.{Board}
use Rattle.basis.specs.Units.{page_of, start_of}
use Rattle.runs.specs.Map.{named}
use Rattle.runs.specs.Pages.{touched}
use Rattle.runs.specs.Pieces.{piece_most, run_starts, piece_starts}
use Rattle.runs.specs.Survey.{tallies_at, survey_of}
use Rattle.runs.specs.Tally.{tally_at, took_of}
use Rattle.runs.specs.Laws.Runs.{count-le, count-tells}
use Rattle.runs.specs.declared.survey.Surveyed.{Surveyed}
use Rattle.runs.specs.declared.walks.Tallies.{Tallies}
use Rattle.runs.specs.declared.tally.Tally.{Tally}
use Rattle.runs.proofs.Tallies.{IsNone, tally-none, tally-again, tallies-touched, passed-few, pieces-few, off-less}

module _ (board : ℕ) (m : List ℕ) (q : ℕ) where
  -- the two tallies
  pub tallies-bytes : {s : Tallies} → s ≡ tallies_at board m q
      → s.bytes ≡ tally_at (named m) piece_most (start_of q)
  unfolding tallies_at
  tallies-bytes e = ap (λ (s : Tallies). s.bytes) e

  pub tallies-pages : {s : Tallies} → s ≡ tallies_at board m q → s.pages ≡ tally_at (touched m) board q
  unfolding tallies_at
  tallies-pages e = ap (λ (s : Tallies). s.pages) e

  pub tallies-of : {b p : Tally} → b ≡ tally_at (named m) piece_most (start_of q)
      → p ≡ tally_at (touched m) board q → record { bytes = b; pages = p } ≡ tallies_at board m q
  unfolding tallies_at
  tallies-of e f = rw (e, f)

  -- the bytes' tally, by its words
  pub tallies-words : {s : Tallies} {k : ℕ} → s ≡ tallies_at board m q → k ≡ 8 * q
      → s.bytes ≡ tally_at (named m) piece_most (64 * k)
  tallies-words e f =
      let w : start_of q ≡ 64 * (8 * q) = omega arith in
      rw f (tallies-bytes e ∙ ap (tally_at (named m) piece_most) w)

  -- what the pages' tally has is bounded by the pages that it has met
  pub pages-passed : {s : Tallies} → s ≡ tallies_at board m q → 0 < board → q < 2 ^ 31
      → s.pages.passed < 2 ^ 31
  pages-passed e z l = passed-few (touched m) board q z _ (tallies-pages e) l

  pub pages-pieces : {s : Tallies} → s ≡ tallies_at board m q → 0 < board → q < 2 ^ 31
      → s.pages.pieces < 2 ^ 31
  pages-pieces e z l = pieces-few (touched m) board q z _ (tallies-pages e) l

  pub pages-off : {s : Tallies} {n : ℕ} → s ≡ tallies_at board m q → n ≡ board → 0 < board → s.pages.off < n
  pages-off e f z = rw f (off-less (touched m) board q z _ (tallies-pages e))

  -- a page more, touched where the count of named bytes grows
  pub tallies-more : {s : Tallies} {b p : Tally} {n : ℕ} → s ≡ tallies_at board m q
      → b ≡ tally_at (named m) piece_most (64 * (8 * q + 8)) → n ≡ board
      → p ≡ took_of n s.pages (ltb s.bytes.passed b.passed)
      → record { bytes = b; pages = p } ≡ tallies_at board m (q + 1)
  unfolding tallies_at
  tallies-more e f t g =
      let w : 64 * (8 * q + 8) ≡ start_of (q + 1) = omega arith in
      let f' = f ∙ ap (tally_at (named m) piece_most) w in
      let grew = tallies-touched m piece_most q (tallies-bytes e) f' in
      rw (f', tally-again (touched m) board q (tallies-pages e) grew (rw t at g)) refl

pub ruleset pages = (tallies-words, pages-passed, pages-pieces, pages-off, tallies-more, pages-few)

-- a walk begins with nothing
pub tallies-none : (board : ℕ) (m : List ℕ) (s : Tallies) → IsNone s.bytes × IsNone s.pages
    → s ≡ tallies_at board m 0
tallies-none board m s e =
    tallies-of board m 0 (tally-none (named m) piece_most e.0) (tally-none (touched m) board e.1)

-- the survey from the tallies below the place, at it, behind it and in all
pub surveyed : (board : ℕ) (m : List ℕ) (a q : ℕ) {below here all : Tallies} {place next : Tally}
    → q ≡ page_of a
    → below ≡ tallies_at board m q → here ≡ tallies_at board m (q + 1) → all ≡ tallies_at board m board
    → place ≡ tally_at (named m) piece_most a → next ≡ tally_at (named m) piece_most (a + 1)
    → record {
      all = record { runs = all.pages.pieces; pieces = all.bytes.pieces; named = all.bytes.passed };
      below = record { runs = below.pages.pieces; pieces = place.pieces };
      run = ltb below.pages.pieces here.pages.pieces;
      piece = ltb place.pieces next.pieces;
    } ≡ survey_of board m a
unfolding survey_of tallies_at tally_at
surveyed board m a q f e b h p n =
    rw (e, b, h, p, n, f, count-tells (run_starts board m) (page_of a), count-tells (piece_starts m) a)

-- what a survey counts is small
module _ (b : Board) (m : List ℕ) (a : ℕ) (l : a < start_of (pages_of b))
    {f : Surveyed} (e : f ≡ survey_of (pages_of b) m a) where
  pub few-runs : f.all.runs < 2 ^ 20
  unfolding survey_of
  few-runs = rw e (omega (arith, pages-few b, count-le (run_starts (pages_of b) m) (pages_of b)))

  pub few-pieces : f.all.pieces < 2 ^ 20
  unfolding survey_of
  few-pieces = rw e (omega (arith, pages-few b, count-le (piece_starts m) (start_of (pages_of b))))

  pub few-below : f.below.pieces < 2 ^ 20
  unfolding survey_of
  few-below = rw e (omega (arith, pages-few b, count-le (piece_starts m) a))
