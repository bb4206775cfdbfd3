-- What a survey tells of a file, field by field, and of the step at its place.
use Rattle.std.specs.Prelude.{ℕ, ◌^◌, ◌≤◌, ◌<◌, false, List, ◌≡◌, leb, length}
use Rattle.std.proofs.Common.{ap, zero-add, arith, leb-true, leb-false}
use Rattle.basis.specs.Board.{pages_most}
use Rattle.basis.specs.Laws.Choice.{decide, both_false}
use Rattle.basis.specs.Units.{page_of, start_of, map_bytes}
use Rattle.basis.specs.declared.kind.RunKind.{RunKind}
use Rattle.runs.specs.Laws.Files.{bytes_past, pages-past}
use Rattle.runs.specs.Laws.Pieces.{starts-fail}
use Rattle.runs.specs.Laws.Runs.{count-le}
use Rattle.runs.specs.Map.{named}
use Rattle.runs.specs.Pages.{touched}
use Rattle.runs.specs.Pieces.{piece_most, piece_starts, run_starts, run_count, piece_count, named_count}
use Rattle.runs.specs.Runs.{count}
use Rattle.runs.specs.Survey.{survey_of}
use Rattle.runs.specs.declared.survey.Surveyed.{Surveyed}
use Rattle.order.specs.Laws.Starts.{runs-most}
use Rattle.order.specs.Laws.Totals.{pieces-half}
use Rattle.order.specs.Steps.{stands_at, place_of, stands_by}
use Rattle.order.specs.declared.step.Step.{Step}

pub record Told (board : ℕ) (m : List ℕ) (a : ℕ) (f : Surveyed) : Type 0 where
  pub runs : f.all.runs ≡ run_count board m
  pub pieces : f.all.pieces ≡ piece_count board m
  pub bytes : f.all.named ≡ named_count board m
  pub runs-below : f.below.runs ≡ count (run_starts board m) (page_of a)
  pub pieces-below : f.below.pieces ≡ count (piece_starts m) a
  pub run : f.run ≡ run_starts board m (page_of a)
  pub piece : f.piece ≡ piece_starts m a
  pub runs-few : f.all.runs < 2 ^ 20
  pub pieces-few : f.all.pieces < 2 ^ 20
  pub below-few : f.below.pieces ≤ a

pub told : (board : ℕ) → board ≤ pages_most → (m : List ℕ) (a : ℕ) {f : Surveyed} → f ≡ survey_of board m a
    → Told board m a f
unfolding survey_of
told board few m a {f} e =
    let r : f.all.runs ≡ run_count board m = ap (λ (x : Surveyed). x.all.runs) e in
    let p : f.all.pieces ≡ piece_count board m = ap (λ (x : Surveyed). x.all.pieces) e in
    record {
      runs = r;
      pieces = p;
      bytes = ap (λ (x : Surveyed). x.all.named) e;
      runs-below = ap (λ (x : Surveyed). x.below.runs) e;
      pieces-below = ap (λ (x : Surveyed). x.below.pieces) e;
      run = ap (λ (x : Surveyed). x.run) e;
      piece = ap (λ (x : Surveyed). x.piece) e;
      runs-few = omega (arith, runs-most board m);
      pieces-few = omega (arith, pieces-half board m);
      below-few = omega (arith, ap (λ (x : Surveyed). x.below.pieces) e, count-le (piece_starts m) a);
    }

module _ (board : ℕ) (m : List ℕ) (kind : RunKind) where
  -- at a step's place it says whether the step stands in the file
  pub told-stands : board ≤ pages_most → (s : Step) (k : ℕ) {f : Surveyed}
      → f ≡ survey_of board m (place_of board s)
      → place_of board s < start_of board → stands_by f kind s k ≡ stands_at board m kind s k
  unfolding place_of stands_at
  told-stands few (Step.Erase p) k e l =
      decide (leb board p.0)
      (λ d. absurd (omega (arith, rw d at l)))
      (λ d. let t = told board few m (start_of p.0) (rw d at e) in
      let q : page_of (start_of p.0) ≡ p.0 = omega arith in
      rw (t.run, t.runs-below, q, zero-add))
  told-stands few (Step.Write a) k e l =
      let t = told board few m a.0 e in rw (t.piece, t.runs, t.pieces-below)
  told-stands few (Step.Verify a) k e l =
      let t = told board few m a.0 e in rw (t.piece, t.runs, t.pieces, t.pieces-below)
  told-stands few Step.Run k e l = let t = told board few m 0 e in rw (t.runs, t.pieces)

  -- and a step past the board stands nowhere
  pub past-stands : 0 < board → length m ≡ map_bytes board → (s : Step) (k : ℕ)
      → start_of board ≤ place_of board s → stands_at board m kind s k ≡ false
  unfolding place_of stands_at
  past-stands some long (Step.Erase p) k l =
      decide (leb board p.0)
      (λ d. both_false _ _
      (starts-fail (touched m) board p.0 (pages-past board m long p.0 (leb-true _ _ d))))
      (λ d. absurd (omega (arith, leb-false board p.0 d, rw d at l)))
  past-stands some long (Step.Write a) k l =
      both_false _ _ (starts-fail (named m) piece_most a.0 (bytes_past board m long a.0 l))
  past-stands some long (Step.Verify a) k l =
      both_false _ _ (starts-fail (named m) piece_most a.0 (bytes_past board m long a.0 l))
  past-stands some long Step.Run k l = absurd (omega arith)
