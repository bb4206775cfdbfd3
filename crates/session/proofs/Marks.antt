-- What `proved_on` and `marked` decide is what their definitions decide.
use Rattle.std.specs.Prelude.{leb}
use Rattle.std.proofs.Common.{ℕ, ◌+◌, ◌≤◌, Bool, true, List, ◌≡◌, ap, ◌∙◌, add-one, arith}
use Rattle.basis.specs.Board.{pages_most}
use Rattle.basis.specs.Choice.{pick}
use Rattle.basis.specs.Laws.Boards.{pages-few}
use Rattle.basis.specs.Laws.Choice.{decide}
use Rattle.order.specs.Marks.{marked}
use Rattle.runs.specs.Laws.Runs.{count_yes, count_no}
use Rattle.runs.specs.Map.{named}
use Rattle.runs.specs.Pieces.{piece_starts}
use Rattle.runs.specs.Runs.{count}
use Rattle.runs.specs.Survey.{survey_of}
use Rattle.runs.specs.declared.survey.Surveyed.{Surveyed}
use Rattle.order.specs.Laws.Marks.{mark-by, mark-past, mark-unnamed}
use Rattle.order.specs.Laws.Surveys.{told}

-- `marked`: the survey decides what the definition decides
module _ (board : ℕ) (m : List ℕ) (k a : ℕ) where
  module _ (few : board ≤ pages_most) {f : Surveyed} {n : ℕ} (e : f ≡ survey_of board m a)
      (g : n ≡ pick f.piece 1 0) where
    rank : f.below.pieces + n ≡ count (piece_starts m) (a + 1)
    rank =
        let t = told board few m a e in
        rw add-one
        (decide (piece_starts m a)
        (λ d. omega (
          arith,
          t.pieces-below,
          g ∙ ap (λ (b : Bool). pick b 1 0) (t.piece ∙ d),
          count_yes (piece_starts m) a d,
        ))
        (λ d. omega (
          arith,
          t.pieces-below,
          g ∙ ap (λ (b : Bool). pick b 1 0) (t.piece ∙ d),
          count_no (piece_starts m) a d,
        )))

    pub mark-ranked : {b : ℕ} → b ≡ f.all.runs + f.all.pieces → named m a ≡ true
        → leb (b + (f.below.pieces + n)) k ≡ marked board m k a
    mark-ranked {b} q h =
        let t = told board few m a e in
        mark-by board m k a h (omega (arith, t.runs, t.pieces, rank))

pub ruleset marks = (mark-past, mark-unnamed, mark-ranked, pages-few)
