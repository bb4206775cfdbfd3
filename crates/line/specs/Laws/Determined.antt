-- Two outcomes that the contract of `rehearse` permits are equal.
use Rattle.std.specs.Prelude.{ℕ, List, ◌≡◌, Result}
use Rattle.std.proofs.Common.{sym, ◌∙◌}
use Rattle.basis.specs.Laws.Refusals.{answer-one, determined}
use Rattle.basis.specs.Refusals.{Answer}
use Rattle.events.specs.Laws.Determined.{refusal-one}
use Rattle.events.specs.Paper.{paper_refusal}
use Rattle.events.specs.declared.refusal.Refusal.{Refusal}
use Rattle.line.specs.Line.{Moment, Rehearses}
use Rattle.line.specs.Paper.{paper_rehearsed}
use Rattle.line.specs.declared.rehearse.Load.{Load}

pub rehearse-determined : (a : Answer Moment) (before : List ℕ) (r s : Result Load Refusal) (f g : List ℕ)
    → Rehearses a before (paper_rehearsed r) f → Rehearses a before (paper_rehearsed s) g → (r ≡ s) × (f ≡ g)
rehearse-determined a before r s f g p q = (
  determined paper_rehearsed
      (answer-one paper_refusal (λ (x : Load). x) refusal-one (λ x y e. e)) r s p.result-is q.result-is,
  p.flash-is ∙ sym q.flash-is,
)
