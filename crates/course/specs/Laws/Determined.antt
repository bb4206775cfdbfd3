-- Two outcomes that a contract permits are equal: the paper's numbers and values tell all cases apart.
use Rattle.std.specs.Prelude.{List, ◌≡◌, Result}
use Rattle.std.proofs.Common.{sym, ◌∙◌, ℕ}
use Rattle.basis.specs.Laws.Refusals.{answer-one, determined}
use Rattle.basis.specs.Lists.{overlay}
use Rattle.basis.specs.Refusals.{Answer}
use Rattle.course.specs.Course.{Sent, measured, sent_bytes}
use Rattle.course.specs.Paper.{paper_stepped}
use Rattle.course.specs.declared.state.Next.{Next}
use Rattle.events.specs.Laws.Determined.{refusal-one}
use Rattle.events.specs.Paper.{paper_refusal}
use Rattle.events.specs.declared.refusal.Refusal.{Refusal}

module _ {P : Type 0} where
  -- starting and stepping
  pub stepped-one : (r s : Result (Next P) Refusal) → paper_stepped r ≡ paper_stepped s → r ≡ s
  stepped-one = answer-one paper_refusal (λ (x : Next P). x) refusal-one (λ x y e. e)

  pub step-determined : (a : Answer (Sent P)) (r s : Result (Next P) Refusal) (x y old : List ℕ)
      → (paper_stepped r ≡ measured a) × (x ≡ overlay (sent_bytes a) old)
      → (paper_stepped s ≡ measured a) × (y ≡ overlay (sent_bytes a) old) → (r ≡ s) × (x ≡ y)
  step-determined a r s x y old p q = (determined paper_stepped stepped-one r s p.0 q.0, p.1 ∙ sym q.1)
