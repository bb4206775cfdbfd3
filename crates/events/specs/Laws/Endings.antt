-- Laws of endings: their numbers tell them apart, and with how many packets acknowledged each can come.
use Rattle.std.specs.Prelude.{ℕ, ◌≤◌, ◌<◌, true, false, ◌≡◌, refl, eqb, leb, ltb}
use Rattle.std.proofs.Common.{sym, ap, ◌∙◌, arith, eq-eqb, ne_eqb, eqb-true, ltb-true, lt-ltb, le-ltb}
use Rattle.basis.specs.Choice.{pick}
use Rattle.basis.specs.Laws.Choice.{decide, both_true, true-false}
use Rattle.basis.specs.Laws.Refusals.{back_one}
use Rattle.events.specs.Endings.{paper_outcome, asked, ending_for, failing, ends_at}
use Rattle.events.specs.declared.ending.Outcome.{Outcome}
use Rattle.basis.specs.declared.kind.RunKind.{RunKind}

-- the outcome of a number
outcome_by : ℕ → Outcome
outcome_by n =
    pick (eqb n 0) Outcome.Valid
    (pick (eqb n 1) Outcome.Held
    (pick (eqb n 40) Outcome.Silence
    (pick (eqb n 41) Outcome.Bel
    (pick (eqb n 42) Outcome.NoGreeting
    Outcome.Other))))

outcome-back : (x : Outcome) → outcome_by (paper_outcome x) ≡ x
unfolding outcome_by
outcome-back Outcome.Valid = refl
outcome-back Outcome.Held = refl
outcome-back Outcome.Silence = refl
outcome-back Outcome.Bel = refl
outcome-back Outcome.NoGreeting = refl
outcome-back Outcome.Other = refl

pub outcome-one : (x y : Outcome) → paper_outcome x ≡ paper_outcome y → x ≡ y
outcome-one = back_one paper_outcome outcome_by outcome-back

module _ (wish o : Outcome) (n k : ℕ) where
  -- the one that was asked for, once all are acknowledged
  pub ends_asked : paper_outcome o ≡ paper_outcome wish → ends_at wish n o k ≡ eqb k n
  ends_asked e = rw (eq-eqb _ _ e)

  -- any other, before the last is
  module _ (e : paper_outcome o ≡ paper_outcome wish → ⊥) where
    pub ends-late : n ≤ k → ends_at wish n o k ≡ false
    ends-late l = rw (ne_eqb _ _ e, le-ltb _ _ l)

    pub ends-fails : k < n → ends_at wish n o k ≡ failing o k
    ends-fails l = rw (ne_eqb _ _ e, lt-ltb _ _ l)

  -- and no other way
  pub ends_by : {R : Type 0} → ends_at wish n o k ≡ true
      → (paper_outcome o ≡ paper_outcome wish → k ≡ n → R) → (k < n → failing o k ≡ true → R) → R
  ends_by h all before =
      decide (eqb (paper_outcome o) (paper_outcome wish))
      (λ t. all (eqb-true _ _ t) (eqb-true k n (rw t at h)))
      (λ t. let b = both_true (ltb k n) (failing o k) (rw t at h) in before (ltb-true _ _ b.0) b.1)

-- a failure is not what was asked for
module _ (kind : RunKind) (o : Outcome) (k : ℕ) (f : failing o k ≡ true) where
  pub fails-other : paper_outcome o ≡ paper_outcome (asked kind) → ⊥
  fails-other e =
      true-false (sym f ∙ ap (λ (x : Outcome). failing x k) (outcome-one o (asked kind) e) ∙ well kind)
    where
      well : (kind : RunKind) → failing (asked kind) k ≡ false
      well RunKind.Reset = refl
      well RunKind.Jump = refl
      well RunKind.Hold = refl

  -- so before the last is acknowledged it is an ending to which events lead
  pub fails-ends : (n : ℕ) → k < n → ends_at (asked kind) n o k ≡ true
  fails-ends n l = ends-fails (asked kind) o n k fails-other l ∙ f

  -- and every run kind has it
  pub fails-suits : ending_for kind o ≡ true
  fails-suits = rw (ne_eqb _ _ fails-other) (go o f)
    where
      go : (o : Outcome) → failing o k ≡ true → leb 40 (paper_outcome o) ≡ true
      go Outcome.Valid f = absurd (true-false (sym f))
      go Outcome.Held f = absurd (true-false (sym f))
      go Outcome.Silence f = refl
      go Outcome.Bel f = refl
      go Outcome.NoGreeting f = refl
      go Outcome.Other f = refl

-- what was asked for is 0 or 1
pub asked-good : (kind : RunKind) → paper_outcome (asked kind) ≤ 1
asked-good RunKind.Reset = omega arith
asked-good RunKind.Jump = omega arith
asked-good RunKind.Hold = omega arith

-- and every run kind has the one that was asked for
pub asked-suits : (kind : RunKind) → ending_for kind (asked kind) ≡ true
asked-suits RunKind.Reset = refl
asked-suits RunKind.Jump = refl
asked-suits RunKind.Hold = refl
