-- Two outcomes that a contract permits are equal: the paper's numbers and values tell all cases apart.
use Rattle.std.specs.Prelude.{ℕ, Bool, ◌≡◌, refl, eqb, Result}
use Rattle.std.proofs.Common.{sym}
use Rattle.basis.specs.Choice.{pick}
use Rattle.basis.specs.Laws.Choice.{true-false}
use Rattle.basis.specs.Laws.Refusals.{answer-one, back_one, determined}
use Rattle.basis.specs.Refusals.{Answer}
use Rattle.events.specs.Paper.{paper_refusal, is_proved, paper_mark}
use Rattle.events.specs.declared.refusal.Mark.{Mark}
use Rattle.events.specs.declared.refusal.Refusal.{Refusal}

-- the refusal of a number
refusal_by : ℕ → Refusal
refusal_by n =
    pick (eqb n 20) Refusal.Size
    (pick (eqb n 32) Refusal.Empty
    (pick (eqb n 44) Refusal.Ended
    (pick (eqb n 46) Refusal.Foreign
    Refusal.Board)))

refusal-back : (x : Refusal) → refusal_by (paper_refusal x) ≡ x
unfolding refusal_by
refusal-back Refusal.Board = refl
refusal-back Refusal.Size = refl
refusal-back Refusal.Empty = refl
refusal-back Refusal.Ended = refl
refusal-back Refusal.Foreign = refl

pub refusal-one : (x y : Refusal) → paper_refusal x ≡ paper_refusal y → x ≡ y
refusal-one = back_one paper_refusal refusal_by refusal-back

-- asking for a mark
mark-one : (x y : Mark) → is_proved x ≡ is_proved y → x ≡ y
mark-one Mark.Proved Mark.Proved e = refl
mark-one Mark.Proved Mark.Unproved e = absurd (true-false e)
mark-one Mark.Unproved Mark.Proved e = absurd (true-false (sym e))
mark-one Mark.Unproved Mark.Unproved e = refl

pub proved-determined : {a : Answer Bool} (r s : Result Mark Refusal) → paper_mark r ≡ a → paper_mark s ≡ a
    → r ≡ s
proved-determined = determined paper_mark (answer-one paper_refusal is_proved refusal-one mark-one)
