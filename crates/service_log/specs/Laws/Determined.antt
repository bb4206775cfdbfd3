-- Two outcomes that a contract permits are equal: the paper's numbers and values tell all cases apart.
use Rattle.std.specs.Prelude.{ℕ, List, ◌≡◌, refl, eqb, Result, Option, Some, None}
use Rattle.std.proofs.Common.{sym, ap, ◌∙◌, arith}
use Rattle.basis.specs.Choice.{pick}
use Rattle.basis.specs.Laws.Refusals.{answer-one, back_one, determined}
use Rattle.basis.specs.Lists.{overlay}
use Rattle.basis.specs.Refusals.{Answer, counted, written}
use Rattle.events.specs.Endings.{paper_outcome}
use Rattle.events.specs.Laws.Endings.{outcome-one}
use Rattle.events.specs.declared.ending.Outcome.{Outcome}
use Rattle.service_log.specs.Paper.{paper_logged, paper_unwritten, paper_unread, paper_written, paper_reading}
use Rattle.service_log.specs.declared.read.Record.{Record}
use Rattle.service_log.specs.declared.read.Unread.{Unread}
use Rattle.service_log.specs.declared.write.Unwritten.{Unwritten}

-- the refusal of a number
unwritten_by : ℕ → Unwritten
unwritten_by n = pick (eqb n 65) Unwritten.Board (pick (eqb n 45) Unwritten.Unfit Unwritten.NoRoom)

unwritten-back : (x : Unwritten) → unwritten_by (paper_unwritten x) ≡ x
unfolding unwritten_by
unwritten-back Unwritten.Board = refl
unwritten-back Unwritten.Unfit = refl
unwritten-back Unwritten.NoRoom = refl

unread_by : ℕ → Unread
unread_by n =
    pick (eqb n 50) Unread.Short (pick (eqb n 51) Unread.Length (pick (eqb n 52) Unread.Version Unread.False))

unread-back : (x : Unread) → unread_by (paper_unread x) ≡ x
unfolding unread_by
unread-back Unread.Short = refl
unread-back Unread.Length = refl
unread-back Unread.Version = refl
unread-back Unread.False = refl

written-one : (r s : Result ℕ Unwritten) → paper_written r ≡ paper_written s → r ≡ s
written-one =
    answer-one paper_unwritten (λ n. n) (back_one paper_unwritten unwritten_by unwritten-back) (λ n m e. e)

pub write-determined : (b : Answer (List ℕ)) (r s : Result ℕ Unwritten) (x y old : List ℕ)
    → (paper_written r ≡ counted b) × (x ≡ overlay (written b) old)
    → (paper_written s ≡ counted b) × (y ≡ overlay (written b) old) → (r ≡ s) × (x ≡ y)
write-determined b r s x y old p q = (determined paper_written written-one r s p.0 q.0, p.1 ∙ sym q.1)

pub read-determined : {a : Answer Record} (r s : Result Record Unread)
    → paper_reading r ≡ a → paper_reading s ≡ a
    → r ≡ s
read-determined =
    determined paper_reading
    (answer-one paper_unread (λ (x : Record). x) (back_one paper_unread unread_by unread-back) (λ x y e. e))

-- the outcome that a session's record tells: no outcome has the number 45
none-apart : (o : Outcome) → 45 ≡ paper_outcome o → ⊥
none-apart Outcome.Valid e = omega arith
none-apart Outcome.Held e = omega arith
none-apart Outcome.Silence e = omega arith
none-apart Outcome.Bel e = omega arith
none-apart Outcome.NoGreeting e = omega arith
none-apart Outcome.Other e = omega arith

logged-one : (r s : Option Outcome) → paper_logged r ≡ paper_logged s → r ≡ s
logged-one None None e = refl
logged-one None (Some o) e = absurd (none-apart o e)
logged-one (Some o) None e = absurd (none-apart o (sym e))
logged-one (Some o) (Some p) e = ap Some (outcome-one o p e)

pub logged-determined : {n : ℕ} (r s : Option Outcome) → paper_logged r ≡ n → paper_logged s ≡ n → r ≡ s
logged-determined r s p q = logged-one r s (p ∙ sym q)
