-- Two outcomes that the entry's contract permits are equal: the paper's numbers tell all cases apart.
use Rattle.std.specs.Prelude.{ℕ, List, ◌≡◌, refl, eqb, Result}
use Rattle.std.proofs.Common.{sym, ◌∙◌}
use Rattle.basis.specs.Choice.{pick}
use Rattle.basis.specs.Laws.Refusals.{answer-one, back_one, determined}
use Rattle.basis.specs.Refusals.{Answer}
use Rattle.loader.specs.Commands.{Effect}
use Rattle.loader.specs.Paper.{paper_refusal, paper_verdict}
use Rattle.loader.specs.Take.{Takes}
use Rattle.loader.specs.declared.state.Loader.{Loader}
use Rattle.loader.specs.declared.verdict.Refusal.{Refusal}
use Rattle.loader.specs.declared.verdict.Refusal.TheVariants.{Size, Unheard, Unread, Sequence, Address, Protected, Differs}
use Rattle.packet.specs.Laws.Determined.{refusal_by as unread_by}
use Rattle.packet.specs.declared.table.Refusal.TheVariants as unread

-- the refusal of a number
refusal_by : ℕ → Refusal
refusal_by n =
    pick (eqb n 20) Size
    (pick (eqb n 11) Unheard
    (pick (eqb n 9) Sequence
    (pick (eqb n 7) Address
    (pick (eqb n 8) Protected
    (pick (eqb n 10) Differs
    (Unread (unread_by n)))))))

refusal-back : (x : Refusal) → refusal_by (paper_refusal x) ≡ x
unfolding refusal_by unread_by
refusal-back Size = refl
refusal-back Unheard = refl
refusal-back (Unread unread.Start) = refl
refusal-back (Unread unread.Length) = refl
refusal-back (Unread unread.Count) = refl
refusal-back (Unread unread.Checksum) = refl
refusal-back (Unread unread.Unlisted) = refl
refusal-back (Unread unread.Shape) = refl
refusal-back Sequence = refl
refusal-back Address = refl
refusal-back Protected = refl
refusal-back Differs = refl

refusal-one : (x y : Refusal) → paper_refusal x ≡ paper_refusal y → x ≡ y
refusal-one = back_one paper_refusal refusal_by refusal-back

pub verdict-one : (v w : Result (Unit {0}) Refusal) → paper_verdict v ≡ paper_verdict w → v ≡ w
verdict-one = answer-one paper_refusal (λ (u : Unit {0}). u) refusal-one (λ u v e. e)

pub take-determined : {board : ℕ} {x : Answer Effect} {l : Loader} {f old : List ℕ}
    (v w : Result (Unit {0}) Refusal) (m n : Loader) (i j : ℕ) (g h a b : List ℕ)
    → Takes board x l f old (paper_verdict v) m i g a → Takes board x l f old (paper_verdict w) n j h b
    → (v ≡ w) × (m ≡ n) × (i ≡ j) × (g ≡ h) × (a ≡ b)
take-determined v w m n i j g h a b p q = (
  determined paper_verdict verdict-one v w p.does-is.verdict-is q.does-is.verdict-is,
  p.does-is.loader-is ∙ sym q.does-is.loader-is,
  p.answered-is ∙ sym q.answered-is,
  p.does-is.flash-is ∙ sym q.does-is.flash-is,
  p.answer-is ∙ sym q.answer-is,
)
