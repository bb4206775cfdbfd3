-- Two outcomes that a contract permits are equal: the request's numbers and values tell all cases apart.
use Rattle.std.specs.Prelude.{ℕ, List, ◌≡◌, refl, eqb, Result}
use Rattle.std.proofs.Common.{sym, ◌∙◌}
use Rattle.basis.specs.Choice.{pick}
use Rattle.basis.specs.Laws.Refusals.{answer-one, back_one, determined}
use Rattle.basis.specs.Lists.{overlay}
use Rattle.basis.specs.Refusals.{Answer, counted, written, bare}
use Rattle.stations.specs.Paper.{paper_refusal, paper_answer}
use Rattle.stations.specs.Table.{after_store, table_after}
use Rattle.stations.specs.declared.station.Refusal.{Refusal}
use Rattle.stations.specs.declared.station.Station.{Station}
use Rattle.stations.specs.declared.table.Standing.{Standing}

-- the refusal of a number
refusal_by : ℕ → Refusal
refusal_by n =
    pick (eqb n 20) Refusal.Size
    (pick (eqb n 60) Refusal.Unknown
    (pick (eqb n 61) Refusal.Full
    (pick (eqb n 62) Refusal.Version Refusal.Unfit)))

refusal-back : (x : Refusal) → refusal_by (paper_refusal x) ≡ x
unfolding refusal_by
refusal-back Refusal.Size = refl
refusal-back Refusal.Unknown = refl
refusal-back Refusal.Full = refl
refusal-back Refusal.Version = refl
refusal-back Refusal.Unfit = refl

refusal-one : (x y : Refusal) → paper_refusal x ≡ paper_refusal y → x ≡ y
refusal-one = back_one paper_refusal refusal_by refusal-back

-- whatever is given
pub answer-determined : {A : Type 0} {a : Answer A} (r s : Result A Refusal)
    → paper_answer r ≡ a → paper_answer s ≡ a → r ≡ s
answer-determined = determined paper_answer (answer-one paper_refusal (λ x. x) refusal-one (λ x y e. e))

-- reading a record, finding and listing
pub read-determined : {a : Answer Station} (r s : Result Station Refusal)
    → paper_answer r ≡ a → paper_answer s ≡ a → r ≡ s
read-determined = answer-determined

-- writing one
pub write-determined : (b : Answer (List ℕ)) (r s : Result ℕ Refusal) (x y old : List ℕ)
    → (paper_answer r ≡ counted b) × (x ≡ overlay (written b) old)
    → (paper_answer s ≡ counted b) × (y ≡ overlay (written b) old) → (r ≡ s) × (x ≡ y)
write-determined b r s x y old p q = (answer-determined r s p.0 q.0, p.1 ∙ sym q.1)

-- looking at a place
pub look-determined : {a : Answer Standing} (r s : Result Standing Refusal)
    → paper_answer r ≡ a → paper_answer s ≡ a → r ≡ s
look-determined = answer-determined

-- storing
pub store-determined : (a : Answer ℕ) (r s : Result ℕ Refusal) (x y t i : List ℕ)
    → (paper_answer r ≡ a) × (x ≡ after_store t i a)
    → (paper_answer s ≡ a) × (y ≡ after_store t i a) → (r ≡ s) × (x ≡ y)
store-determined a r s x y t i p q = (answer-determined r s p.0 q.0, p.1 ∙ sym q.1)

-- deleting, freeing and making empty
pub done-determined : (a : Answer (List ℕ)) (r s : Result (Unit {0}) Refusal) (x y t : List ℕ)
    → (paper_answer r ≡ bare a) × (x ≡ table_after t a)
    → (paper_answer s ≡ bare a) × (y ≡ table_after t a) → (r ≡ s) × (x ≡ y)
done-determined a r s x y t p q = (answer-determined r s p.0 q.0, p.1 ∙ sym q.1)
