-- What right sizes are.
use Rattle.std.specs.Prelude.{◌≡◌, ℕ, ◌/◌, true, ◌==◌}
use Rattle.std.proofs.Common.{eq-eqb, eqb-true}
use Rattle.basis.specs.Laws.Choice.{both_true}
use Rattle.basis.specs.Units.{right_sizes_in}

pub sizes-right : (size i m : ℕ) → right_sizes_in size i m ≡ true → (i ≡ size) × (m ≡ size / 8)
sizes-right size i m e =
    let a = both_true (i == size) (m == size / 8) e in (eqb-true _ _ a.0, eqb-true _ _ a.1)

pub right-sizes : (size i m : ℕ) → i ≡ size → m ≡ size / 8 → right_sizes_in size i m ≡ true
right-sizes size i m p q = simp (eq-eqb _ _ p, eq-eqb _ _ q)
