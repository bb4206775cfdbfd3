-- Laws of the run kind: reset and jump have one R, hold has none.
use Rattle.std.specs.Prelude.{◌≤◌, ◌<◌, Bool, true, false, ◌≡◌, refl}
use Rattle.std.proofs.Common.{ap, arith}
use Rattle.basis.specs.Choice.{pick}
use Rattle.basis.specs.declared.kind.RunKind.{RunKind}
use Rattle.order.specs.Plan.{sends_r, r_count}

module _ (kind : RunKind) where
  pub r-one : sends_r kind ≡ true → r_count kind ≡ 1
  r-one t = ap (λ (b : Bool). pick b 1 0) t

  pub r-none : sends_r kind ≡ false → r_count kind ≡ 0
  r-none t = ap (λ (b : Bool). pick b 1 0) t

pub r-most : (kind : RunKind) → r_count kind ≤ 1
r-most RunKind.Reset = omega arith
r-most RunKind.Jump = omega arith
r-most RunKind.Hold = omega arith

-- where there is one it is sent
pub r-sent : (kind : RunKind) → 0 < r_count kind → sends_r kind ≡ true
r-sent RunKind.Reset l = refl
r-sent RunKind.Jump l = refl
r-sent RunKind.Hold l = absurd (omega arith)
