-- `fits_in` meets its contract: nothing is left above so many bytes.
use Rattle.std.proofs.Common.{ℕ, zero, suc, ◌*◌, ◌/◌, ◌^◌, ◌≡◌, refl, sym, ◌∙◌, mul-suc, pow-suc, div-lt_iff_lt-mul, arith, eq-eqb, ne_eqb, ltb-true, ltb-false, eqb, ltb, pow_pos, pow-add}
use Rattle.std.proofs.Math.Nat.{div-eq_of_lt}
use Rattle.basis.specs.Laws.Choice.{decide}
use Rattle.service_log.specs.Big.{fits_in}
use Rattle.service_log.proofs.big.fits_in.Goals as goal

-- a byte is eight bits
bits : (w : ℕ) → 2 ^ (8 * w) ≡ 256 ^ w
bits zero = refl
bits (suc w) = rw (mul-suc 8 w, pow-add 2 (8 * w) 8, bits w) (sym (pow-suc 256 w))

-- what fits leaves nothing above, and what does not leaves something
above : (w x : ℕ) → eqb (x / 2 ^ (8 * w)) 0 ≡ fits_in w x
above w x =
    rw (← bits w)
    (decide (ltb x (2 ^ (8 * w)))
    (λ t. eq-eqb (x / 2 ^ (8 * w)) 0 (div-eq_of_lt (ltb-true x (2 ^ (8 * w)) t)) ∙ sym t)
    (λ t. ne_eqb (x / 2 ^ (8 * w)) 0 (λ e. omega (
      arith,
      ltb-false x (2 ^ (8 * w)) t,
      (div-lt_iff_lt-mul {k = 2 ^ (8 * w)} {x = x} {y = 1} (pow_pos (8 * w))).0 (omega arith),
    )) ∙ sym t))

pub returns : goal.returns
returns c = rw c.from.ensures (above c.args.width c.args.x)
