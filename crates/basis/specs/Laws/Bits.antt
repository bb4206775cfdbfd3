-- Laws of bits.
use Rattle.std.specs.Prelude.{◌≡◌, ℕ, zero, suc, ◌/◌, ◌%◌, ◌^◌, ◌<◌, ◌==◌, refl}
use Rattle.std.proofs.Common.{arith}
use Rattle.std.specs.Int.Bits.{bit_or}
use Rattle.std.proofs.lemmas.Nat.{or_shr, or_mod}
use Rattle.basis.specs.Bits.{bit}
use Rattle.basis.specs.Choice.{either}

or-two : (x y : ℕ) → x < 2 → y < 2 → (bit_or x y == 1) ≡ either (x == 1) (y == 1)
or-two zero zero h k = refl
or-two zero (suc zero) h k = refl
or-two (suc zero) zero h k = refl
or-two (suc zero) (suc zero) h k = refl
or-two (suc (suc x)) y h k = absurd (omega arith)
or-two zero (suc (suc y)) h k = absurd (omega arith)
or-two (suc zero) (suc (suc y)) h k = absurd (omega arith)

-- a bit of an OR is one of the two
pub bit-or : (x y k : ℕ) → bit (bit_or x y) k ≡ either (bit x k) (bit y k)
bit-or x y k =
    rw (or_shr x y k, or_mod (x / 2 ^ k) (y / 2 ^ k) 1)
    (or-two (x / 2 ^ k % 2) (y / 2 ^ k % 2) (omega arith) (omega arith))
