-- Laws of sums.
use Rattle.std.specs.Prelude.{◌≡◌, ℕ, ◌+◌, ◌%◌, ◌<◌, List, [], ◌∷◌, ◌++◌, refl}
use Rattle.std.proofs.Common.{arith}
use Rattle.basis.specs.Sums.{plain_sum, sum_of, checksum_of}

plain-append : (s t : List ℕ) → plain_sum (s ++ t) ≡ plain_sum s + plain_sum t
unfolding plain_sum
plain-append [] t = omega arith
plain-append (x ∷ s) t = omega (arith, plain-append s t)

pub sum-nil : sum_of [] ≡ 0
unfolding sum_of plain_sum
sum-nil = refl

pub sum-append : (s t : List ℕ) → sum_of (s ++ t) ≡ (sum_of s + sum_of t) % 256
unfolding sum_of
sum-append s t = omega (arith, plain-append s t)

-- one more byte
pub sum_more : (s : List ℕ) (x : ℕ) → sum_of (s ++ (x ∷ [])) ≡ (sum_of s + x) % 256
unfolding sum_of plain_sum
sum_more s x = omega (arith, plain-append s (x ∷ []))

sum_below : (s : List ℕ) → sum_of s < 256
unfolding sum_of
sum_below s = omega arith

-- a list with its checksum sums to zero
pub sum-closed : (s : List ℕ) → sum_of (s ++ (checksum_of s ∷ [])) ≡ 0
sum-closed s = omega (arith, sum_more s (checksum_of s), sum_below s)

-- and no other byte makes it so
pub checksum-only : (s : List ℕ) (x : ℕ) → x < 256 → sum_of (s ++ (x ∷ [])) ≡ 0 → x ≡ checksum_of s
checksum-only s x h e = omega (arith, sum_more s x, sum_below s)
