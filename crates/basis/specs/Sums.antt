-- The low byte of a sum, and the byte that makes it zero.
use Rattle.std.specs.Prelude.{ℕ, ◌+◌, ◌-◌, ◌%◌, List, [], ◌∷◌}

-- the plain sum, with no wrap
unfoldable pub plain_sum : List ℕ → ℕ
plain_sum [] = 0
plain_sum (x ∷ s) = x + plain_sum s

-- the low byte of the sum
unfoldable pub sum_of : List ℕ → ℕ
sum_of s = plain_sum s % 256

-- what makes a low byte zero
abbrev pub complement_of : ℕ → ℕ
complement_of total = (256 - total) % 256

-- the checksum makes the low byte of the sum zero
abbrev pub checksum_of : List ℕ → ℕ
checksum_of s = complement_of (sum_of s)
