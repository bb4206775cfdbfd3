-- Numbers in decimal.
use Rattle.std.specs.Prelude.{ℕ, zero, suc, ◌+◌, ◌/◌, ◌%◌, List, [], ◌∷◌, ◌++◌, nat_lt}
use Rattle.basis.specs.Choice.{pick}

-- the character of a digit
abbrev pub numeral : ℕ → ℕ
numeral d = 0x30 + d

-- n in decimal, by at most k divisions
unfoldable pub decimal_by : ℕ → ℕ → List ℕ
decimal_by zero n = numeral n ∷ []
decimal_by (suc k) n = pick (nat_lt n 10) (numeral n ∷ []) (decimal_by k (n / 10) ++ (numeral (n % 10) ∷ []))

-- n divisions are always enough
unfoldable pub decimal_of : ℕ → List ℕ
decimal_of n = decimal_by n n
