-- The map of named addresses: one bit an address, lowest bit first.
use Rattle.std.specs.Prelude.{ℕ, zero, suc, ◌+◌, ◌*◌, ◌/◌, ◌%◌, ◌^◌, ◌≤◌, ◌<◌, List, Bool, true, false, ◌≡◌, get_or, set, Option, Some, None}
use Rattle.std.specs.Int.Bits.{bit_or}
use Rattle.basis.specs.Bits.{bit}
use Rattle.basis.specs.Choice.{any}

-- the address is named
unfoldable pub named : List ℕ → ℕ → Bool
named m a = bit (get_or m (a / 8) 0) (a % 8)

-- the map with the address named, all other bits as they were
unfoldable pub name_of : List ℕ → ℕ → List ℕ
name_of m a = set m (a / 8) (bit_or (get_or m (a / 8) 0) (2 ^ (a % 8)))

-- one of the n places from a on is named
abbrev pub any_named : List ℕ → ℕ → ℕ → Bool
any_named m a n = any (named m) a n

-- a step of r in a row that has room for so many more: each of its places is named; none is the row's end
abbrev pub Stride : List ℕ → ℕ → ℕ → Option ℕ → Type 0
Stride m a most None = named m a ≡ false
Stride m a most (Some r) = (0 < r) × (r ≤ most) × ((i : ℕ) → i < r → named m (a + i) ≡ true)

-- the map with the n places from a on named
unfoldable pub name_all_of : List ℕ → ℕ → ℕ → List ℕ
name_all_of m a zero = m
name_all_of m a (suc n) = name_all_of (name_of m a) (a + 1) n

-- the number that k bytes of the map from the i-th on make, the first lowest
unfoldable pub word_of : List ℕ → ℕ → ℕ → ℕ
word_of m i zero = 0
word_of m i (suc k) = get_or m i 0 + 256 * word_of m (i + 1) k
