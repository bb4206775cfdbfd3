-- Numbers as so many bytes, most significant first.
use Rattle.std.specs.Prelude.{ℕ, zero, suc, ◌+◌, ◌*◌, ◌/◌, ◌%◌, ◌^◌, Bool, List, [], ◌∷◌, ◌++◌, ltb, get_or}

-- a number as w bytes
unfoldable pub big_of : ℕ → ℕ → List ℕ
big_of zero x = []
big_of (suc w) x = big_of w (x / 256) ++ (x % 256 ∷ [])

-- the number that w bytes from place a on say
unfoldable pub big_at : ℕ → List ℕ → ℕ → ℕ
big_at zero s a = 0
big_at (suc w) s a = big_at w s a * 256 + get_or s (a + w) 0

-- w bytes hold it
abbrev pub fits_in : ℕ → ℕ → Bool
fits_in w x = ltb x (256 ^ w)
