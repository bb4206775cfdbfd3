-- A number of two bytes, as its bytes.
use Rattle.std.specs.Int.{to_be_bytes}
use mir.Syntax.{w16}
use Rattle.std.proofs.Common.{◌≡◌, ℕ, ◌/◌, ◌%◌, ◌^◌, ◌<◌, [], ◌∷◌, arith}

pub two-bytes : (x : ℕ) → x < 2 ^ 16 → to_be_bytes w16 x ≡ x / 256 ∷ x % 256 ∷ []
two-bytes x h = let e : x / 256 % 256 ≡ x / 256 = omega arith in λ i. e i ∷ x % 256 ∷ []

pub ruleset halves = (two-bytes)
