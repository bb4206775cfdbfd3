-- V's comparison.
use Rattle.std.specs.Prelude.{ℕ, ◌+◌, Bool, true, List, [], ◌∷◌, eqb, get_or}
use Rattle.basis.specs.Choice.{both}
use Rattle.packet.specs.Turn.{restored_of}

-- all bytes, turned back, equal flash from address a on
unfoldable pub equals_of : List ℕ → ℕ → List ℕ → Bool
equals_of flash a [] = true
equals_of flash a (t ∷ s) = both (eqb (get_or flash a 0) (restored_of t)) (equals_of flash (a + 1) s)
