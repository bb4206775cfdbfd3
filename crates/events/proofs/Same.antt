-- What std's `==` says of two slices is what `same_of` says.
use Rattle.std.specs.Prelude.{ℕ, List, [], ◌∷◌, Bool, true, false, ◌&&◌, ◌≡◌, refl, ◌==◌}
use Rattle.basis.specs.Choice.{both}
use Rattle.events.specs.Events.{same_of}
use Rattle.std.specs.Cmp.Lexicographic.{pointwise}

and-both : (a b c : Bool) → b ≡ c → a && b ≡ both a c
and-both true b c e = e
and-both false b c e = refl

pub same-pointwise : (s t : List ℕ) → pointwise (λ (x y : ℕ). x == y) s t ≡ same_of s t
unfolding same_of
same-pointwise [] [] = refl
same-pointwise [] (y ∷ t) = refl
same-pointwise (x ∷ s) [] = refl
same-pointwise (x ∷ s) (y ∷ t) = and-both (x == y) _ _ (same-pointwise s t)
