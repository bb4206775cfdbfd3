-- `print_step` meets its contract: number, letter, hex and 0A go out one behind the other.
use Rattle.std.proofs.Common.{◌≡◌, ℕ, ◌*◌, ◌^◌, ◌<◌, ◌≤◌, List, [], ◌∷◌, ◌++◌, length, take, Option, sym, rules}
use Rattle.std.proofs.KnownBytes.{Appends-trans}
use Rattle.std.specs.Fmt.{decimal}
use Rattle.std.specs.Io.KnownBytes.{Appends}
use Rattle.basis.specs.Lists.{copy_of}
use Rattle.image.specs.Writer.{spelt}
use Rattle.packet.specs.Packet.{command}
use Rattle.listing.specs.Laws.Numbers.{decimal-is}
use Rattle.listing.specs.Lines.{step_line}
use Rattle.listing.proofs.Digits.{spelt_taken}
use Rattle.listing.proofs.plan.print_step.Goals as goal

module _ (n k : ℕ) (p t old : List ℕ) (small : n < 2 ^ 64) (letter : k ≡ command p)
    (room : 2 * length p ≤ length old) (spells : t ≡ copy_of old 0 (spelt p)) where
  step-is : decimal n ++ ((0x20 ∷ k ∷ 0x20 ∷ []) ++ (take (2 * length p) t ++ (0x0A ∷ []))) ≡ step_line n p
  unfolding step_line
  step-is = rw (spells, spelt_taken old p room, letter, sym (decimal-is n small))

  step-goes : (a b c d e : Option (List ℕ)) → Appends a b (decimal n) → Appends b c (0x20 ∷ k ∷ 0x20 ∷ [])
      → Appends c d (take (2 * length p) t) → Appends d e (0x0A ∷ []) → Appends a e (step_line n p)
  step-goes a b c d e f g h i =
      rw (sym step-is)
      (Appends-trans a b e _ _ f (Appends-trans b c e _ _ g (Appends-trans c d e _ _ h i)))

pub returns : goal.returns
returns g c =
    search (rules, step-goes)
