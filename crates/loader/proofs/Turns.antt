-- One turn of each loop, and its end, in the loop's own terms.
use Rattle.std.proofs.Common.{ℕ, ◌+◌, ◌≤◌, ◌<◌, true, false, List, ◌≡◌, add_assoc, add-one, eq-eqb, ne_eqb, length, get_or, drop, drop_of_length-le, drop-cons}
use Rattle.basis.specs.Laws.Choice.{any_here, any-end}
use Rattle.loader.specs.Verify.{equals_of}
use Rattle.packet.specs.Turn.{restored_of}

module _ (flash : List ℕ) (at i : ℕ) (s : List ℕ) where
  pub equals-on : i < length s → get_or flash (at + i) 0 ≡ restored_of (get_or s i 0)
      → equals_of flash (at + i) (drop i s) ≡ equals_of flash (at + (i + 1)) (drop (i + 1) s)
  unfolding equals_of
  equals-on h e = rw (← add_assoc at i 1, add-one i, drop-cons s i 0, eq-eqb _ _ e)

  pub equals-differs : i < length s → (get_or flash (at + i) 0 ≡ restored_of (get_or s i 0) → ⊥)
      → equals_of flash (at + i) (drop i s) ≡ false
  unfolding equals_of
  equals-differs h e = rw (drop-cons s i 0, ne_eqb _ _ e)

  pub equals-end : length s ≤ i → equals_of flash (at + i) (drop i s) ≡ true
  unfolding equals_of
  equals-end h = rw (drop_of_length-le s h)

-- a comparison goes on, differs and ends; a group is protected, or none is
pub ruleset turns = (equals-on, equals-differs, equals-end)

pub ruleset groups = (any_here, any-end)
