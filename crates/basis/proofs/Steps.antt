-- Steps that the loops and the std calls of this crate share.
use Rattle.std.proofs.Common.{◌≡◌, ℕ, ◌+◌, ◌<◌, ◌≤◌, List, [], ◌∷◌, ◌++◌, length, take, drop, slice_set, slice_index, arith, length-set, refl}
use Rattle.std.proofs.lemmas.Grind.{common_steps}
use Rattle.std.proofs.lemmas.List.{take_more_set}
use borrow.Rule.Slice.PartMut.{put_mid}
use Rattle.basis.specs.Lists.{new, stored, copy_of}
use Rattle.basis.specs.Laws.Lists.{stored-turn, stored-ended}
use Rattle.basis.specs.Laws.Sums.{sum-nil, sum_more}

-- the sum of nothing, and of one more byte
pub ruleset sums = (sum-nil, sum_more)

module _ (old : List ℕ) (a i : ℕ) (s : List ℕ) where
  -- one turn of a loop that copies, and its end
  pub copy-turn : i < length s
      → copy_of (slice_set old (a + i) (slice_index s i)) (a + (i + 1)) (drop (i + 1) s)
      ≡ copy_of old (a + i) (drop i s)
  copy-turn = stored-turn new old a i s

  pub copy-ended : length s ≤ i → copy_of old a (drop i s) ≡ old
  copy-ended = stored-ended new old a i s

pub ruleset copies = (copy-turn, copy-ended)

-- a part put back in the middle is copied there
pub copied : (old : List ℕ) (a k : ℕ) (s : List ℕ) → k ≡ length s → a + length s ≤ length old
    → put_mid a k old s ≡ copy_of old a s
unfolding stored
copied old a k [] e h = grind (arith, common_steps)
copied old a k (x ∷ s) e h =
    let h' : a + 1 + length s ≤ length (slice_set old a x) = rw length-set (omega arith) in
    let p : put_mid (a + 1) (length s) (slice_set old a x) s ≡ copy_of (slice_set old a x) (a + 1) s =
    copied (slice_set old a x) (a + 1) (length s) s refl h' in
    let t : take (a + 1) (slice_set old a x) ≡ take a old ++ x ∷ [] = take_more_set old a x (omega arith) in
    grind (arith, common_steps, p, t)
