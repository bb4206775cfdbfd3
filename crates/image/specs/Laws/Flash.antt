-- Laws of flash, erased and stored.
use Rattle.std.specs.Prelude.{◌≡◌, ℕ, ◌+◌, ◌<◌, ◌≤◌, List, length, take, drop, replicate, bit_and, slice_index}
use Rattle.std.proofs.Common.{◌∙◌, mod-eq_of_lt, arith, length-take, length-drop, get_or-take, get_or-drop, ext_get_or}
use Rattle.std.proofs.lemmas.Nat.{and_comm, and_mask}
use Rattle.std.proofs.lemmas.List.{length-replicate, get_or-replicate}
use Rattle.basis.specs.Laws.Lists.{length-stored, stored_at}
use Rattle.basis.specs.Lists.{Bytes, new}
use Rattle.image.specs.Flash.{store_of, erase_of, Blank}

-- ---- erasure

pub length-erase : (flash : List ℕ) (a n : ℕ) → length (erase_of flash a n) ≡ length flash
length-erase flash a n = length-stored new flash a (replicate n 0xFF)

pub erase-at : (flash : List ℕ) (a n k : ℕ) → k < n → a + n ≤ length flash
    → slice_index (erase_of flash a n) (a + k) ≡ 0xFF
erase-at flash a n k h l =
    stored_at new flash a (replicate n 0xFF) k (simp length-replicate h) (simp length-replicate l)
    ∙ get_or-replicate n k 0xFF 0 h

-- ---- stores

pub length-store : (flash : List ℕ) (a : ℕ) (s : List ℕ) → length (store_of flash a s) ≡ length flash
length-store = length-stored bit_and

and-blank : (x : ℕ) → x < 256 → bit_and 0xFF x ≡ x
and-blank x h = and_comm 0xFF x ∙ and_mask x 8 ∙ mod-eq_of_lt h

module _ (flash : List ℕ) (a : ℕ) (s : List ℕ) (l : a + length s ≤ length flash)
    (blank : Blank flash a (length s)) (bytes : Bytes s) where
  -- a byte stored over blank flash reads back, and so do all of them
  pub store-blank-at : (k : ℕ) → k < length s → slice_index (store_of flash a s) (a + k) ≡ slice_index s k
  store-blank-at k h =
      stored_at bit_and flash a s k h l ∙ rw (blank k h) (and-blank (slice_index s k) (bytes k))

  pub store-blank : take (length s) (drop a (store_of flash a s)) ≡ s
  store-blank =
      ext_get_or 0 (take (length s) (drop a (store_of flash a s))) s
      (simp (length-take, length-drop, length-store) (omega arith))
      (λ k h. let hk : k < length s = omega (arith, simp (length-take, length-drop, length-store) at h) in
      get_or-take (length s) (drop a (store_of flash a s)) k 0 hk ∙ get_or-drop a (store_of flash a s) k 0
      ∙ store-blank-at k hk)
