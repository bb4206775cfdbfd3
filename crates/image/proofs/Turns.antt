-- Turns of the loops that erase, store and spell: what is left, from here, gives what was to be given.
use Rattle.std.proofs.Common.{◌≡◌, ℕ, suc, ◌+◌, ◌-◌, ◌*◌, ◌/◌, ◌%◌, ◌<◌, ◌≤◌, List, length, drop, slice_set, slice_index, bit_and, refl, arith, add-one, drop-cons, drop_of_length-le}
use Rattle.basis.specs.Lists.{stored, copy_of}
use Rattle.basis.specs.Laws.Lists.{stored-turn, stored-ended}
use Rattle.image.specs.Flash.{erase_of, store_of}
use Rattle.image.specs.Writer.{letter_of, spelt}

module _ (flash : List ℕ) (a i : ℕ) where
  -- one byte erased, and the end
  pub erase-turn : (n : ℕ) → i < n
      → erase_of (slice_set flash (a + i) 0xFF) (a + (i + 1)) (n - (i + 1)) ≡ erase_of flash (a + i) (n - i)
  unfolding stored
  erase-turn n h =
      let e : n - i ≡ suc (n - (i + 1)) = omega arith in
      let f : a + (i + 1) ≡ a + i + 1 = omega arith in
      rw (e, f) refl

  pub erase-ended : (n : ℕ) → n ≤ i → erase_of flash a (n - i) ≡ flash
  unfolding stored
  erase-ended n h = let e : n - i ≡ 0 = omega arith in rw e refl

  -- one byte stored, and the end
  pub store-turn : (s : List ℕ) → i < length s
      → store_of (slice_set flash (a + i) (bit_and (slice_index flash (a + i)) (slice_index s i)))
      (a + (i + 1)) (drop (i + 1) s)
      ≡ store_of flash (a + i) (drop i s)
  store-turn s = stored-turn bit_and flash a i s

  pub store-ended : (s : List ℕ) → length s ≤ i → store_of flash a (drop i s) ≡ flash
  store-ended s = stored-ended bit_and flash a i s

-- one byte spelt, and the end
module _ (buffer : List ℕ) (a i : ℕ) (s : List ℕ) where
  pub spell-turn : (h l : ℕ) → i < length s → h ≡ letter_of (slice_index s i / 16)
      → l ≡ letter_of (slice_index s i % 16)
      → copy_of (slice_set (slice_set buffer (a + 2 * i) h) (a + 2 * i + 1) l)
      (a + 2 * (i + 1)) (spelt (drop (i + 1) s))
      ≡ copy_of buffer (a + 2 * i) (spelt (drop i s))
  unfolding stored spelt
  spell-turn h l k eh el =
      let e : a + 2 * (i + 1) ≡ a + 2 * i + 1 + 1 = omega arith in
      rw (e, add-one i, drop-cons s i 0 k, eh, el)

  pub spell-ended : length s ≤ i → copy_of buffer a (spelt (drop i s)) ≡ buffer
  unfolding stored spelt
  spell-ended h = rw (drop_of_length-le s h)

pub ruleset erases = (erase-turn, erase-ended)

pub ruleset stores = (store-turn, store-ended)

pub ruleset spells = (spell-turn, spell-ended)
