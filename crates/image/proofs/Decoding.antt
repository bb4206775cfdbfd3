-- Turns of the loop that decodes: decoding what is left, from here, gives what was to be given.
use Rattle.std.proofs.Common.{◌≡◌, ℕ, suc, ◌+◌, ◌*◌, ◌<◌, ◌≤◌, List, ◌∷◌, length, drop, slice_index, slice_set, ◌∙◌, arith, drop_of_length-le, drop-cons, le-ltb, lt-ltb}
use Rattle.basis.specs.Lists.{stored, copy_of}
use Rattle.image.specs.Digits.{digit_of, digits_before, decoded}

module _ (line bytes : List ℕ) (i : ℕ) where
  -- the characters that are left after i bytes
  abbrev left : List ℕ
  left = drop (2 * i + 1) line

  -- at the line's end none are left
  pub ended-place : length line ≤ 2 * i + 1 → digits_before left ≡ 0
  unfolding digits_before
  ended-place h = rw (drop_of_length-le line h)

  pub ended-bytes : length line ≤ 2 * i + 1 → copy_of bytes i (decoded left) ≡ bytes
  unfolding decoded stored
  ended-bytes h = rw (drop_of_length-le line h)

  -- two characters more
  module _ (h : 2 * i + 2 < length line) where
    abbrev high : ℕ
    high = digit_of (slice_index line (2 * i + 1))

    abbrev low : ℕ
    low = digit_of (slice_index line (2 * i + 2))

    pair : left ≡ slice_index line (2 * i + 1) ∷ slice_index line (2 * i + 2) ∷ drop (2 * (i + 1) + 1) line
    pair =
        let e : suc (2 * i + 1) ≡ 2 * i + 2 = omega arith in
        let f : suc (2 * i + 2) ≡ 2 * (i + 1) + 1 = omega arith in
        drop-cons line (2 * i + 1) 0 (omega arith) ∙ rw (e, drop-cons line (2 * i + 2) 0 h, f)

    -- the first is no digit
    pub high-place : 16 ≤ high → digits_before left ≡ 0
    unfolding digits_before
    high-place a = rw (pair, le-ltb _ _ a)

    pub high-bytes : 16 ≤ high → copy_of bytes i (decoded left) ≡ bytes
    unfolding decoded stored
    high-bytes a = rw (pair, le-ltb _ _ a)

    module _ (a : high < 16) where
      -- the second is none
      pub low-place : 16 ≤ low → digits_before left ≡ 1
      unfolding digits_before
      low-place b = rw (pair, lt-ltb _ _ a, le-ltb _ _ b)

      pub low-bytes : 16 ≤ low → copy_of bytes i (decoded left) ≡ bytes
      unfolding decoded stored
      low-bytes b = rw (pair, lt-ltb _ _ a, le-ltb _ _ b)

      -- both are
      pub more-place : low < 16 → digits_before left ≡ 2 + digits_before (drop (2 * (i + 1) + 1) line)
      unfolding digits_before
      more-place b = rw (pair, lt-ltb _ _ a, lt-ltb _ _ b) (omega arith)

      pub more-bytes : low < 16 → (x y : ℕ) → x ≡ high → y ≡ low
          → copy_of (slice_set bytes i (16 * x + y)) (i + 1) (decoded (drop (2 * (i + 1) + 1) line))
          ≡ copy_of bytes i (decoded left)
      unfolding decoded stored
      more-bytes b x y e f = rw (pair, lt-ltb _ _ a, lt-ltb _ _ b, e, f)

pub ruleset decodings =
    (ended-place, ended-bytes, high-place, high-bytes, low-place, low-bytes, more-place, more-bytes)
