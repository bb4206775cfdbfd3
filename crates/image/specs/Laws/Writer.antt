-- Laws of the writer's characters and steps.
use Rattle.std.specs.Prelude.{◌≡◌, ℕ, suc, ◌+◌, ◌*◌, ◌/◌, ◌%◌, ◌<◌, List, [], ◌∷◌, ◌++◌, length, refl}
use Rattle.std.proofs.Common.{arith, lt-ltb}
use Rattle.basis.specs.Lists.{Bytes, overlay}
use Rattle.basis.specs.Laws.Computed.{agree}
use Rattle.image.specs.Digits.{digit_of, digits_before, decoded}
use Rattle.basis.specs.Refusals.{Answer, given}
use Rattle.image.specs.Writer.{letter_of, spelt, Step, measured, text_bytes}

pub length-spelt : (s : List ℕ) → length (spelt s) ≡ 2 * length s
unfolding spelt
length-spelt [] = refl
length-spelt (x ∷ s) = omega (arith, length-spelt s)

pub spelt-append : (s t : List ℕ) → spelt (s ++ t) ≡ spelt s ++ spelt t
unfolding spelt
spelt-append [] t = refl
spelt-append (x ∷ s) t = rw (spelt-append s t)

-- a digit reads back
digit-letter : (d : ℕ) → d < 16 → digit_of (letter_of d) ≡ d
unfolding digit_of letter_of
digit-letter d h = agree (λ (d : ℕ). digit_of (letter_of d)) (λ (d : ℕ). d) 16 tt d h

module _ (x : ℕ) (h : x < 256) where
  digit-high : digit_of (letter_of (x / 16)) ≡ x / 16
  digit-high = digit-letter (x / 16) (omega arith)

  high-below : x / 16 < 16
  high-below = omega arith

  digit_low : digit_of (letter_of (x % 16)) ≡ x % 16
  digit_low = digit-letter (x % 16) (omega arith)

-- what is spelt is all digits, and reads back
pub spelt-digits : (s : List ℕ) → Bytes s → digits_before (spelt s) ≡ length (spelt s)
unfolding spelt digits_before
spelt-digits [] h = refl
spelt-digits (x ∷ s) h =
    rw (
      digit-high x (h 0),
      lt-ltb (x / 16) 16 (high-below x (h 0)),
      digit_low x (h 0),
      lt-ltb (x % 16) 16 (omega arith),
    )
    (omega (arith, spelt-digits s (λ k. h (suc k))))

pub spelt-bytes : (s : List ℕ) → Bytes s → decoded (spelt s) ≡ s
unfolding spelt decoded
spelt-bytes [] h = refl
spelt-bytes (x ∷ s) h =
    let e : 16 * (x / 16) + x % 16 ≡ x = omega arith in
    rw (
      digit-high x (h 0),
      digit_low x (h 0),
      lt-ltb (x / 16) 16 (high-below x (h 0)),
      lt-ltb (x % 16) 16 (omega arith),
      e,
      spelt-bytes s (λ k. h (suc k)),
    )

-- what was told and written, where that is a step
pub step-told : (w : Answer Step) (s : Step) (n : ℕ) (old new : List ℕ) → w ≡ given s
    → n ≡ length s.text
    → new ≡ overlay s.text old
    → (given (record { length = n; next = s.next; upper = s.upper }) ≡ measured w)
    × (new ≡ overlay (text_bytes w) old)
step-told w s n old new e l b = (rw (e, l), rw e b)
