-- Numbers and characters written one behind the other.
use Rattle.std.proofs.Common.{◌≡◌, ℕ, ◌+◌, ◌≤◌, List, [], ◌∷◌, ◌++◌, length, set, sym, refl, ap, ◌∙◌, arith, length-append}
use Rattle.basis.specs.Lists.{overlay, stored, new, copy_of}
use Rattle.basis.specs.Laws.Lists.{stored-append, copy-overlay}
use Rattle.listing.specs.Lines.{line_end}
use Rattle.listing.specs.Numbers.{decimal_of}

-- one character
pub copy-one : (b : List ℕ) (at x : ℕ) → copy_of b at (x ∷ []) ≡ set b at x
unfolding stored
copy-one b at x = refl

module _ (b : List ℕ) (at : ℕ) where
  -- some, then others behind them
  pub copy-then : (s t c : List ℕ) (e : ℕ) → e ≡ at + length s → c ≡ copy_of b at s
      → copy_of c e t ≡ copy_of b at (s ++ t)
  copy-then s t c e ee ec = rw (ee, ec) (sym (stored-append new b at s t))

  pub copy-last : (s c : List ℕ) (e x : ℕ) → e ≡ at + length s → c ≡ copy_of b at s
      → set c e x ≡ copy_of b at (s ++ (x ∷ []))
  copy-last s c e x ee ec = sym (copy-one c e x) ∙ copy-then s (x ∷ []) c e ee ec

-- s is written from e on, up to k, which is at most r
abbrev pub Field : List ℕ → ℕ → List ℕ → List ℕ → ℕ → ℕ → Type 0
Field c e s d k r = (k ≡ e + length s) × ((d ≡ copy_of c e s) × (k ≤ r))

-- ---- lines from the buffer's start on

-- s is written, and the next place is e
abbrev pub Put : List ℕ → List ℕ → List ℕ → ℕ → Type 0
Put old s c e = (e ≡ length s) × (c ≡ copy_of old 0 s)

module _ (old : List ℕ) where
  pub put_first : (s c : List ℕ) (e r : ℕ) → Field old 0 s c e r → Put old s c e
  put_first s c e r f = (omega (arith, f.0), f.1.0)

  pub put_next : (s t c d : List ℕ) (e k r : ℕ) → Put old s c e → Field c e t d k r → Put old (s ++ t) d k
  put_next s t c d e k r p f = (
    omega (arith, length-append s t, p.0, f.0),
    f.1.0
        ∙ copy-then old 0 s t c e (omega (arith, p.0)) p.1,
  )

  -- all of it, over what the buffer held
  pub put-over : (s c : List ℕ) (e : ℕ) → Put old s c e → e ≤ length old
      → (e ≡ length s) × (c ≡ overlay s old)
  put-over s c e p h = (p.0, p.1 ∙ copy-overlay [] old s 0 refl (omega (arith, p.0)))

  -- one field, closed by 0A, is the whole line; its number may be one that was widened
  pub line_over : (w c : List ℕ) (e m n : ℕ) → m ≡ n → e ≡ 0 + length ((w ++ decimal_of m) ++ line_end)
      → c ≡ copy_of old 0 ((w ++ decimal_of m) ++ line_end) → e ≤ length old
      → c ≡ overlay ((w ++ decimal_of n) ++ line_end) old
  line_over w c e m n q f g h =
      g ∙ copy-overlay [] old ((w ++ decimal_of m) ++ line_end) 0 refl (omega arith)
      ∙ ap (λ (k : ℕ). overlay ((w ++ decimal_of k) ++ line_end) old) q
