-- Laws of numbers as bytes: how many they are, and that what fits reads back.
use Rattle.std.specs.Prelude.{ℕ, zero, suc, ◌+◌, ◌*◌, ◌/◌, ◌%◌, ◌^◌, ◌<◌, ◌≤◌, ◌-◌, List, [], ◌∷◌, ◌++◌, ◌≡◌, refl, length, get_or, take, drop}
use Rattle.std.proofs.Common.{append_assoc, sym, ap, ◌∙◌, pow-suc, div-lt_iff_lt-mul, div-add-mod', zero-lt-suc, arith, length-append}
use Rattle.std.proofs.lemmas.List.{get_or_at}
use Rattle.std.specs.Int.{w32, to_be_bytes}
use Rattle.service_log.specs.Big.{big_of, big_at}

pub big-length : (w x : ℕ) → length (big_of w x) ≡ w
unfolding big_of
big-length zero x = refl
big-length (suc w) x = length-append (big_of w (x / 256)) _ ∙ omega (arith, big-length w (x / 256))

-- what w bytes hold reads back, whatever stands before and behind it
pub big-back : (w x : ℕ) (p q : List ℕ) (a : ℕ) → length p ≡ a → x < 256 ^ w
    → big_at w (p ++ big_of w x ++ q) a ≡ x
unfolding big_of big_at
big-back zero x p q a e l = omega arith
big-back (suc w) x p q a e l =
    let y = x / 256 in
    let r = x % 256 in
    let h : y < 256 ^ w = (div-lt_iff_lt-mul (zero-lt-suc 255)).1 (rw (pow-suc 256 w) at l) in
    let n : length (p ++ big_of w y) ≡ a + w = length-append p _ ∙ omega (arith, big-length w y) in
    let c : p ++ (big_of w y ++ (r ∷ [])) ++ q ≡ p ++ big_of w y ++ (r ∷ q) =
    ap (λ (s : List ℕ). s ++ q) (sym (append_assoc p (big_of w y) (r ∷ [])))
    ∙ append_assoc (p ++ big_of w y) (r ∷ []) q in
    ap (λ (s : List ℕ). big_at w s a * 256 + get_or s (a + w) 0) c
    ∙ omega (
      arith,
      big-back w y p (r ∷ q) a e h,
      get_or_at (p ++ big_of w y) r q 0 (a + w) n,
      div-add-mod' x 256,
    )

-- the last w bytes of a number of four
pub big-bytes : (w x : ℕ) → w ≤ 4 → take (4 - (4 - w)) (drop (4 - w) (to_be_bytes w32 x)) ≡ big_of w x
unfolding big_of
big-bytes zero x h = refl
big-bytes (suc zero) x h = refl
big-bytes (suc (suc zero)) x h = refl
big-bytes (suc (suc (suc zero))) x h =
    let e : x / 65536 % 256 ≡ x / 256 / 256 % 256 = omega arith in
    ap (λ (b : ℕ). b ∷ x / 256 % 256 ∷ x % 256 ∷ []) e
big-bytes (suc (suc (suc (suc zero)))) x h =
    let e : x / 65536 % 256 ≡ x / 256 / 256 % 256 = omega arith in
    let f : x / 16777216 % 256 ≡ x / 256 / 256 / 256 % 256 = omega arith in
    ap (λ (b : ℕ). b ∷ x / 65536 % 256 ∷ x / 256 % 256 ∷ x % 256 ∷ []) f
    ∙ ap (λ (b : ℕ). x / 256 / 256 / 256 % 256 ∷ b ∷ x / 256 % 256 ∷ x % 256 ∷ []) e
big-bytes (suc (suc (suc (suc (suc w))))) x h = absurd (omega arith)
