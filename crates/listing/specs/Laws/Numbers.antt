-- Laws of decimal numbers.
use Rattle.std.specs.Prelude.{◌≡◌, ℕ, zero, suc, ◌/◌, ◌%◌, ◌^◌, ◌<◌, ◌≤◌, List, [], ◌∷◌, ◌++◌, length, nat_lt, refl}
use Rattle.std.proofs.Math.Nat.{pow-succ'}
use Rattle.std.proofs.Common.{ap, ◌∙◌, arith, lt-ltb, le-ltb, ltb-true, ltb-false, length-append}
use Rattle.std.proofs.lemmas.Fmt.{decimal_by_steps}
use Rattle.std.specs.Fmt.{decimal}
use Rattle.basis.specs.Laws.Choice.{decide}
use Rattle.listing.specs.Numbers.{numeral, decimal_by, decimal_of}

enough : (j k n : ℕ) → n ≤ j → n ≤ k → decimal_by j n ≡ decimal_by k n
unfolding decimal_by
enough zero zero n h l = refl
enough zero (suc k) n h l = rw (lt-ltb n 10 (omega arith))
enough (suc j) zero n h l = rw (lt-ltb n 10 (omega arith))
enough (suc j) (suc k) n h l =
    decide (nat_lt n 10)
    (λ t. rw t)
    (λ t. let g = ltb-false n 10 t in rw (t, enough j k (n / 10) (omega arith) (omega arith)))

pub decimal-one : (n : ℕ) → n < 10 → decimal_of n ≡ numeral n ∷ []
unfolding decimal_of decimal_by
decimal-one zero h = refl
decimal-one (suc n) h = rw (lt-ltb (suc n) 10 h)

pub decimal-more : (n : ℕ) → 10 ≤ n → decimal_of n ≡ decimal_of (n / 10) ++ (numeral (n % 10) ∷ [])
unfolding decimal_of decimal_by
decimal-more zero h = absurd (omega arith)
decimal-more (suc n) h =
    rw (le-ltb (suc n) 10 h, enough n (suc n / 10) (suc n / 10) (omega arith) (omega arith))

-- k + 1 digits hold what is below 10 to the k + 1
decimal-length : (k n : ℕ) → n < 10 ^ suc k → length (decimal_of n) ≤ suc k
decimal-length zero n h = rw (decimal-one n (omega arith)) (omega arith)
decimal-length (suc k) n h =
    decide (nat_lt n 10)
    (λ t. rw (decimal-one n (ltb-true n 10 t)) (omega arith))
    (λ t. let e = pow-succ' 10 (suc k) in
    rw (decimal-more n (ltb-false n 10 t), length-append (decimal_of (n / 10)) (numeral (n % 10) ∷ []))
    (omega (arith, decimal-length k (n / 10) (omega arith))))

-- 64 bits make at most 20 digits
pub decimal-most : (n : ℕ) → n < 2 ^ 64 → length (decimal_of n) ≤ 20
decimal-most n h = decimal-length 19 n (omega arith)

-- the digits that `{}` writes
pub decimal-is : (n : ℕ) → n < 2 ^ 64 → decimal_of n ≡ decimal n
decimal-is =
    decimal_by_steps (λ n s. decimal_of n ≡ s) decimal-one
    (λ n s h e. decimal-more n h ∙ ap (λ (t : List ℕ). t ++ (numeral (n % 10) ∷ [])) e)
