-- Facts that are computed over all numbers below a bound, and the law that takes one number out.
use Rattle.std.specs.Prelude.{◌≡◌, ℕ, zero, suc, ◌<◌, Bool, true, false, T, nat_eq}
use Rattle.std.proofs.Common.{⊎_elim, sym, subst, le_of_suc-le-suc, not-suc-le-zero, eq-or-lt_of_le, eqb→eq}
use Rattle.basis.specs.Choice.{both}

-- the test passes at every number below n
abbrev pub all_below : (ℕ → Bool) → ℕ → Bool
all_below f zero = true
all_below f (suc n) = both (f n) (all_below f n)

both_left : (a b : Bool) → T (both a b) → T a
both_left true b t = tt
both_left false b t = t

both_right : (a b : Bool) → T (both a b) → T b
both_right true b t = t
both_right false b t = absurd t

pub one_of : (f : ℕ → Bool) (n : ℕ) → T (all_below f n) → (k : ℕ) → k < n → T (f k)
one_of f zero t k h = absurd (not-suc-le-zero h)
one_of f (suc n) t k h =
    ⊎_elim
    (λ e. subst (λ (m : ℕ). T (f m)) (sym e) (both_left (f n) (all_below f n) t))
    (λ l. one_of f n (both_right (f n) (all_below f n) t) k l)
    (eq-or-lt_of_le (le_of_suc-le-suc h))

-- two functions that agree below n
pub agree : (f g : ℕ → ℕ) (n : ℕ) → T (all_below (λ (k : ℕ). nat_eq (f k) (g k)) n) → (k : ℕ) → k < n
    → f k ≡ g k
agree f g n t k h = eqb→eq (f k) (g k) (one_of (λ (k : ℕ). nat_eq (f k) (g k)) n t k h)
