-- Laws of tables of refusals.
use Rattle.std.specs.Prelude.{◌≡◌, ℕ, Bool, true, false, List, [], ◌∷◌, length, ◌≢◌, Result, Ok, Err}
use Rattle.std.proofs.Math.Path.{refl}
use Rattle.std.proofs.Common.{sym, ap, subst, ◌∙◌, arith}
use Rattle.basis.specs.Choice.{pick}
use Rattle.basis.specs.Lists.{overlay}
use Rattle.basis.specs.Refusals.{Answer, refused, given, Rule, ◌when◌, first, and_then, counted, written, answer_of}

-- what is refused is not given
pub apart : {A : Type 0} {n : ℕ} {x : A} → refused n ≢ given x
apart e = let z : ◌≡◌ {A = ℕ} 0 1 = cc in omega arith

-- what is given alike is alike, and so is what is refused
pub given-one : {A : Type 0} {x y : A} → given x ≡ given y → x ≡ y
given-one e = cc

pub refused-one : {A : Type 0} {m n : ℕ} → ◌≡◌ {A = Answer A} (refused m) (refused n) → m ≡ n
refused-one e = cc

-- answers are told apart where the numbers tell the errors apart, and what is shown the values
pub answer-one : {A B E : Type 0} (number : E → ℕ) (shown : A → B)
    → ((x y : E) → number x ≡ number y → x ≡ y)
    → ((x y : A) → shown x ≡ shown y → x ≡ y)
    → (r s : Result A E)
    → answer_of number shown r ≡ answer_of number shown s
    → r ≡ s
answer-one number shown f g (Ok x) (Ok y) e = ap Ok (g x y (given-one e))
answer-one number shown f g (Ok x) (Err y) e = absurd (apart (sym e))
answer-one number shown f g (Err x) (Ok y) e = absurd (apart e)
answer-one number shown f g (Err x) (Err y) e = ap Err (f x y (refused-one e))

module _ {A : Type 0} where
  -- a row whose test fails is passed over
  pub skip : (n : ℕ) (t : Bool) (l : List Rule) (r : Answer A) → t ≡ false
      → first (n when t ∷ l) r ≡ first l r
  unfolding first
  skip n t l r e = simp e

  -- one whose test holds decides
  pub stop : (n : ℕ) (t : Bool) (l : List Rule) (r : Answer A) → t ≡ true → first (n when t ∷ l) r ≡ refused n
  unfolding first
  stop n t l r e = simp e

  pub done : (r : Answer A) → first [] r ≡ r
  unfolding first
  done r = refl

  -- it was given, so the test was false
  pub passed : {x : A} (n : ℕ) (t : Bool) (l : List Rule) (r : Answer A)
      → first (n when t ∷ l) r ≡ given x
      → (t ≡ false) × (first l r ≡ given x)
  unfolding first
  passed n true l r e = absurd (apart e)
  passed n false l r e = (refl, e)

-- a table is its refusals, and then what it guards: all that is proved of tables by induction
pub first_then : {A : Type 0} (l : List Rule) (r : Answer A) → first l r ≡ and_then (first l (given tt)) r
unfolding first
first_then [] r = refl
first_then {A} (x ∷ l) r = go x.holds (first_then l r)
  where
    go : (t : Bool)
        → first l r ≡ and_then (first l (given tt)) r
        → pick t (refused x.number) (first l r)
        ≡ and_then (pick t (refused x.number) (first l (given tt))) r
    go true e = refl
    go false e = e

-- it refuses alike whatever it guards
pub alike : {A B : Type 0} {n : ℕ} (l : List Rule) (x : A) (y : B)
    → first l (given x) ≡ refused n
    → first l (given y) ≡ refused n
alike {A} {B} {n} l x y e =
    first_then l (given y) ∙ go (first l (given tt)) (sym (first_then l (given x)) ∙ e)
  where
    go : (a : Answer (Unit {0})) → and_then a (given x) ≡ refused n → and_then a (given y) ≡ refused n
    go (refused m) e = ap refused (refused-one e)
    go (given u) e = absurd (apart (sym e))

-- and lets through alike
pub through : {A B : Type 0} {z : A} (l : List Rule) (x : A) (r : Answer B) → first l (given x) ≡ given z
    → first l r ≡ r
through {A} {B} {z} l x r e = first_then l r ∙ go (first l (given tt)) (sym (first_then l (given x)) ∙ e)
  where
    go : (a : Answer (Unit {0})) → and_then a (given x) ≡ given z → and_then a r ≡ r
    go (refused m) e = absurd (apart e)
    go (given u) e = refl

-- what holds of each refusal and of what it guards holds of what it gives
pub by-table : {A : Type 0} (P : Answer A → Type 0) (l : List Rule) (r : Answer A)
    → ((n : ℕ) → P (refused n))
    → P r
    → P (first l r)
by-table {A} P l r p q = subst P (sym (first_then l r)) (go (first l (given tt)))
  where
    go : (a : Answer (Unit {0})) → P (and_then a r)
    go (refused n) = p n
    go (given u) = q

-- an enum is known by what the paper has for it, where that has a way back
pub back_one : {A B : Type 0} (paper : A → B) (by : B → A)
    → ((x : A) → by (paper x) ≡ x)
    → (x y : A)
    → paper x ≡ paper y
    → x ≡ y
back_one paper by back x y e = sym (back x) ∙ ap by e ∙ back y

-- two outcomes that one equation permits are equal, where the paper tells all cases apart
pub determined : {A B : Type 0} (paper : A → B) → ((r s : A) → paper r ≡ paper s → r ≡ s)
    → {x : B} (r s : A) → paper r ≡ x → paper s ≡ x
    → r ≡ s
determined paper one r s p q = one r s (p ∙ sym q)

-- what a function that fills a lent buffer shows: a refusal leaves it, an acceptance writes its bytes
pub leaves : {b : Answer (List ℕ)} {n : ℕ} (old : List ℕ) → b ≡ refused n
    → (refused n ≡ counted b) × (old ≡ overlay (written b) old)
leaves old e = rw e (refl, refl)

pub writes : {b : Answer (List ℕ)} {s : List ℕ} {n : ℕ} (old after : List ℕ) → b ≡ given s → n ≡ length s
    → after ≡ overlay s old
    → (given n ≡ counted b) × (after ≡ overlay (written b) old)
writes old after e f g = rw e (ap given f, g)
