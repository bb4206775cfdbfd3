-- One turn of a search and of a walk along a row, and their ends.
use Rattle.std.proofs.Common.{ℕ, zero, suc, ◌+◌, ◌-◌, ◌≤◌, ◌<◌, add-one, add-zero, arith, ◌≡◌, refl, ap, ap₂, subst, Bool, true, false, List, ◌/◌, ◌%◌, ◌^◌, eq-eqb, get_or}
use Rattle.basis.specs.Bits.{bit}
use Rattle.basis.specs.Laws.Computed.{agree}
use Rattle.runs.specs.Laws.Map.{named_past}
use Rattle.runs.specs.Map.{named, name_of, name_all_of}
use Rattle.runs.specs.Runs.{next, len}

-- one less to go
sub-step : (n a : ℕ) → a < n → n - a ≡ suc (n - suc a)
sub-step n a h = omega arith

-- a loop that searches up to n, at a
module _ (p : ℕ → Bool) (n a : ℕ) where
  pub next-end : n ≤ a → next p a (n - a) ≡ a
  unfolding next
  next-end h = let e : n - a ≡ 0 = omega arith in rw e

  pub next-stop : a < n → p a ≡ true → next p a (n - a) ≡ a
  unfolding next
  next-stop h t = rw (sub-step n a h, t)

  pub next-go : a < n → p a ≡ false → next p a (n - a) ≡ next p (a + 1) (n - (a + 1))
  unfolding next
  next-go h t = rw (add-one, sub-step n a h, t)

pub ruleset searches = (next-end, next-stop, next-go)

-- a loop that names what stands from a on and below e
module _ (map : List ℕ) (a e : ℕ) where
  pub name-go : a < e → name_all_of (name_of map a) (a + 1) (e - (a + 1)) ≡ name_all_of map a (e - a)
  unfolding name_all_of
  name-go h = let s : e - a ≡ suc (e - (a + 1)) = omega arith in rw s

  pub name-end : e ≤ a → name_all_of map a (e - a) ≡ map
  unfolding name_all_of
  name-end h = let z : e - a ≡ 0 = omega arith in rw z

pub ruleset names = (name-go, name-end)

module _ (p : ℕ → Bool) where
  len-none : (b f : ℕ) → p b ≡ false → len p b f ≡ 0
  unfolding len
  len-none b zero h = refl
  len-none b (suc f) h = rw h

  len-some : (b f : ℕ) → 0 < f → p b ≡ true → len p b f ≡ suc (len p (suc b) (f - 1))
  unfolding len
  len-some b zero l h = absurd (omega arith)
  len-some b (suc f) l h = let e : suc f - 1 ≡ f = omega arith in rw (e, h)

-- a loop that has gone n steps along a row
module _ (p : ℕ → Bool) (a cap n : ℕ) (inv : len p a cap ≡ n + len p (a + n) (cap - n)) where
  pub len-stop : p (a + n) ≡ false → len p a cap ≡ n
  len-stop h = omega (arith, len-none p (a + n) (cap - n) h)

  pub len-end : cap ≤ n → len p a cap ≡ n
  unfolding len
  len-end h = let e : cap - n ≡ 0 = omega arith in omega (arith, ap (len p (a + n)) e)

  pub len-go : n < cap → p (a + n) ≡ true → len p a cap ≡ n + 1 + len p (a + (n + 1)) (cap - (n + 1))
  len-go l h =
      let s : suc (a + n) ≡ a + (n + 1) = omega arith in
      let t : cap - n - 1 ≡ cap - (n + 1) = omega arith in
      omega (arith, len-some p (a + n) (cap - n) (omega arith) h, ap₂ (len p) s t)

-- k steps at once
pub len-step : (p : ℕ → Bool) (a cap n k : ℕ) → len p a cap ≡ n + len p (a + n) (cap - n) → n + k ≤ cap
    → ((i : ℕ) → i < k → p (a + n + i) ≡ true)
    → len p a cap ≡ n + k + len p (a + (n + k)) (cap - (n + k))
len-step p a cap n zero inv l h = rw add-zero inv
len-step p a cap n (suc k) inv l h =
    let e : n + k + 1 ≡ n + suc k = omega arith in
    let q : a + n + k ≡ a + (n + k) = omega arith in
    subst (λ (j : ℕ). len p a cap ≡ j + len p (a + j) (cap - j)) e
    (len-go p a cap (n + k) (len-step p a cap n k inv (omega arith) (λ i m. h i (omega arith))) (omega arith)
    (subst (λ (j : ℕ). p j ≡ true) q (h k (omega arith))))

pub ruleset rows = (len-stop, len-step, len-end)

-- all eight bits of 0xFF
full : (k : ℕ) → k < 8 → bit 0xFF k ≡ true
full k h = eq-eqb (0xFF / 2 ^ k % 2) 1 (agree (λ (j : ℕ). 0xFF / 2 ^ j % 2) (λ (j : ℕ). 1) 8 tt k h)

-- a byte that names eight
pub eight-named : (m : List ℕ) (a i : ℕ) → a % 8 ≡ 0 → get_or m (a / 8) 0 ≡ 0xFF → i < 8
    → named m (a + i) ≡ true
unfolding named
eight-named m a i z e h =
    let q : (a + i) / 8 ≡ a / 8 = omega arith in
    let r : (a + i) % 8 ≡ i = omega arith in
    rw (q, r, e) (full i h)

pub ruleset strides = (named_past, eight-named)
