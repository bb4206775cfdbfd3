-- Laws of one count, one search and one row: what they are, step by step and as a whole.
use Rattle.std.proofs.lemmas.Bool.{eqb-false}
use Rattle.std.proofs.Math.Numerals.{add-one}
use Rattle.std.proofs.Math.Nat.{add-zero}
use Rattle.std.proofs.Common.{add-suc, eq-or-lt_of_le, le_of_suc-le-suc, ◌∙◌, ℕ, zero, suc, ◌+◌, ◌≤◌, ◌<◌, arith, eq-eqb, ne_eqb, eqb-true, lt-ltb, le-ltb, ltb-true, ltb-false}
use Rattle.std.specs.Prelude.{◌≡◌, Bool, false, eqb, ltb}
use Rattle.std.proofs.Math.Path.{refl, sym, ap, subst}
use Rattle.std.proofs.Math.Logic.{⊎_elim}
use Rattle.std.proofs.Math.Bool.{true}
use Rattle.basis.specs.Choice.{pick, both, any}
use Rattle.basis.specs.Laws.Choice.{decide, true-false}
use Rattle.runs.specs.Runs.{count, len, next, select}

-- ---- counts

module _ (p : ℕ → Bool) where
  pub count-zero : count p 0 ≡ 0
  unfolding count
  count-zero = refl

  pub count_yes : (n : ℕ) → p n ≡ true → count p (suc n) ≡ suc (count p n)
  unfolding count
  count_yes n t = rw t

  pub count_no : (n : ℕ) → p n ≡ false → count p (suc n) ≡ count p n
  unfolding count
  count_no n t = rw t

  pub count-le : (n : ℕ) → count p n ≤ n
  count-le zero = omega (arith, count-zero)
  count-le (suc n) =
      decide (p n) (λ t. omega (arith, count_yes n t, count-le n))
      (λ t. omega (arith, count_no n t, count-le n))

  -- where none passes nothing is counted
  pub count-skip : (a k : ℕ) → ((i : ℕ) → a ≤ i → i < a + k → p i ≡ false) → count p (a + k) ≡ count p a
  count-skip a zero h = ap (count p) (omega arith)
  count-skip a (suc k) h =
      rw add-suc (count_no (a + k) (h (a + k) (omega arith) (omega arith))
      ∙ count-skip a k (λ i g l. h i g (omega arith)))

  pub count-mono : (n a : ℕ) → a ≤ n → count p a ≤ count p n
  count-mono zero a l = omega (arith, ap (count p) (zero_of l))
    where
      zero_of : a ≤ zero → a ≡ 0
      zero_of l = omega arith
  count-mono (suc n) a l =
      ⊎_elim (λ e. omega (arith, ap (count p) e))
      (λ q. decide (p n) (λ t. omega (arith, count-mono n a (le_of_suc-le-suc q), count_yes n t))
      (λ t. omega (arith, count-mono n a (le_of_suc-le-suc q), count_no n t)))
      (eq-or-lt_of_le l)

  -- one that passes below n has its rank below the count
  pub rank_below : (n a : ℕ) → a < n → p a ≡ true → count p a < count p n
  rank_below n a l t = omega (arith, count_yes a t, count-mono n (suc a) l)

  -- one passes where the count grows
  pub count-tells : (n : ℕ) → ltb (count p n) (count p (n + 1)) ≡ p n
  count-tells n =
      rw add-one
      (decide (p n)
      (λ t. lt-ltb (count p n) (count p (suc n)) (omega (arith, count_yes n t)) ∙ sym t)
      (λ t. le-ltb (count p n) (count p (suc n)) (omega (arith, count_no n t)) ∙ sym t))

  -- what passes is found by its rank
  pub select-at : (n a : ℕ) → a < n → p a ≡ true → select p (count p a) n ≡ a
  unfolding select
  select-at zero a l t = absurd (omega arith)
  select-at (suc n) a l t =
      ⊎_elim
      (λ e. rw (subst (λ (k : ℕ). both (p k) (eqb (count p k) (count p a)) ≡ true) e (here t)) (sym e))
      (λ q. rw (there (p n) (λ e. omega (arith, rank_below n a q t))) (select-at n a q t))
      (eq-or-lt_of_le (le_of_suc-le-suc l))
    where
      here : p a ≡ true → both (p a) (eqb (count p a) (count p a)) ≡ true
      here t = rw (t, eq-eqb (count p a) (count p a) refl)

      there : (b : Bool) → (count p n ≡ count p a → ⊥) → both b (eqb (count p n) (count p a)) ≡ false
      there true h = ne_eqb _ _ h
      there false h = refl

  -- the k-th that passes, counted from 0
  pub record Kth (k n a : ℕ) : Type 0 where
    pub below : a < n
    pub passes : p a ≡ true
    pub rank : count p a ≡ k

  -- and each rank below the count is that of one that passes
  pub select-kth : (n k : ℕ) → k < count p n → Kth k n (select p k n)
  unfolding select
  select-kth zero k l = absurd (omega (arith, count-zero))
  select-kth (suc n) k l = decide (p n) (yes-n (select-kth n k)) (no-n (select-kth n k))
    where
      up : (a : ℕ) → Kth k n a → Kth k (suc n) a
      up a r = record { below = omega arith; passes = r.passes; rank = r.rank }

      yes-n : (k < count p n → Kth k n (select p k n)) → p n ≡ true
          → Kth k (suc n) (pick (both (p n) (eqb (count p n) k)) n (select p k n))
      yes-n ih t =
          decide (eqb (count p n) k)
          (λ d. rw (t, d) (record { below = omega arith; passes = t; rank = eqb-true _ _ d }))
          (λ d. rw (t, d) (up _ (ih (omega (arith, count_yes n t, eqb-false (count p n) k d)))))

      no-n : (k < count p n → Kth k n (select p k n)) → p n ≡ false
          → Kth k (suc n) (pick (both (p n) (eqb (count p n) k)) n (select p k n))
      no-n ih t = rw t (up _ (ih (omega (arith, count_no n t))))

  -- two that pass with the same rank are one
  pub rank-only : (a b : ℕ) → p a ≡ true → p b ≡ true → count p a ≡ count p b → a ≡ b
  rank-only a b s t e =
      sym (select-at (suc (a + b)) a (omega arith) s) ∙ rw e (select-at (suc (a + b)) b (omega arith) t)

  -- ranks ascend
  pub select-ascends : (n j k : ℕ) → j < k → k < count p n → select p j n < select p k n
  select-ascends n j k l h =
      let x = select-kth n j (omega arith) in
      let y = select-kth n k h in
      decide (ltb (select p j n) (select p k n))
      (λ d. ltb-true _ _ d)
      (λ d. absurd
      (omega (arith, x.rank, y.rank, count-mono (select p j n) (select p k n) (ltb-false _ _ d))))

-- ---- searches

module _ (p : ℕ → Bool) where
  -- one of f from a on passes where the lowest that does stands before their end
  pub any_next : (f a : ℕ) → any p a f ≡ ltb (next p a f) (a + f)
  unfolding any next
  any_next zero a = sym (le-ltb a (a + 0) (omega arith))
  any_next (suc f) a =
      decide (p a)
      (λ t. rw t (sym (lt-ltb a (a + suc f) (omega arith))))
      (λ t. rw (t, add-one a) (any_next f (suc a) ∙ ap (ltb (next p (suc a) f)) (omega arith)))

  pub next-ge : (f a : ℕ) → a ≤ next p a f
  unfolding next
  next-ge zero a = omega arith
  next-ge (suc f) a = decide (p a) (λ t. rw t (omega arith)) (λ t. rw t (omega (arith, next-ge f (suc a))))

  -- what is found passes
  pub next-pass : (f a : ℕ) → next p a f < a + f → p (next p a f) ≡ true
  unfolding next
  next-pass zero a l = absurd (omega arith)
  next-pass (suc f) a l =
      decide (p a) (λ t. rw t t) (λ t. rw t (next-pass f (suc a) (omega (arith, rw t at l))))

  -- and nothing before it does
  pub next-skip : (f a j : ℕ) → a ≤ j → j < next p a f → p j ≡ false
  unfolding next
  next-skip zero a j g l = absurd (omega arith)
  next-skip (suc f) a j g l =
      decide (p a)
      (λ t. absurd (omega (arith, rw t at l)))
      (λ t. ⊎_elim (λ e. subst (λ (k : ℕ). p k ≡ false) e t) (λ q. next-skip f (suc a) j q (rw t at l))
      (eq-or-lt_of_le g))

  pub next_le : (f a : ℕ) → next p a f ≤ a + f
  unfolding next
  next_le zero a = omega arith
  next_le (suc f) a = decide (p a) (λ t. rw t (omega arith)) (λ t. rw t (omega (arith, next_le f (suc a))))

  -- nothing else is the lowest that passes, or the end where none does
  pub next-only : (f a x : ℕ) → a ≤ x → x ≤ a + f → ((j : ℕ) → a ≤ j → j < x → p j ≡ false)
      → (x < a + f → p x ≡ true) → next p a f ≡ x
  next-only f a x g l none some =
      decide (ltb (next p a f) x)
      (λ d. let h = ltb-true (next p a f) x d in
      absurd (true-false (sym (next-pass f a (omega arith)) ∙ none (next p a f) (next-ge f a) h)))
      (λ d. decide (ltb x (next p a f))
      (λ e. let h = ltb-true x (next p a f) e in
      absurd (true-false (sym (some (omega (arith, next_le f a))) ∙ next-skip f a x g h)))
      (λ e. omega (arith, ltb-false (next p a f) x d, ltb-false x (next p a f) e)))

-- ---- rows

module _ (p : ℕ → Bool) where
  pub len-le : (a f : ℕ) → len p a f ≤ f
  unfolding len
  len-le a zero = omega arith
  len-le a (suc f) = decide (p a) (λ t. rw t (omega (arith, len-le (suc a) f))) (λ t. rw t (omega arith))

  -- all of a row passes
  pub len-in : (f a j : ℕ) → j < len p a f → p (a + j) ≡ true
  unfolding len
  len-in zero a j l = absurd (omega arith)
  len-in (suc f) a zero l = decide (p a) (λ t. rw (add-zero, t)) (λ t. absurd (omega (arith, rw t at l)))
  len-in (suc f) a (suc j) l =
      decide (p a)
      (λ t. subst (λ (k : ℕ). p k ≡ true) (omega arith) (len-in f (suc a) j (omega (arith, rw t at l))))
      (λ t. absurd (omega (arith, rw t at l)))

  -- a row that all passes is that long
  pub len-ge : (f a j : ℕ) → j ≤ f → ((i : ℕ) → i < j → p (a + i) ≡ true) → j ≤ len p a f
  unfolding len
  len-ge f a zero l h = omega arith
  len-ge zero a (suc j) l h = absurd (omega arith)
  len-ge (suc f) a (suc j) l h =
      let t : p a ≡ true = rw add-zero at (h 0 (omega arith)) in
      let r : j ≤ len p (suc a) f = len-ge f (suc a) j (omega arith)
      (λ i q. subst (λ (k : ℕ). p k ≡ true) (omega arith) (h (suc i) (omega arith))) in
      rw t (omega arith)

  -- what ends a row that is short of f fails
  pub len_out : (f a : ℕ) → len p a f < f → p (a + len p a f) ≡ false
  unfolding len
  len_out zero a l = absurd (omega arith)
  len_out (suc f) a l =
      decide (p a)
      (λ t. rw t (subst (λ (k : ℕ). p k ≡ false) (omega arith)
      (len_out f (suc a) (omega (arith, rw t at l)))))
      (λ t. rw t (rw add-zero t))
