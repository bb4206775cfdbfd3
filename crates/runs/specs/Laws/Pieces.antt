-- Laws of pieces: every number that passes lies in exactly one, pieces hold nothing else, are at most cap
-- long, cut from the run's start, ascending and disjoint; with no cap reached they are the maximal runs.
use Rattle.std.proofs.lemmas.Bool.{eqb-false}
use Rattle.std.specs.Prelude.{ℕ, zero, suc, ◌+◌, ◌-◌, ◌≤◌, ◌<◌, ◌≡◌, Bool, true, false, eqb, ltb}
use Rattle.std.proofs.Common.{add-zero, add-suc, eq-or-lt_of_le, le_of_suc-le-suc, arith, sym, ap, subst, ◌∙◌, ⊎_elim, eq-eqb, ne_eqb, eqb-true, ltb-true, ltb-false}
use Rattle.std.proofs.Math.Path.{refl}
use Rattle.basis.specs.Laws.Choice.{decide, both_true, true-false}
use Rattle.runs.specs.Runs.{count, off, starts, len, next, home, follow}
use Rattle.runs.specs.Laws.Runs.{count-zero, count_yes, count-skip, rank-only, next-ge, next-pass, next-skip, len-le, len-in, len-ge, len_out}

module _ (p : ℕ → Bool) (cap : ℕ) where
  -- ---- the place in the piece

  pub off_zero : off p cap 0 ≡ 0
  unfolding off
  off_zero = refl

  pub off-false : (a : ℕ) → p a ≡ false → off p cap (suc a) ≡ 0
  unfolding off
  off-false a h = rw h

  pub off-wrap : (a : ℕ) → p a ≡ true → suc (off p cap a) ≡ cap → off p cap (suc a) ≡ 0
  unfolding off
  off-wrap a h e = rw (h, eq-eqb _ _ e)

  pub off-more : (a : ℕ) → p a ≡ true → (suc (off p cap a) ≡ cap → ⊥) → off p cap (suc a) ≡ suc (off p cap a)
  unfolding off
  off-more a h e = rw (h, ne_eqb _ _ e)

  -- the three ways on from a
  off_next : {R : Type 0} (a : ℕ) → (p a ≡ false → off p cap (suc a) ≡ 0 → R)
      → (p a ≡ true → suc (off p cap a) ≡ cap → off p cap (suc a) ≡ 0 → R)
      → (p a ≡ true → (suc (off p cap a) ≡ cap → ⊥) → off p cap (suc a) ≡ suc (off p cap a) → R) → R
  off_next a f g h =
      decide (p a)
      (λ t. decide (eqb (suc (off p cap a)) cap)
      (λ d. g t (eqb-true _ _ d) (off-wrap a t (eqb-true _ _ d)))
      (λ d. h t (eqb-false _ _ d) (off-more a t (eqb-false _ _ d))))
      (λ t. f t (off-false a t))

  off-le : (a : ℕ) → off p cap a ≤ a
  off-le zero = omega (arith, off_zero)
  off-le (suc a) = off_next a (λ t e. omega arith) (λ t w e. omega arith) (λ t n e. omega (arith, off-le a))

  pub off-below : 0 < cap → (a : ℕ) → off p cap a < cap
  off-below z zero = omega (arith, off_zero)
  off-below z (suc a) =
      off_next a (λ t e. omega arith) (λ t w e. omega arith) (λ t n e. omega (arith, off-below z a))

  -- ---- starts

  pub starts-at : (a : ℕ) → p a ≡ true → off p cap a ≡ 0 → starts p cap a ≡ true
  unfolding starts
  starts-at a h e = rw (h, eq-eqb _ _ e)

  pub starts-inside : (a : ℕ) → (off p cap a ≡ 0 → ⊥) → starts p cap a ≡ false
  unfolding starts
  starts-inside a e = decide (p a) (λ t. rw t (ne_eqb _ _ e)) (λ t. rw t)

  pub starts-fail : (a : ℕ) → p a ≡ false → starts p cap a ≡ false
  unfolding starts
  starts-fail a h = rw h

  pub starts-off : (a : ℕ) → starts p cap a ≡ true → (p a ≡ true) × (off p cap a ≡ 0)
  unfolding starts
  starts-off a h = let b = both_true _ _ h in (b.0, eqb-true _ _ b.1)

  -- ---- the piece that a number lies in

  -- from a's home up to a all pass
  home-run : (a i : ℕ) → i < off p cap a → p (home p cap a + i) ≡ true
  home-run zero i l = absurd (omega (arith, off_zero))
  home-run (suc a) i l =
      off_next a
      (λ t e. absurd (omega arith))
      (λ t w e. absurd (omega arith))
      (λ t n e. ⊎_elim
      (λ q. subst (λ (k : ℕ). p k ≡ true) (omega (arith, off-le a)) t)
      (λ q. subst (λ (k : ℕ). p k ≡ true) (omega (arith, off-le a)) (home-run a i q))
      (eq-or-lt_of_le (le_of_suc-le-suc (rw e at l))))

  home-starts : (a : ℕ) → p a ≡ true → starts p cap (home p cap a) ≡ true
  home-starts zero t = subst (λ (k : ℕ). starts p cap k ≡ true) (omega arith) (starts-at 0 t off_zero)
  home-starts (suc a) t =
      off_next a
      (λ s e. here e)
      (λ s w e. here e)
      (λ s n e. subst (λ (k : ℕ). starts p cap k ≡ true) (omega arith) (home-starts a s))
    where
      here : off p cap (suc a) ≡ 0 → starts p cap (home p cap (suc a)) ≡ true
      here e = subst (λ (k : ℕ). starts p cap k ≡ true) (omega arith) (starts-at (suc a) t e)

  -- a's place is within its piece's length
  home-in : 0 < cap → (a : ℕ) → p a ≡ true → off p cap a < len p (home p cap a) cap
  home-in z a t =
      len-ge p cap (home p cap a) (suc (off p cap a)) (off-below z a)
      (λ i l. ⊎_elim
      (λ e. subst (λ (k : ℕ). p k ≡ true) (omega (arith, off-le a)) t)
      (λ q. home-run a i q)
      (eq-or-lt_of_le (le_of_suc-le-suc l)))

  -- every number that passes lies in a piece
  pub in-piece : 0 < cap → (a : ℕ) → p a ≡ true
      → (starts p cap (home p cap a) ≡ true) × (home p cap a ≤ a) × (a < home p cap a + len p
      (home p cap a) cap)
  in-piece z a t = (home-starts a t, omega arith, omega (arith, home-in z a t, off-le a))

  -- ---- what a piece holds

  piece-off : (s : ℕ) → starts p cap s ≡ true → (j : ℕ) → j < len p s cap → off p cap (s + j) ≡ j
  piece-off s h zero l = rw add-zero (starts-off s h).1
  piece-off s h (suc j) l =
      let o : off p cap (s + j) ≡ j = piece-off s h j (omega arith) in
      let t : p (s + j) ≡ true = len-in p cap s j (omega arith) in
      rw add-suc (off-more (s + j) t (λ e. omega (arith, len-le p s cap)) ∙ ap suc o)

  piece-place : (s a : ℕ) → starts p cap s ≡ true → s ≤ a → a < s + len p s cap → off p cap a ≡ a - s
  piece-place s a h g l =
      let k : s + (a - s) ≡ a = omega arith in
      sym (ap (off p cap) k) ∙ piece-off s h (a - s) (omega arith)

  -- and in no other piece
  pub only-piece : (s a : ℕ) → starts p cap s ≡ true → s ≤ a → a < s + len p s cap → s ≡ home p cap a
  only-piece s a h g l = omega (arith, piece-place s a h g l)

  -- a piece holds only what passes
  pub piece-passes : (s a : ℕ) → s ≤ a → a < s + len p s cap → p a ≡ true
  piece-passes s a g l = subst (λ (k : ℕ). p k ≡ true) (omega arith) (len-in p cap s (a - s) (omega arith))

  -- it holds one at least
  pub piece-some : 0 < cap → (s : ℕ) → starts p cap s ≡ true → 0 < len p s cap
  piece-some z s h =
      len-ge p cap s 1 z (λ i l. subst (λ (k : ℕ). p k ≡ true) (omega arith) (starts-off s h).0)

  -- pieces are disjoint, and stand in the order of their starts
  pub pieces-apart : (s u : ℕ) → starts p cap s ≡ true → starts p cap u ≡ true → s < u → s + len p s cap ≤ u
  pieces-apart s u h k l =
      decide (ltb u (s + len p s cap))
      (λ d. absurd (omega (arith, (starts-off u k).1, piece-place s u h (omega arith) (ltb-true _ _ d))))
      (λ d. ltb-false _ _ d)

  -- up to a number in the piece at s, as many pieces start as up to s
  pub rank-in : (s a : ℕ) → starts p cap s ≡ true → s ≤ a → a < s + len p s cap
      → count (starts p cap) (a + 1) ≡ suc (count (starts p cap) s)
  rank-in s a h g l =
      let k : suc s + (a - s) ≡ a + 1 = omega arith in
      sym (ap (count (starts p cap)) k)
      ∙ count-skip (starts p cap) (suc s) (a - s)
      (λ i u v. starts-inside i (λ e. omega (arith, piece-place s i h (omega arith) (omega arith))))
      ∙ count_yes (starts p cap) s h

  -- so the count tells the piece that a number lies in
  pub rank-some : 0 < cap → (a : ℕ) → p a ≡ true → 0 < count (starts p cap) (a + 1)
  rank-some z a t = let i = in-piece z a t in omega (arith, rank-in (home p cap a) a i.0 i.1 i.2)

  pub rank-home : 0 < cap → (s a : ℕ) → starts p cap s ≡ true → p a ≡ true
      → count (starts p cap) (a + 1) ≡ suc (count (starts p cap) s)
      → (s ≤ a) × (a < s + len p s cap)
  rank-home z s a h t e =
      let i = in-piece z a t in
      let q : home p cap a ≡ s = rank-only (starts p cap) (home p cap a) s i.0 h
      (omega (arith, rank-in (home p cap a) a i.0 i.1 i.2)) in
      (subst (λ (u : ℕ). u ≤ a) q i.1, subst (λ (u : ℕ). a < u + len p u cap) q i.2)

  -- where a run starts, a piece does
  pub run-starts : (b : ℕ) → p b ≡ false → p (suc b) ≡ true → starts p cap (suc b) ≡ true
  run-starts b f t = starts-at (suc b) t (off-false b f)

  -- and elsewhere only where a whole piece of cap ends
  pub piece_cut : 0 < cap → (b : ℕ) → starts p cap (suc b) ≡ true → p b ≡ true
      → (starts p cap (home p cap b) ≡ true) × (len p (home p cap b) cap ≡ cap) × (home p cap b + cap ≡ suc b)
  piece_cut z b h t =
      let o : off p cap (suc b) ≡ 0 = (starts-off (suc b) h).1 in
      let w : suc (off p cap b) ≡ cap = off_next b (λ s e. absurd (true-false (sym t ∙ s))) (λ s w e. w)
      (λ s n e. absurd (omega arith)) in
      (home-starts b t, omega (arith, home-in z b t, len-le p (home p cap b) cap), omega (arith, off-le b))

  -- the number after a piece starts the next one, if it passes
  piece-end : 0 < cap → (s : ℕ) → starts p cap s ≡ true → p (s + len p s cap) ≡ true
      → starts p cap (s + len p s cap) ≡ true
  piece-end z s h t = ⊎_elim full short (eq-or-lt_of_le (len-le p s cap))
    where
      short : len p s cap < cap → starts p cap (s + len p s cap) ≡ true
      short l = absurd (true-false (sym t ∙ len_out p cap s l))

      full : len p s cap ≡ cap → starts p cap (s + len p s cap) ≡ true
      full e =
          let j : ℕ = cap - 1 in
          let l : j < len p s cap = omega arith in
          let o : off p cap (s + j) ≡ j = piece-off s h j l in
          let w : off p cap (suc (s + j)) ≡ 0 = off-wrap (s + j) (len-in p cap s j l) (omega arith) in
          let k : suc (s + j) ≡ s + len p s cap = omega arith in
          starts-at (s + len p s cap) t (sym (ap (off p cap) k) ∙ w)

-- ---- the order of the pieces, where nothing passes from n on

pub passes-below : (p : ℕ → Bool) (n : ℕ) → ((a : ℕ) → n ≤ a → p a ≡ false) → (a : ℕ) → p a ≡ true → a < n
passes-below p n past a t =
    decide (ltb a n) (λ d. ltb-true a n d) (λ d. absurd (true-false (sym t ∙ past a (ltb-false a n d))))

module _ (p : ℕ → Bool) (cap n : ℕ) (past : (a : ℕ) → n ≤ a → p a ≡ false) where
  pub starts-below : (s : ℕ) → starts p cap s ≡ true → s < n
  starts-below s h = passes-below p n past s (starts-off p cap s h).0

  -- a piece ends by n
  pub piece-fits : (s : ℕ) → starts p cap s ≡ true → s + len p s cap ≤ n
  piece-fits s h =
      decide (ltb 0 (len p s cap))
      (λ d. let l = ltb-true 0 (len p s cap) d in
      omega (
        arith,
        passes-below p n past (s + (len p s cap - 1)) (len-in p cap s (len p s cap - 1) (omega arith)),
      ))
      (λ d. omega (arith, ltb-false 0 (len p s cap) d, starts-below s h))

  -- what is found from e on starts a piece, if e does where it passes
  next-starts : (e : ℕ) → e ≤ n → (p e ≡ true → starts p cap e ≡ true) → next p e (n - e) < n
      → starts p cap (next p e (n - e)) ≡ true
  next-starts e g h l =
      let t : p (next p e (n - e)) ≡ true = next-pass p (n - e) e (omega arith) in
      ⊎_elim
      (λ q. subst (λ (k : ℕ). starts p cap k ≡ true) q (h (subst (λ (k : ℕ). p k ≡ true) (sym q) t)))
      (λ q. go (next p e (n - e)) refl q t)
      (eq-or-lt_of_le (next-ge p (n - e) e))
    where
      go : (b : ℕ) → next p e (n - e) ≡ b → e < b → p b ≡ true → starts p cap b ≡ true
      go zero d q t = absurd (omega arith)
      go (suc b) d q t =
          starts-at p cap (suc b) t (off-false p cap b (next-skip p (n - e) e b (omega arith) (omega arith)))

  next-counts : (e : ℕ) → count (starts p cap) (next p e (n - e)) ≡ count (starts p cap) e
  next-counts e =
      let g = next-ge p (n - e) e in
      let k : e + (next p e (n - e) - e) ≡ next p e (n - e) = omega arith in
      sym (ap (count (starts p cap)) k)
      ∙ count-skip (starts p cap) e (next p e (n - e) - e)
      (λ i u v. starts-fail p cap i (next-skip p (n - e) e i u (omega arith)))

  -- the first piece starts at the lowest that passes, and has rank 0
  pub first-starts : next p 0 n < n → starts p cap (next p 0 n) ≡ true
  first-starts =
      let e : n - 0 ≡ n = omega arith in
      subst (λ (k : ℕ). next p 0 k < n → starts p cap (next p 0 k) ≡ true) e
      (next-starts 0 (omega arith) (λ t. starts-at p cap 0 t (off_zero p cap)))

  pub first-rank : count (starts p cap) (next p 0 n) ≡ 0
  first-rank =
      let e : n - 0 ≡ n = omega arith in
      subst (λ (k : ℕ). count (starts p cap) (next p 0 k) ≡ 0) e (next-counts 0 ∙ count-zero (starts p cap))

  module _ (z : 0 < cap) where
    -- the piece after the one at s has the next rank
    pub follow-starts : (s : ℕ) → starts p cap s ≡ true → follow p cap n s < n
        → starts p cap (follow p cap n s) ≡ true
    follow-starts s h l = next-starts (s + len p s cap) (piece-fits s h) (piece-end p cap z s h) l

    pub follow-rank : (s : ℕ) → starts p cap s ≡ true
        → count (starts p cap) (follow p cap n s) ≡ suc (count (starts p cap) s)
    follow-rank s h =
        let l = piece-some p cap z s h in
        let k : s + len p s cap - 1 + 1 ≡ s + len p s cap = omega arith in
        next-counts (s + len p s cap)
        ∙ sym (ap (count (starts p cap)) k)
        ∙ rank-in p cap s (s + len p s cap - 1) h (omega arith) (omega arith)

-- ---- with no cap reached the pieces are the maximal runs: what stands before and after fails

module _ (p : ℕ → Bool) (cap n : ℕ) (past : (a : ℕ) → n ≤ a → p a ≡ false) (wide : n ≤ cap) where
  pub run-before : (b : ℕ) → starts p cap (suc b) ≡ true → p b ≡ false
  run-before b h =
      let s = starts-off p cap (suc b) h in
      let l = passes-below p n past (suc b) s.0 in
      decide (p b)
      (λ t. absurd (omega (arith, s.1, off-more p cap b t (λ e. omega (arith, off-le p cap b)))))
      (λ t. t)

  pub run-after : (s : ℕ) → starts p cap s ≡ true → p (s + len p s cap) ≡ false
  run-after s h =
      ⊎_elim
      (λ e. past (s + len p s cap) (omega arith))
      (λ l. len_out p cap s l)
      (eq-or-lt_of_le (len-le p s cap))
