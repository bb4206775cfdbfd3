-- The records that the writer gives of a file: which comes next, how many there are, and where no 04 comes.
use Rattle.std.proofs.lemmas.Bool.{lt-leb, eqb-false}
use Rattle.std.specs.Prelude.{◌≡◌, ℕ, zero, suc, ◌+◌, ◌-◌, ◌/◌, ◌%◌, ◌<◌, ◌≤◌, true, List, [], ◌∷◌, length, ◌==◌, ◌≢◌, nat_le, nat_lt}
use Rattle.std.proofs.Math.Path.{refl}
use Rattle.std.proofs.Common.{sym, ap, ◌∙◌, arith, eq-eqb, ne_eqb, lt-ltb, le-ltb, le-leb, eqb-true, ltb-true, ltb-false, leb-true, leb-false}
use Rattle.basis.specs.Choice.{pick}
use Rattle.basis.specs.Laws.Choice.{decide, true-false}
use Rattle.runs.specs.Map.{named}
use Rattle.runs.specs.Laws.Runs.{next-ge, next-pass, len-le, len-ge, len-in, len_out}
use Rattle.image.specs.Writer.{text, step, upper_half, lower_half, upper_text, record_part, record_from, record_at, lowest, step_from}
use Rattle.image.specs.RoundTrip.{unended, lines, address_after, records_most, plain_from, plain_lines}

-- a data record is cut at a multiple of 16, so that its bytes have one upper half
pub one-half : (map : List ℕ) (k : ℕ) → lower_half k + record_part map k ≤ 65536
one-half map k = omega (arith, len-le (named map) k (16 - k % 16))

module _ (size : ℕ) (image map : List ℕ) where
  -- the lowest named place from a on, its upper half, and the end of its record
  abbrev low : ℕ → ℕ
  low a = lowest size map a

  abbrev half : ℕ → ℕ
  half a = upper_half (low a)

  abbrev behind : ℕ → ℕ
  behind a = low a + record_part map (low a)

  -- ---- the run at the lowest named place from a on

  module _ (a : ℕ) (h : low a < size) where
    low-named : named map (low a) ≡ true
    low-named = next-pass (named map) (size - a) a (omega arith)

    pub run-some : 0 < record_part map (low a)
    run-some = len-ge (named map) (16 - low a % 16) (low a) 1 (omega arith) (λ i l. first_one i l)
      where
        first_one : (i : ℕ) → i < 1 → named map (low a + i) ≡ true
        first_one i l = let e : low a + i ≡ low a = omega arith in rw e low-named

    pub run-few : record_part map (low a) ≤ 16 - low a % 16
    run-few = len-le (named map) (low a) (16 - low a % 16)

    pub run-named : (j : ℕ) → low a ≤ j → j < behind a → named map j ≡ true
    run-named j l m =
        let e : low a + (j - low a) ≡ j = omega arith in
        rw e at (len-in (named map) (16 - low a % 16) (low a) (j - low a) (omega arith))

    -- its record ends at a multiple of 16, or before a byte that is not named
    run-cut : named map (behind a) ≡ true → behind a % 16 ≡ 0
    run-cut n =
        decide (nat_lt (record_part map (low a)) (16 - low a % 16))
        (λ e. absurd (true-false (sym n ∙ len_out (named map) (16 - low a % 16) (low a) (ltb-true _ _ e))))
        (λ e. omega (arith, run-few, ltb-false (record_part map (low a)) (16 - low a % 16) e))

  -- ---- the writer's steps

  module _ (a u : ℕ) (l : a ≤ size) where
    pub step_end : size ≤ low a → step_from size image map a u ≡ step (text 0 1 []) (size + 1) u
    unfolding step_from
    step_end h = simp (le-ltb _ _ l, le-leb _ _ h)

    module _ (h : low a < size) where
      step-at : step_from size image map a u ≡ record_at image map a u (low a)
      unfolding step_from
      step-at = simp (le-ltb _ _ l, lt-leb _ _ h)

      pub step_run : half a ≡ u → step_from size image map a u ≡ record_from image map u (low a)
      step_run e = step-at ∙ simp (eq-eqb (half a) u e)

      pub step-upper : (half a ≢ u) → step_from size image map a u ≡ step (upper_text (half a)) a (half a)
      step-upper n = step-at ∙ simp (ne_eqb (half a) u n)

  beyond : (a u : ℕ) → size < a → step_from size image map a u ≡ step [] a u
  unfolding step_from
  beyond a u h = simp (lt-ltb _ _ h)

  -- ---- how many there are

  -- how many may still come before the end record
  abbrev pub left : ℕ → ℕ → ℕ
  left a u = (size - a) / 2 + (upper_half (size - 1) - u)

  -- where the writer comes to from 0 and 0: on the board, no run cut but at a multiple of 16,
  -- no upper half past that of the next place
  pub record Reached (a u : ℕ) : Type 0 where
    pub within : a ≤ size
    pub cut : named map a ≡ true → a % 16 ≡ 0
    pub upmost : u ≤ half a

  pub reached-start : Reached 0 0
  reached-start = record { within = omega arith; cut = λ e. refl; upmost = omega arith }

  module _ (whole : size % 16 ≡ 0) where
    module _ (a u : ℕ) (r : Reached a u) (h : low a < size) where
      run-reached : half a ≡ u → Reached (behind a) u
      run-reached e =
          record {
            within = omega (arith, run-few a h);
            cut = run-cut a h;
            upmost = omega (arith, e, next-ge (named map) (size - behind a) (behind a));
          }

      -- a record ends two places on or more, or it starts at a, which is then even as the board's size is
      run-left : left (behind a) u < left a u
      run-left =
          decide (nat_lt a (low a))
          (λ e. omega (arith, ltb-true a (low a) e, run-some a h, run-few a h))
          (λ e. let s : low a ≡ a = same (ltb-false a (low a) e) in
          omega (arith, s, run-some a h, run-few a h, r.cut (rw s at (low-named a h))))
        where
          same : low a ≤ a → low a ≡ a
          same l = omega (arith, next-ge (named map) (size - a) a)

      upper-reached : Reached a (half a)
      upper-reached = record { within = r.within; cut = r.cut; upmost = omega arith }

      upper-left : (half a ≢ u) → left a (half a) < left a u
      upper-left n = omega (arith, r.upmost)

    -- what comes next: the end record; a data record; a 04 record. After the last two fewer may come
    pub coming : {R : Type 0} (a u : ℕ) → Reached a u
        → (size ≤ low a → R)
        → ((h : low a < size) → half a ≡ u → Reached (behind a) u → left (behind a) u < left a u → R)
        → ((h : low a < size) → (half a ≢ u) → Reached a (half a) → left a (half a) < left a u → R)
        → R
    coming a u r end run upper =
        decide (nat_le size (low a))
        (λ e. end (leb-true size (low a) e))
        (λ e. let h : low a < size = leb-false size (low a) e in
        decide (half a == u)
        (λ t. let s = eqb-true (half a) u t in run h s (run-reached a u r h s) (run-left a u r h))
        (λ t. let n = eqb-false (half a) u t in upper h n (upper-reached a u r h) (upper-left a u r h n)))

    address-past : (k u : ℕ) → address_after size image map (size + 1) u k ≡ size + 1
    unfolding address_after
    address-past zero u = refl
    address-past (suc k) u = rw step_past (address-past k u)
      where
        step_past : step_from size image map (size + 1) u ≡ step [] (size + 1) u
        step_past = beyond (size + 1) u (omega arith)

    writer-ends : (k a u : ℕ) → Reached a u → left a u < k → address_after size image map a u k ≡ size + 1
    unfolding address_after
    writer-ends zero a u r m = absurd (omega arith)
    writer-ends (suc k) a u r m =
        coming a u r
        (λ h. rw (step_end a u r.within h) (address-past k u))
        (λ h e s l. rw (step_run a u r.within h e) (writer-ends k (behind a) u s (omega arith)))
        (λ h n s l. rw (step-upper a u r.within h n) (writer-ends k a (half a) s (omega arith)))

    pub lines-past : (k u : ℕ) → lines size image map (size + 1) u k ≡ []
    unfolding lines
    lines-past zero u = refl
    lines-past (suc k) u = let h : size < size + 1 = omega arith in rw (lt-ltb size (size + 1) h)

    lines-few : (k a u : ℕ) → Reached a u → length (lines size image map a u k) ≤ left a u + 1
    unfolding lines
    lines-few zero a u r = omega arith
    lines-few (suc k) a u r =
        coming a u r
        (λ h. rw (le-ltb size a r.within, step_end a u r.within h, lines-past k u) (omega arith))
        (λ h e s l. rw (le-ltb size a r.within, step_run a u r.within h e)
        (omega (arith, lines-few k (behind a) u s)))
        (λ h n s l. rw (le-ltb size a r.within, step-upper a u r.within h n)
        (omega (arith, lines-few k a (half a) s)))

-- The writer has given its end record after at most so many records.
pub end-comes : (size : ℕ) (image map : List ℕ) → size % 16 ≡ 0
    → address_after size image map 0 0 (records_most size) ≡ size + 1
end-comes size image map whole =
    writer-ends size image map whole (records_most size) 0 0 (reached-start size image map) (omega arith)

-- However often it is asked, a file has no more.
pub records-few : (size : ℕ) (image map : List ℕ) → size % 16 ≡ 0
    → (k : ℕ)
    → length (lines size image map 0 0 k) ≤ records_most size
records-few size image map whole k =
    omega (arith, lines-few size image map whole k 0 0 (reached-start size image map))

-- ---- a board of at most 64 KiB

module _ (size : ℕ) (image map : List ℕ) (short : size ≤ 65536) where
  -- From upper half 0 each step is that of a writer that knows none.
  pub short-step : (a : ℕ) → step_from size image map a 0 ≡ plain_from size image map a
  unfolding step_from
  short-step a =
      let k = lowest size map a in
      decide (nat_lt size a)
      (λ e. rw e)
      (λ e. decide (nat_le size k)
      (λ t. rw (e, t))
      (λ t. let h = leb-false size k t in
      let upper : upper_half k ≡ 0 = omega arith in
      let lower : lower_half k ≡ k = omega arith in
      rw (e, t, upper, lower)))

  plain-upper : (a : ℕ) → (plain_from size image map a).upper ≡ 0
  plain-upper a =
      decide (nat_lt size a) (λ e. rw e)
      (λ e. decide (nat_le size (lowest size map a)) (λ t. rw (e, t)) (λ t. rw (e, t)))

  -- So the file is written with no 04 record.
  pub short-lines : (k a : ℕ) → lines size image map a 0 k ≡ plain_lines size image map a k
  unfolding lines plain_lines
  short-lines zero a = refl
  short-lines (suc k) a =
      let s = plain_from size image map a in
      rw (short-step a, plain-upper a)
      (ap (λ (t : List (List ℕ)). pick (nat_lt size a) [] (unended s.text ∷ t)) (short-lines k s.next))
