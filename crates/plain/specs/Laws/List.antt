-- Laws of the walk: it numbers what starts, and its place is that of the one that is due.
use Rattle.std.proofs.lemmas.Bool.{eqb-false}
use Rattle.std.specs.Prelude.{Bool, true, false, ◌≡◌, eqb, ltb}
use Rattle.std.proofs.Math.Path.{refl, sym, ap}
use Rattle.std.proofs.Common.{◌∙◌, arith, ℕ, zero, suc, ◌+◌, ◌-◌, ◌≤◌, ◌<◌, eq-eqb, ne_eqb, eqb-true, ltb-true, ltb-false}
use Rattle.std.proofs.Math.Numerals.{add-one}
use Rattle.basis.specs.Choice.{pick}
use Rattle.basis.specs.Laws.Choice.{decide, true-false}
use Rattle.plain.specs.List.{met_of, walk_at}
use Rattle.plain.specs.declared.list.Walk.{Walk}
use Rattle.runs.specs.Laws.Runs.{count-zero, count_yes, count_no, count-le, len-le, len-in, len-ge}
use Rattle.runs.specs.Laws.Pieces.{off_zero, off-false, off-wrap, off-more, off-below, starts-at, starts-inside, starts-fail}
use Rattle.runs.specs.Runs.{count, off, starts, select, len}

-- how many more places a packet may take of which so many are passed
abbrev left_of : ℕ → ℕ → ℕ
left_of most o = pick (eqb o 0) 0 (most - o)

module _ (p : ℕ → Bool) (most : ℕ) (n : ℕ) where
  left-next : p n ≡ true → left_of most (off p most (suc n)) ≡ most - suc (off p most n)
  left-next t =
      decide (eqb (suc (off p most n)) most)
      (λ d. let e = eqb-true (suc (off p most n)) most d in
      ap (left_of most) (off-wrap p most n t e) ∙ omega arith)
      (λ d. ap (left_of most) (off-more p most n t (eqb-false _ _ d))
      ∙ rw (ne_eqb (suc (off p most n)) 0 (λ x. omega arith)))

  select_yes : (q : ℕ → Bool) (k : ℕ) → q n ≡ true
      → select q k (suc n) ≡ pick (eqb (count q n) k) n (select q k n)
  unfolding select
  select_yes q k t = rw t

  select_no : (q : ℕ → Bool) (k : ℕ) → q n ≡ false → select q k (suc n) ≡ select q k n
  unfolding select
  select_no q k t = rw t

module _ (p : ℕ → Bool) (most : ℕ) (some : 0 < most) (b due k : ℕ) where
  -- after n places: so many have started, what is open is open, and the one that is due, if it is numbered
  -- b + k, stands where the k-th start does
  record Walked (n : ℕ) (w : Walk) : Type 0 where
    number_is : w.number ≡ b + count (starts p most) n
    left_is : w.left ≡ left_of most (off p most n)
    place_is : due ≡ b + k → w.place ≡ select (starts p most) k n

  -- one place more: it starts a packet, goes into the open one, or closes it
  module _ (n : ℕ) (w : Walk) (i : Walked n w) where
    begins : p n ≡ true → off p most n ≡ 0 → Walked (suc n) (met_of most due n w (p n))
    unfolding met_of
    begins t z =
        let e = eq-eqb w.left 0 (i.left_is ∙ ap (left_of most) z) in
        let y = starts-at p most n t z in
        record {
          number_is = rw (t, e) (omega (arith, i.number_is, count_yes (starts p most) n y));
          left_is = rw (t, e) (omega (arith, left-next p most n t));
          place_is = λ u. rw (t, e, select_yes p most n (starts p most) k y)
              (decide (eqb (count (starts p most) n) k)
              (λ d. rw (d, eq-eqb w.number due (omega (arith, i.number_is, eqb-true _ k d))))
              (λ d. rw (d, ne_eqb w.number due (λ q. eqb-false _ k d (omega (arith, i.number_is))))
              (i.place_is u)));
        }

    goes-on : p n ≡ true → (off p most n ≡ 0 → ⊥) → Walked (suc n) (met_of most due n w (p n))
    unfolding met_of
    goes-on t z =
        let o = off-below p most some n in
        let l : w.left ≡ most - off p most n = i.left_is ∙ rw (ne_eqb (off p most n) 0 z) in
        let e = ne_eqb w.left 0 (λ x. omega arith) in
        let y = starts-inside p most n z in
        record {
          number_is = rw (t, e) (omega (arith, i.number_is, count_no (starts p most) n y));
          left_is = rw (t, e) (omega (arith, l, left-next p most n t));
          place_is = λ u. rw (t, e, select_no p most n (starts p most) k y) (i.place_is u);
        }

    closes : p n ≡ false → Walked (suc n) (met_of most due n w (p n))
    unfolding met_of
    closes t =
        let y = starts-fail p most n t in
        record {
          number_is = rw t (omega (arith, i.number_is, count_no (starts p most) n y));
          left_is = rw (t, off-false p most n t);
          place_is = λ u. rw (t, select_no p most n (starts p most) k y) (i.place_is u);
        }

  walked : (n : ℕ) → Walked n (walk_at p most b due n)
  unfolding walk_at select
  walked zero =
      record {
        number_is = omega (arith, count-zero (starts p most));
        left_is = sym (ap (left_of most) (off_zero p most));
        place_is = λ u. refl;
      }
  walked (suc n) =
      let i = walked n in
      decide (p n)
      (λ t. decide (eqb (off p most n) 0)
      (λ z. begins n _ i t (eqb-true _ _ z)) (λ z. goes-on n _ i t (eqb-false _ _ z)))
      (λ t. closes n _ i t)

-- ---- what the code walks by

module _ (p : ℕ → Bool) (most b due : ℕ) where
  -- before the first place, and one place more
  pub walk_none : record { number = b; left = 0; place = 0 } ≡ walk_at p most b due 0
  unfolding walk_at
  walk_none = refl

  pub walk-again : (n : ℕ) {w x : Walk} {y : Bool} → w ≡ walk_at p most b due n → y ≡ p n
      → x ≡ met_of most due n w y → x ≡ walk_at p most b due (n + 1)
  unfolding walk_at
  walk-again n u v e = rw add-one (e ∙ rw (u, v))

  module _ (some : 0 < most) (n : ℕ) {w : Walk} (e : w ≡ walk_at p most b due n) where
    -- it numbers what starts
    pub walk-number : w.number ≡ b + count (starts p most) n
    walk-number = ap (λ (x : Walk). x.number) e ∙ (walked p most some b due 0 n).number_is

    -- no more than there are places
    pub walk-most : w.number ≤ b + n
    walk-most = omega (arith, walk-number, count-le (starts p most) n)

    -- and its place is that of the start which is due
    pub walk-place : (k : ℕ) → due ≡ b + k → w.place ≡ select (starts p most) k n
    walk-place k u = ap (λ (x : Walk). x.place) e ∙ (walked p most some b due k n).place_is u

-- ---- the count of what passes

pub count-again : (p : ℕ → Bool) (n : ℕ) {k j : ℕ} {y : Bool} → k ≡ count p n → y ≡ p n
    → j ≡ pick y (k + 1) k → j ≡ count p (n + 1)
unfolding count
count-again p n u v e = rw add-one (e ∙ rw (u, v, add-one))

-- ---- the row that a piece is

-- n that pass, and then one that does not, or as many as may: the row is n long
pub row-only : (p : ℕ → Bool) (a f n : ℕ) → n ≤ f → ((i : ℕ) → i < n → p (a + i) ≡ true)
    → (n < f → p (a + n) ≡ false) → len p a f ≡ n
row-only p a f n l all ends =
    decide (ltb n (len p a f))
    (λ d. let h = ltb-true n (len p a f) d in
    absurd (true-false (sym (len-in p f a n h) ∙ ends (omega (arith, len-le p a f)))))
    (λ d. omega (arith, ltb-false n (len p a f) d, len-ge p f a n l all))

-- one more that passes
pub row_more : (p : ℕ → Bool) (a n : ℕ) → ((i : ℕ) → i < n → p (a + i) ≡ true) → p (a + n) ≡ true
    → (i : ℕ) → i < n + 1 → p (a + i) ≡ true
row_more p a n all t i l =
    decide (eqb i n)
    (λ d. rw (eqb-true i n d) t)
    (λ d. all i (omega (arith, eqb-false i n d)))
