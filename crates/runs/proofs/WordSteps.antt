-- A word of k places taken at once: what passed, what started and what is open after it.
use Rattle.std.proofs.lemmas.Bool.{eqb-false}
use Rattle.std.proofs.lemmas.Nat.{and_mask, trailing_le}
use Rattle.std.proofs.Common.{ℕ, zero, suc, ◌+◌, ◌-◌, ◌*◌, ◌/◌, ◌%◌, ◌^◌, ◌≤◌, ◌<◌, min, pow-suc, arith, ◌≡◌, refl, sym, ap, ap₂, ◌∙◌, Bool, true, false, bit_and, eqb, ltb, eq-eqb, ne_eqb, eqb-true, lt-ltb, le-ltb, ltb-true, ltb-false}
use native.Mathlib.Nat.{zero-min}
use lib.Bits.{and_step}
use lib.Count.{ones, ones_in, ones_step, ones-ones, count_leading_zeros, leading_of_zero, leading_unique, count_trailing_zeros, trailing_of_zero}
use Rattle.basis.specs.Choice.{pick}
use Rattle.basis.specs.Laws.Choice.{decide}
use Rattle.runs.specs.declared.tally.Tally.{Tally}
use Rattle.runs.specs.Tally.{took_of, took_bits, joins_of, cut_of}

-- ---- one place

module _ (cap : ℕ) (t : Tally) {b : Bool} where
  took-no : b ≡ false
      → ((took_of cap t b).passed ≡ t.passed) × ((took_of cap t b).pieces ≡ t.pieces)
      × ((took_of cap t b).off ≡ 0)
  unfolding took_of
  took-no d = rw d (refl, refl, refl)

  took-passed : b ≡ true → (took_of cap t b).passed ≡ t.passed + 1
  unfolding took_of
  took-passed d = rw d

  took-start : b ≡ true → t.off ≡ 0 → (took_of cap t b).pieces ≡ t.pieces + 1
  unfolding took_of
  took-start d e = rw (d, eq-eqb _ _ e)

  took-inside : b ≡ true → (t.off ≡ 0 → ⊥) → (took_of cap t b).pieces ≡ t.pieces
  unfolding took_of
  took-inside d e = rw (d, ne_eqb _ _ e)

  took-wrap : b ≡ true → t.off + 1 ≡ cap → (took_of cap t b).off ≡ 0
  unfolding took_of
  took-wrap d e = rw (d, eq-eqb _ _ e)

  took_more : b ≡ true → (t.off + 1 ≡ cap → ⊥) → (took_of cap t b).off ≡ t.off + 1
  unfolding took_of
  took_more d e = rw (d, ne_eqb _ _ e)

took-below : (cap : ℕ) (t : Tally) (b : Bool) → t.off < cap → (took_of cap t b).off < cap
took-below cap t b h =
    decide b
    (λ d. decide (eqb (t.off + 1) cap)
    (λ e. omega (arith, took-wrap cap t d (eqb-true _ _ e)))
    (λ e. omega (arith, took_more cap t d (eqb-false _ _ e), eqb-false (t.off + 1) cap e)))
    (λ d. omega (arith, (took-no cap t d).2))

-- ---- halves of a word

halved : (k w : ℕ) → w < 2 ^ suc k → w / 2 < 2 ^ k
halved k w h = omega (arith, pow-suc 2 k)

ones-zero : ones 0 ≡ 0
unfolding ones ones_in
ones-zero = refl

none : (w : ℕ) → w < 2 ^ 0 → w ≡ 0
none w h = omega arith

-- the bits that are not set, of k
unfoldable pub gaps : ℕ → ℕ → ℕ
gaps k w = 2 ^ k - 1 - w

gaps-none : (w : ℕ) → gaps 0 w ≡ 0
unfolding gaps
gaps-none w = omega arith

gaps-half : (k w : ℕ) → w < 2 ^ suc k → gaps (suc k) w / 2 ≡ gaps k (w / 2)
unfolding gaps
gaps-half k w h = omega (arith, pow-suc 2 k)

gaps-low : (k w : ℕ) → w < 2 ^ suc k → gaps (suc k) w % 2 ≡ 1 - w % 2
unfolding gaps
gaps-low k w h = omega (arith, pow-suc 2 k)

-- the row at the bottom of a word
unfoldable pub row : ℕ → ℕ → ℕ
row k w = count_trailing_zeros k (gaps k w)

row-odd : (k w : ℕ) → w < 2 ^ suc k → w % 2 ≡ 1 → row (suc k) w ≡ suc (row k (w / 2))
unfolding row count_trailing_zeros
row-odd k w h o =
    let e : gaps (suc k) w % 2 ≡ 0 = omega (arith, gaps-low k w h) in
    rw (e, gaps-half k w h)

row-even : (k w : ℕ) → w < 2 ^ suc k → w % 2 ≡ 0 → row (suc k) w ≡ 0
unfolding row count_trailing_zeros
row-even k w h o =
    let e : gaps (suc k) w % 2 ≡ 1 = omega (arith, gaps-low k w h) in
    rw e

row-le : (k w : ℕ) → row k w ≤ k
unfolding row
row-le k w = trailing_le k (gaps k w)

-- it is empty where the lowest bit is not set
row-some : (k w : ℕ) → w < 2 ^ k → w % 2 ≡ 1 → 0 < row k w
row-some zero w h o = absurd (omega (arith, none w h))
row-some (suc k) w h o = omega (arith, row-odd k w h o)

row-none : (k w : ℕ) → w < 2 ^ k → w % 2 ≡ 0 → row k w ≡ 0
row-none zero w h o = omega (arith, row-le zero w)
row-none (suc k) w h o = row-even k w h o

row_zero : (k w : ℕ) → w < 2 ^ k → row k w ≡ 0 → w % 2 ≡ 0
row_zero k w h e =
    decide (eqb (w % 2) 1)
    (λ d. absurd (omega (arith, row-some k w h (eqb-true _ _ d))))
    (λ d. omega (arith, eqb-false (w % 2) 1 d))

row_one : (k w : ℕ) → w < 2 ^ k → (row k w ≡ 0 → ⊥) → w % 2 ≡ 1
row_one k w h n =
    decide (eqb (w % 2) 1)
    (λ d. eqb-true _ _ d)
    (λ d. absurd (n (row-none k w h (omega (arith, eqb-false (w % 2) 1 d)))))

-- ---- what passed

word-passed : (cap k w : ℕ) (t : Tally) → w < 2 ^ k → (took_bits cap t w k).passed ≡ t.passed + ones w
unfolding took_bits
word-passed cap zero w t h = rw (none w h, ones-zero) (omega arith)
word-passed cap (suc k) w t h =
    let ih = word-passed cap k (w / 2) (took_of cap t (eqb (w % 2) 1)) (halved k w h) in
    decide (eqb (w % 2) 1)
    (λ d. omega (arith, ih, took-passed cap t d, ones_step w, eqb-true (w % 2) 1 d))
    (λ d. omega (arith, ih, (took-no cap t d).0, ones_step w, eqb-false (w % 2) 1 d))

-- ---- what started

-- the places whose next place passes too
unfoldable pub inner : ℕ → ℕ
inner w = ones (bit_and w (w / 2))

inner-step : (w d : ℕ) → min (w % 2) (w / 2 % 2) ≡ d → d < 2 → inner w ≡ d + inner (w / 2)
unfolding inner
inner-step w d e l =
    let x : bit_and w (w / 2) ≡ bit_and (w / 2) (w / 2 / 2) * 2 + d = rw e at (and_step w (w / 2)) in
    let lo : bit_and w (w / 2) % 2 ≡ d = omega arith in
    let hi : bit_and w (w / 2) / 2 ≡ bit_and (w / 2) (w / 2 / 2) = omega arith in
    ones_step (bit_and w (w / 2)) ∙ ap₂ (λ (a b : ℕ). a + ones b) lo hi

inner-zero : inner 0 ≡ 0
unfolding inner
inner-zero = ones-zero

inner-even : (w : ℕ) → w % 2 ≡ 0 → inner w ≡ inner (w / 2)
inner-even w o = inner-step w 0 (rw (o, zero-min)) (omega arith) ∙ omega arith

inner-odd : (w : ℕ) → w % 2 ≡ 1 → inner w ≡ w / 2 % 2 + inner (w / 2)
inner-odd w o =
    decide (eqb (w / 2 % 2) 1)
    (λ d. let e : w / 2 % 2 ≡ 1 = eqb-true _ _ d in rw e (inner-step w 1 (rw (o, e)) (omega arith)))
    (λ d. let e : w / 2 % 2 ≡ 0 = omega (arith, eqb-false (w / 2 % 2) 1 d) in
    rw e (inner-step w 0 (rw (o, e)) (omega arith)))

-- ---- whether the open piece takes the row in

module _ (o r cap : ℕ) where
  pub joins-closed : o ≡ 0 → joins_of o r cap ≡ 0
  unfolding joins_of
  joins-closed e = rw e

  pub joins-none : r ≡ 0 → joins_of o r cap ≡ 0
  unfolding joins_of
  joins-none e = rw e (decide (eqb o 0) (λ d. rw d) (λ d. rw d))

  pub joins-cut : cap < o + r → joins_of o r cap ≡ 0
  unfolding joins_of
  joins-cut l =
      rw (lt-ltb cap (o + r) l)
      (decide (eqb o 0) (λ d. rw d) (λ d. rw d (decide (eqb r 0) (λ f. rw f) (λ f. rw f))))

  pub joins-yes : (o ≡ 0 → ⊥) → (r ≡ 0 → ⊥) → o + r ≤ cap → joins_of o r cap ≡ 1
  unfolding joins_of
  joins-yes f g l = rw (ne_eqb o 0 f, ne_eqb r 0 g, le-ltb cap (o + r) l)

-- a place that passes, with a row of r behind it: o is open before the place and u after it, P pieces have
-- started before it and Q after it,
-- and v tells whether the row is none
join_more : (cap o u r v P Q : ℕ) → o < cap → r < cap → (o ≡ 0 → Q ≡ P + 1) → ((o ≡ 0 → ⊥) → Q ≡ P)
    → (o + 1 ≡ cap → u ≡ 0) → ((o + 1 ≡ cap → ⊥) → u ≡ o + 1) → (r ≡ 0 → v ≡ 0) → ((r ≡ 0 → ⊥) → v ≡ 1)
    → v + joins_of o (suc r) cap + Q ≡ joins_of u r cap + P + 1
join_more cap o u r v P Q ho hr start inside wrap more none some =
    decide (eqb r 0)
    (λ d. let r0 = eqb-true r 0 d in decide (eqb o 0)
    (λ e. let o0 = eqb-true o 0 e in
    omega (arith, joins-none u r cap r0, joins-closed o (suc r) cap o0, start o0, none r0))
    (λ e. let o1 = eqb-false o 0 e in
    omega (
      arith,
      joins-none u r cap r0,
      joins-yes o (suc r) cap o1 (λ q. omega arith) (omega arith),
      inside o1,
      none r0,
    )))
    (λ d. let r1 = eqb-false r 0 d in decide (eqb o 0)
    (λ e. let o0 = eqb-true o 0 e in
    let u1 : u ≡ 1 = omega (arith, more (λ q. omega arith)) in
    omega (
      arith,
      joins-closed o (suc r) cap o0,
      joins-yes u r cap (λ q. omega arith) r1 (omega arith),
      start o0,
      some r1,
    ))
    (λ e. let o1 = eqb-false o 0 e in decide (eqb (o + 1) cap)
    (λ f. let w = eqb-true (o + 1) cap f in
    omega (arith, joins-closed u r cap (wrap w), joins-cut o (suc r) cap (omega arith), inside o1, some r1))
    (λ f. let w = eqb-false (o + 1) cap f in let um = more w in decide (ltb cap (o + suc r))
    (λ g. omega (
      arith,
      joins-cut o (suc r) cap (ltb-true _ _ g),
      joins-cut u r cap (omega (arith, ltb-true cap (o + suc r) g)),
      inside o1,
      some r1,
    ))
    (λ g. omega (
      arith,
      joins-yes o (suc r) cap o1 (λ q. omega arith) (ltb-false cap (o + suc r) g),
      joins-yes u r cap (λ q. omega arith) r1 (omega (arith, ltb-false cap (o + suc r) g)),
      inside o1,
      some r1,
    )))))

-- the first place of a word, and what the others leave of the claim
module _ (cap k w P : ℕ) (t : Tally) (h : w < 2 ^ suc k) (l : suc k ≤ cap) (o : t.off < cap)
    (ih : P + inner (w / 2) + joins_of (took_of cap t (eqb (w % 2) 1)).off (row k (w / 2)) cap
    ≡ (took_of cap t
    (eqb (w % 2) 1)).pieces + ones (w / 2)) where
  pieces-even : eqb (w % 2) 1 ≡ false
      → P + inner w + joins_of t.off (row (suc k) w) cap ≡ t.pieces + ones w
  pieces-even d =
      let z : w % 2 ≡ 0 = omega (arith, eqb-false (w % 2) 1 d) in
      let n = took-no cap t d in
      omega (
        arith,
        ones_step w,
        inner-even w z,
        joins-closed (took_of cap t (eqb (w % 2) 1)).off (row k (w / 2)) cap n.2,
        joins-none t.off (row (suc k) w) cap (row-even k w h z),
      )

  pieces-odd : eqb (w % 2) 1 ≡ true → P + inner w + joins_of t.off (row (suc k) w) cap ≡ t.pieces + ones w
  pieces-odd d =
      let z : w % 2 ≡ 1 = eqb-true _ _ d in
      let v = halved k w h in
      let j =
      join_more cap t.off (took_of cap t (eqb (w % 2) 1)).off (row k (w / 2)) (w / 2 % 2) t.pieces
      (took_of cap t (eqb (w % 2) 1)).pieces o
      (omega (arith, row-le k (w / 2)))
      (took-start cap t d)
      (took-inside cap t d)
      (took-wrap cap t d)
      (took_more cap t d)
      (row_zero k (w / 2) v)
      (row_one k (w / 2) v)
      in
      omega (arith, ones_step w, inner-odd w z, ap (λ (r : ℕ). joins_of t.off r cap) (row-odd k w h z))

word-pieces : (cap k w : ℕ) (t : Tally) → w < 2 ^ k → k ≤ cap → t.off < cap
    → (took_bits cap t w k).pieces + inner w + joins_of t.off (row k w) cap ≡ t.pieces + ones w
unfolding took_bits
word-pieces cap zero w t h l o =
    let e = none w h in
    let i : inner w ≡ 0 = rw e inner-zero in
    let n : ones w ≡ 0 = rw e ones-zero in
    omega (arith, joins-none t.off (row zero w) cap (row-none zero w h (omega arith)))
word-pieces cap (suc k) w t h l o =
    let u = took_of cap t (eqb (w % 2) 1) in
    let ih = word-pieces cap k (w / 2) u (halved k w h) (omega arith) (took-below cap t (eqb (w % 2) 1) o) in
    decide (eqb (w % 2) 1)
    (pieces-odd cap k w (took_bits cap u (w / 2) k).pieces t h l o ih)
    (pieces-even cap k w (took_bits cap u (w / 2) k).pieces t h l o ih)

-- ---- what is open after it

-- after k places, of which those fail whose bits are set in g
unfoldable pub open_after : ℕ → ℕ → ℕ → ℕ → ℕ
open_after k o g cap = pick (eqb g 0) (cut_of (o + k) cap) (count_leading_zeros k g)

module _ (k o g cap : ℕ) where
  open-whole : g ≡ 0 → o + k < cap → open_after k o g cap ≡ o + k
  unfolding open_after cut_of
  open-whole e l = rw (e, lt-ltb (o + k) cap l)

  open-wrap : g ≡ 0 → cap ≤ o + k → open_after k o g cap ≡ o + k - cap
  unfolding open_after cut_of
  open-wrap e l = rw (e, le-ltb (o + k) cap l)

  open-cut : g ≡ 0 → open_after k o g cap ≡ cut_of (o + k) cap
  unfolding open_after
  open-cut e = rw e

  open-gap : (g ≡ 0 → ⊥) → open_after k o g cap ≡ count_leading_zeros k g
  unfolding open_after
  open-gap n = rw (ne_eqb g 0 n)

leading-half : (k g : ℕ) → (g ≡ 0 → ⊥) → count_leading_zeros (suc k) g ≡ count_leading_zeros k (g / 2)
unfolding count_leading_zeros
leading-half k zero n = absurd (n refl)
leading-half k (suc g) n = refl

module _ (cap k w : ℕ) (t : Tally) (h : w < 2 ^ suc k) (l : suc k ≤ cap) (o : t.off < cap) where
  first-open : ℕ
  first-open = (took_of cap t (eqb (w % 2) 1)).off

  -- no gap: the piece goes on, or is cut and begun anew
  open-on : gaps (suc k) w ≡ 0
      → open_after k first-open (gaps k (w / 2)) cap ≡ open_after (suc k) t.off (gaps (suc k) w) cap
  unfolding first-open
  open-on g =
      let d : eqb (w % 2) 1 ≡ true = eq-eqb (w % 2) 1 (omega (arith, gaps-low k w h)) in
      let g2 : gaps k (w / 2) ≡ 0 = omega (arith, gaps-half k w h) in
      let u = (took_of cap t (eqb (w % 2) 1)).off in
      decide (eqb (t.off + 1) cap)
      (λ f. let e = eqb-true (t.off + 1) cap f in
      let z = took-wrap cap t d e in
      omega (
        arith,
        open-whole k u (gaps k (w / 2)) cap g2 (omega arith),
        open-wrap (suc k) t.off (gaps (suc k) w) cap g (omega arith),
      ))
      (λ f. let z = took_more cap t d (eqb-false (t.off + 1) cap f) in decide (ltb (t.off + suc k) cap)
      (λ q. omega (
        arith,
        open-whole k u (gaps k (w / 2)) cap g2 (omega (arith, ltb-true (t.off + suc k) cap q)),
        open-whole (suc k) t.off (gaps (suc k) w) cap g (ltb-true _ _ q),
      ))
      (λ q. omega (
        arith,
        open-wrap k u (gaps k (w / 2)) cap g2 (omega (arith, ltb-false (t.off + suc k) cap q)),
        open-wrap (suc k) t.off (gaps (suc k) w) cap g (ltb-false _ _ q),
      )))

  -- a gap: the row above the highest one is open
  open-anew : (gaps (suc k) w ≡ 0 → ⊥)
      → open_after k first-open (gaps k (w / 2)) cap ≡ open_after (suc k) t.off (gaps (suc k) w) cap
  unfolding first-open
  open-anew n =
      let u = (took_of cap t (eqb (w % 2) 1)).off in
      let e = open-gap (suc k) t.off (gaps (suc k) w) cap n ∙ leading-half k (gaps (suc k) w) n
      ∙ ap (count_leading_zeros k) (gaps-half k w h) in
      decide (eqb (gaps k (w / 2)) 0)
      (λ f. let g = eqb-true (gaps k (w / 2)) 0 f in
      let d : eqb (w % 2) 1 ≡ false = ne_eqb (w % 2) 1
      (λ q. omega (arith, gaps-low k w h, gaps-half k w h)) in
      omega (
        arith,
        open-whole k u (gaps k (w / 2)) cap g (omega (arith, (took-no cap t d).2)),
        (took-no cap t d).2,
        e,
        ap (count_leading_zeros k) g,
        leading_of_zero k,
      ))
      (λ f. open-gap k u (gaps k (w / 2)) cap (eqb-false _ _ f) ∙ sym e)

word-open : (cap k w : ℕ) (t : Tally) → w < 2 ^ k → k ≤ cap → t.off < cap
    → (took_bits cap t w k).off ≡ open_after k t.off (gaps k w) cap
unfolding took_bits first-open
word-open cap zero w t h l o =
    let g : gaps zero w ≡ 0 = gaps-none w in
    omega (arith, open-whole zero t.off (gaps zero w) cap g (omega arith))
word-open cap (suc k) w t h l o =
    word-open cap k (w / 2) (took_of cap t (eqb (w % 2) 1)) (halved k w h) (omega arith)
    (took-below cap t (eqb (w % 2) 1) o)
    ∙ decide (eqb (gaps (suc k) w) 0) (λ d. open-on cap k w t h l o (eqb-true _ _ d))
    (λ d. open-anew cap k w t h l o (eqb-false _ _ d))

-- ---- a word of 64 places

same-tally : (t : Tally) {a b c : ℕ} → a ≡ t.passed → b ≡ t.pieces → c ≡ t.off
    → record { passed = a; pieces = b; off = c } ≡ t
same-tally t x y z = rw (x, y, z)

module _ (cap w : ℕ) (t : Tally) (fits : w < 2 ^ 64) (wide : 64 ≤ cap) (below : t.off < cap) where
  -- the runs of the word are its ones but for those that the next one goes on from
  pub word-runs : (j : ℕ) → j ≡ joins_of t.off (count_trailing_zeros 64 (2 ^ 64 - 1 - w)) cap
      → (took_bits cap t w 64).pieces + ones (bit_and w (w / 2)) + j ≡ t.pieces + ones w
  unfolding inner row gaps
  word-runs j e = omega (arith, word-pieces cap 64 w t fits wide below)

  -- some pass and some fail
  pub word-mixed : (j : ℕ) → j ≡ joins_of t.off (count_trailing_zeros 64 (2 ^ 64 - 1 - w)) cap
      → (2 ^ 64 - 1 - w ≡ 0 → ⊥)
      → record {
        passed = t.passed + ones w;
        pieces = t.pieces + ones w - ones (bit_and w (w / 2)) - j;
        off =
            count_leading_zeros 64 (2 ^ 64 - 1 - w);
      } ≡ took_bits cap t w 64
  unfolding gaps
  word-mixed j e n =
      same-tally (took_bits cap t w 64)
      (sym (word-passed cap 64 w t fits))
      (omega (arith, word-runs j e))
      (sym (word-open cap 64 w t fits wide below ∙ open-gap 64 t.off (2 ^ 64 - 1 - w) cap n))

  -- none passes
  pub word_none : w ≡ 0 → record { passed = t.passed; pieces = t.pieces; off = 0 } ≡ took_bits cap t w 64
  unfolding gaps
  word_none e =
      let n : ones w ≡ 0 = ap ones e ∙ ones-zero in
      let i : inner w ≡ 0 = ap inner e ∙ inner-zero in
      same-tally (took_bits cap t w 64)
      (omega (arith, word-passed cap 64 w t fits))
      (omega (
        arith,
        word-pieces cap 64 w t fits wide below,
        joins-none t.off (row 64 w) cap (row-none 64 w fits (omega arith)),
      ))
      (leading_unique 64 (2 ^ 64 - 1 - w) 0 64 refl (omega arith) (omega arith)
      ∙ sym (word-open cap 64 w t fits wide below
      ∙ open-gap 64 t.off (2 ^ 64 - 1 - w) cap (λ q. omega arith)))

  -- all pass
  pub word-whole : w ≡ 2 ^ 64 - 1 → (j : ℕ) → j ≡ joins_of t.off 64 cap
      → (j ≤ t.pieces + 1)
      × ((o : ℕ) → o ≡ cut_of (t.off + 64) cap
      → record { passed = t.passed + 64; pieces = t.pieces + 1 - j; off = o } ≡ took_bits cap t w 64)
  unfolding gaps row inner
  word-whole e j f =
      let g : 2 ^ 64 - 1 - w ≡ 0 = omega arith in
      let n : ones w ≡ 64 = ap ones e ∙ ones-ones 64 in
      let i : ones (bit_and w (w / 2)) ≡ 63 = ap (λ (x : ℕ). ones (bit_and x (x / 2))) e
      ∙ ap ones (and_mask (2 ^ 64 - 1) 63) ∙ ones-ones 63 in
      let r : joins_of t.off (count_trailing_zeros 64 (2 ^ 64 - 1 - w)) cap ≡ j = ap
      (λ (x : ℕ). joins_of t.off (count_trailing_zeros 64 x) cap) g
      ∙ ap (λ (x : ℕ). joins_of t.off x cap) (trailing_of_zero 64) ∙ sym f in
      let p = word-pieces cap 64 w t fits wide below in (
        omega arith,
        λ o h. same-tally (took_bits cap t w 64)
            (omega (arith, word-passed cap 64 w t fits))
            (omega arith)
            (h ∙ sym (word-open cap 64 w t fits wide below ∙ open-cut 64 t.off (2 ^ 64 - 1 - w) cap g)),
      )
