-- Words of the map: a long one is two short ones joined, and the bits of one are taken as its places are.
use Rattle.std.proofs.Common.{ℕ, zero, suc, ◌+◌, ◌*◌, ◌/◌, ◌%◌, ◌^◌, ◌<◌, add-zero, add-suc, zero-add, suc-add, mul_assoc, pow-suc, div-one, arith, ◌≡◌, sym, ap, ap₂, ◌∙◌, List, Bool, eqb, get_or}
use native.Mathlib.Nat.{pow-succ', div-div-eq-div-mul}
use Rattle.basis.specs.Lists.{Bytes}
use Rattle.runs.specs.declared.tally.Tally.{Tally}
use Rattle.runs.specs.Tally.{tally_at, took_of, took_bits}
use Rattle.basis.specs.Laws.Boards.{pages-few}
use Rattle.runs.proofs.Tallies.{tally-next, passed-few, pieces-few, off-less}
use Rattle.basis.specs.Bits.{bit}
use Rattle.runs.specs.Map.{named, word_of}

word-join : (m : List ℕ) (j i k : ℕ) → word_of m (i + j) k * 256 ^ j + word_of m i j ≡ word_of m i (j + k)
unfolding word_of
word-join m zero i k = rw (add-zero i, zero-add k) (omega arith)
word-join m (suc j) i k =
    let e : i + suc j ≡ i + 1 + j = omega arith in
    let ih = word-join m j (i + 1) k in
    let p : word_of m (i + 1 + j) k * 256 ^ suc j ≡ word_of m (i + 1 + j) k * 256 ^ j * 256 = rw pow-suc
    (sym (mul_assoc (word_of m (i + 1 + j) k) (256 ^ j) 256)) in
    rw (e, suc-add) (omega arith)

-- two halves joined
pub halves_join : (m : List ℕ) (j i x y : ℕ) → x ≡ word_of m (i + j) j → y ≡ word_of m i j
    → x * 256 ^ j + y ≡ word_of m i (j + j)
halves_join m j i x y e f = rw (e, f) (word-join m j i j)

-- ---- places taken one by one

bits-tally : (p : ℕ → Bool) (cap k w a : ℕ) → ((j : ℕ) → j < k → bit w j ≡ p (a + j))
    → took_bits cap (tally_at p cap a) w k ≡ tally_at p cap (a + k)
unfolding took_bits
bits-tally p cap zero w a h = rw add-zero
bits-tally p cap (suc k) w a h =
    let e : eqb (w % 2) 1 ≡ p a = rw (div-one, add-zero) at (h 0 (omega arith)) in
    rw (e, tally-next p cap a, add-suc, ← suc-add a k)
    (bits-tally p cap k (w / 2) (suc a) (λ j l. above j (omega arith)))
  where
    above : (j : ℕ) → suc j < suc k → bit (w / 2) j ≡ p (suc a + j)
    above j l =
        let d : w / 2 / 2 ^ j ≡ w / 2 ^ suc j = div-div-eq-div-mul w 2 (2 ^ j)
        ∙ ap (λ (x : ℕ). w / x) (sym (pow-succ' 2 j)) in
        let s : a + suc j ≡ suc a + j = omega arith in
        rw (d, ← s) (h (suc j) l)

-- a word is taken as its lower bits and then the rest
took-join : (cap n r j b : ℕ) (t : Tally) → b < 2 ^ j
    → took_bits cap t (b + 2 ^ j * r) (j + n) ≡ took_bits cap (took_bits cap t b j) r n
unfolding took_bits
took-join cap n r zero b t h =
    let e : b + 2 ^ 0 * r ≡ r = omega arith in
    ap₂ (took_bits cap t) e (zero-add n)
took-join cap n r (suc j) b t h =
    let x : 2 ^ suc j * r ≡ 2 * (2 ^ j * r) = ap (λ (p : ℕ). p * r) (pow-succ' 2 j) ∙ mul_assoc 2 (2 ^ j) r in
    let e : (b + 2 ^ suc j * r) % 2 ≡ b % 2 = omega arith in
    let f : (b + 2 ^ suc j * r) / 2 ≡ b / 2 + 2 ^ j * r = omega arith in
    ap (took_bits cap t (b + 2 ^ suc j * r)) (suc-add j n)
    ∙ ap₂ (λ (y z : ℕ). took_bits cap (took_of cap t (eqb y 1)) z (j + n)) e f
    ∙ took-join cap n r j (b / 2) (took_of cap t (eqb (b % 2) 1)) (omega (arith, pow-suc 2 j))

byte-tally : (m : List ℕ) (cap i : ℕ)
    → took_bits cap (tally_at (named m) cap (8 * i)) (get_or m i 0) 8 ≡ tally_at (named m) cap (8 * (i + 1))
unfolding named
byte-tally m cap i =
    let e : 8 * i + 8 ≡ 8 * (i + 1) = omega arith in
    bits-tally (named m) cap 8 (get_or m i 0) (8 * i) within ∙ ap (tally_at (named m) cap) e
  where
    within : (j : ℕ) → j < 8 → bit (get_or m i 0) j ≡ named m (8 * i + j)
    within j l =
        let p : (8 * i + j) / 8 ≡ i = omega arith in
        let q : (8 * i + j) % 8 ≡ j = omega arith in
        rw (p, q)

-- the k bytes from the i-th on
word-tally : (m : List ℕ) (cap k i : ℕ) → Bytes m
    → took_bits cap (tally_at (named m) cap (8 * i)) (word_of m i k) (8 * k)
    ≡ tally_at (named m) cap (8 * (i + k))
unfolding word_of took_bits
word-tally m cap zero i h = ap (tally_at (named m) cap) (omega arith)
word-tally m cap (suc k) i h =
    let e : 8 * suc k ≡ 8 + 8 * k = omega arith in
    let f : i + 1 + k ≡ i + suc k = omega arith in
    ap (took_bits cap (tally_at (named m) cap (8 * i)) (get_or m i 0 + 256 * word_of m (i + 1) k)) e
    ∙ took-join cap (8 * k) (word_of m (i + 1) k) 8 (get_or m i 0) (tally_at (named m) cap (8 * i)) (h i)
    ∙ ap (λ (t : Tally). took_bits cap t (word_of m (i + 1) k) (8 * k)) (byte-tally m cap i)
    ∙ word-tally m cap k (i + 1) h
    ∙ ap (λ (x : ℕ). tally_at (named m) cap (8 * x)) f

-- one word more
pub word-again : (m : List ℕ) (cap i : ℕ) → Bytes m → {t r : Tally} {w : ℕ}
    → t ≡ tally_at (named m) cap (64 * i) → w ≡ word_of m (8 * i) 8
    → r ≡ took_bits cap t w 64 → r ≡ tally_at (named m) cap (64 * (i + 1))
word-again m cap i h e f g =
    let a : 64 * i ≡ 8 * (8 * i) = omega arith in
    let b : 8 * (8 * i + 8) ≡ 64 * (i + 1) = omega arith in
    g ∙ ap₂ (λ (t : Tally) (w : ℕ). took_bits cap t w 64) (e ∙ ap (tally_at (named m) cap) a) f
    ∙ word-tally m cap 8 (8 * i) h ∙ ap (tally_at (named m) cap) b

pub ruleset words = (passed-few, pieces-few, off-less, word-again, pages-few)
