-- Laws of the map.
use Rattle.std.specs.Prelude.{ℕ, zero, suc, ◌+◌, ◌*◌, ◌/◌, ◌%◌, ◌^◌, ◌<◌, ◌≤◌, ◌≡◌, refl, List, Bool, true, false, length, set, get_or, replicate, eqb}
use Rattle.std.proofs.Common.{ap, sym, ◌∙◌, arith, length-set, get_or-set_same, get_or-set_other, ext_get_or, eqb→eq, eq-eqb, ne_eqb}
use Rattle.std.proofs.Math.Nat.{zero-div}
use Rattle.std.proofs.Math.Decide.{ℕ_discrete}
use Rattle.std.proofs.Math.ListN.{get_or-eq_default}
use Rattle.std.specs.Int.Bits.{bit_or}
use Rattle.std.proofs.lemmas.Nat.{or_lt}
use Rattle.std.proofs.Math.Pow.{pow-lt}
use Rattle.basis.specs.Choice.{pick, either}
use Rattle.basis.specs.Lists.{Bytes}
use Rattle.basis.specs.Laws.Bits.{bit-or}
use Rattle.basis.specs.Laws.Choice.{either_second, either-no}
use Rattle.basis.specs.Laws.Computed.{all_below, one_of, agree}
use Rattle.basis.specs.Laws.Lists.{zero-at}
use Rattle.basis.specs.Bits.{bit}
use Rattle.runs.specs.Map.{named, name_of, name_all_of}

pub name-length : (m : List ℕ) (a : ℕ) → length (name_of m a) ≡ length m
unfolding name_of
name-length m a = simp length-set

-- a single bit seen from another place
one_bit : (i j : ℕ) → i < 8 → j < 8 → 2 ^ i / 2 ^ j % 2 ≡ pick (eqb j i) 1 0
one_bit i j hi hj =
    eqb→eq (2 ^ i / 2 ^ j % 2) (pick (eqb j i) 1 0)
    (one_of (λ (j : ℕ). eqb (2 ^ i / 2 ^ j % 2) (pick (eqb j i) 1 0)) 8
    (one_of (λ (i : ℕ). all_below (λ (j : ℕ). eqb (2 ^ i / 2 ^ j % 2) (pick (eqb j i) 1 0)) 8) 8 tt i hi)
    j hj)

-- a bit of an OR with a single bit
or_at : (x i j : ℕ) → i < 8 → j < 8 → bit (bit_or x (2 ^ i)) j ≡ either (bit x j) (eqb j i)
or_at x i j hi hj =
    bit-or x (2 ^ i) j
    ∙ ap (λ (u : ℕ). either (bit x j) (eqb u 1)) (one_bit i j hi hj)
    ∙ ap (either (bit x j)) (one (eqb j i))
  where
    one : (t : Bool) → eqb (pick t 1 0) 1 ≡ t
    one true = refl
    one false = refl

-- in one byte two addresses are equal where their bits are
same_place : (a b : ℕ) → b / 8 ≡ a / 8 → eqb (b % 8) (a % 8) ≡ eqb b a
same_place a b e = go (ℕ_discrete b a)
  where
    go : Dec (b ≡ a) → eqb (b % 8) (a % 8) ≡ eqb b a
    go (yes q) = eq-eqb (b % 8) (a % 8) (omega arith) ∙ sym (eq-eqb b a q)
    go (no n) = ne_eqb (b % 8) (a % 8) (λ r. n (omega arith)) ∙ sym (ne_eqb b a n)

-- exactly that address more is named
name-named : (m : List ℕ) (a b : ℕ) → a < 8 * length m → named (name_of m a) b ≡ either (named m b) (eqb b a)
unfolding named name_of
name-named m a b h = go (ℕ_discrete (b / 8) (a / 8))
  where
    go : Dec (b / 8 ≡ a / 8)
        → bit (get_or (set m (a / 8) (bit_or (get_or m (a / 8) 0) (2 ^ (a % 8)))) (b / 8) 0) (b % 8)
        ≡ either (bit (get_or m (b / 8) 0) (b % 8)) (eqb b a)
    go (yes e) =
        rw (
          e,
          get_or-set_same m (a / 8) (bit_or (get_or m (a / 8) 0) (2 ^ (a % 8))) 0 (omega arith),
          or_at (get_or m (a / 8) 0) (a % 8) (b % 8) (omega arith) (omega arith),
          same_place a b e,
        )
    go (no ne) =
        rw (
          get_or-set_other m (a / 8) (b / 8) (bit_or (get_or m (a / 8) 0) (2 ^ (a % 8))) 0 ne,
          ne_eqb b a (λ q. ne (rw q)),
        )
        (sym (either-no (bit (get_or m (b / 8) 0) (b % 8))))

pub name-same : (m : List ℕ) (a : ℕ) → a < 8 * length m → named (name_of m a) a ≡ true
name-same m a h = name-named m a a h ∙ either_second (named m a) (eqb a a) (eq-eqb a a refl)

pub name-other : (m : List ℕ) (a b : ℕ) → a < 8 * length m → (b ≡ a → ⊥) → named (name_of m a) b ≡ named m b
name-other m a b h n = name-named m a b h ∙ ap (either (named m b)) (ne_eqb b a n) ∙ either-no (named m b)

-- bytes stay bytes
pub name-bytes : (m : List ℕ) (a : ℕ) → a < 8 * length m → Bytes m → Bytes (name_of m a)
unfolding name_of
name-bytes m a l h k = go (ℕ_discrete k (a / 8))
  where
    go : Dec (k ≡ a / 8) → get_or (set m (a / 8) (bit_or (get_or m (a / 8) 0) (2 ^ (a % 8)))) k 0 < 256
    go (yes e) =
        rw (e, get_or-set_same m (a / 8) (bit_or (get_or m (a / 8) 0) (2 ^ (a % 8))) 0 (omega arith))
        (or_lt 8 (get_or m (a / 8) 0) (2 ^ (a % 8)) (h (a / 8)) (pow-lt {j = 8} (omega arith)))
    go (no n) = rw (get_or-set_other m (a / 8) k (bit_or (get_or m (a / 8) 0) (2 ^ (a % 8))) 0 n) (h k)

-- no address past the map's end is named
pub named_past : (m : List ℕ) (a : ℕ) → 8 * length m ≤ a → named m a ≡ false
unfolding named
named_past m a h =
    let k : length m ≤ a / 8 = omega arith in
    simp (get_or-eq_default m 0 k, zero-div)

-- an all-zero map names nothing
pub named_none : (n a : ℕ) → named (replicate n 0) a ≡ false
unfolding named
named_none n a = simp (zero-at n (a / 8), zero-div)

-- the number that the lowest k bits make
value : (ℕ → Bool) → ℕ → ℕ
value f zero = 0
value f (suc k) = value f k + pick (f k) (2 ^ k) 0

value_same : (f g : ℕ → Bool) (k : ℕ) → ((j : ℕ) → j < k → f j ≡ g j) → value f k ≡ value g k
unfolding value
value_same f g zero h = refl
value_same f g (suc k) h = rw (h k (omega arith), value_same f g k (λ j l. h j (omega arith)))

byte-value : (b : ℕ) → b < 256 → value (bit b) 8 ≡ b
unfolding value
byte-value b h = agree (λ (b : ℕ). value (bit b) 8) (λ (b : ℕ). b) 256 tt b h

-- a map is known by what it names
pub named-only : (m n : List ℕ) → length m ≡ length n → Bytes m → Bytes n
    → ((a : ℕ) → named m a ≡ named n a)
    → m ≡ n
unfolding named
named-only m n e hm hn h =
    ext_get_or 0 m n e
    (λ i l. sym (byte-value (get_or m i 0) (hm i)) ∙ value_same _ _ 8 (same i)
    ∙ byte-value (get_or n i 0) (hn i))
  where
    same : (i j : ℕ) → j < 8 → bit (get_or m i 0) j ≡ bit (get_or n i 0) j
    same i j l =
        let p : (8 * i + j) / 8 ≡ i = omega arith in
        let q : (8 * i + j) % 8 ≡ j = omega arith in
        rw (p, q) at (h (8 * i + j))

-- ---- a row of places named

pub name-all-length : (m : List ℕ) (a n : ℕ) → length (name_all_of m a n) ≡ length m
unfolding name_all_of
name-all-length m a zero = refl
name-all-length m a (suc n) = name-all-length (name_of m a) (a + 1) n ∙ name-length m a

pub name-all-bytes : (m : List ℕ) (a n : ℕ) → a + n ≤ 8 * length m → Bytes m → Bytes (name_all_of m a n)
unfolding name_all_of
name-all-bytes m a zero l h = h
name-all-bytes m a (suc n) l h =
    name-all-bytes (name_of m a) (a + 1) n (omega (arith, name-length m a)) (name-bytes m a (omega arith) h)

pub name-all-below : (m : List ℕ) (a n j : ℕ) → a + n ≤ 8 * length m → j < a
    → named (name_all_of m a n) j ≡ named m j
unfolding name_all_of
name-all-below m a zero j l h = refl
name-all-below m a (suc n) j l h =
    name-all-below (name_of m a) (a + 1) n j (omega (arith, name-length m a)) (omega arith)
    ∙ name-other m a j (omega arith) (λ e. omega arith)

pub name-all-above : (m : List ℕ) (a n j : ℕ) → a + n ≤ 8 * length m → a + n ≤ j
    → named (name_all_of m a n) j ≡ named m j
unfolding name_all_of
name-all-above m a zero j l h = refl
name-all-above m a (suc n) j l h =
    name-all-above (name_of m a) (a + 1) n j (omega (arith, name-length m a)) (omega arith)
    ∙ name-other m a j (omega arith) (λ e. omega arith)

pub name-all-in : (m : List ℕ) (a n j : ℕ) → a + n ≤ 8 * length m → a ≤ j → j < a + n
    → named (name_all_of m a n) j ≡ true
unfolding name_all_of
name-all-in m a zero j l h k = absurd (omega arith)
name-all-in m a (suc n) j l h k =
    go (ℕ_discrete j a) (name-all-in (name_of m a) (a + 1) n j (omega (arith, name-length m a)))
  where
    go : Dec (j ≡ a) → (a + 1 ≤ j → j < a + 1 + n → named (name_all_of (name_of m a) (a + 1) n) j ≡ true)
        → named (name_all_of (name_of m a) (a + 1) n) j ≡ true
    go (yes e) f =
        name-all-below (name_of m a) (a + 1) n j (omega (arith, name-length m a)) (omega arith)
        ∙ rw e (name-same m a (omega arith))
    go (no e) f = f (above e) (omega arith)
      where
        above : (j ≡ a → ⊥) → a + 1 ≤ j
        above e = omega arith
