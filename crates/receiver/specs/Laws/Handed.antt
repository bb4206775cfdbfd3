-- What a new receiver hands on, by any feeding: a whole packet, or 07 0E and a count below 5.
use Rattle.std.specs.Prelude.{ℕ, ◌≤◌, true, List, [], ◌∷◌, ◌++◌, ◌⊎◌, ◌≡◌, refl, eqb, ltb, leb, length}
use Rattle.std.proofs.Common.{inl, inr, arith, eqb-true, ltb-true, ltb-false, le-leb, length-append}
use Rattle.basis.specs.Choice.{pick}
use Rattle.basis.specs.Laws.Choice.{decide, both-second}
use Rattle.packet.specs.Packet.{start_byte, next_start_byte, starts_right}
use Rattle.receiver.specs.Hearing.{Heard, gathering, handing, hunted, hear, feed, Whole, Handed}
use Rattle.receiver.specs.Laws.Hearing.{hear-on, hear-last}

-- what a hunt has gathered: the beginning of a packet with a count of at least 5
abbrev pub Begun : List ℕ → Type 0
Begun [] = Unit {0}
Begun (x ∷ []) = x ≡ start_byte
Begun (x ∷ y ∷ []) = (x ≡ start_byte) × (y ≡ next_start_byte)
Begun (x ∷ y ∷ n ∷ s) = (x ≡ start_byte) × (y ≡ next_start_byte) × (5 ≤ n) × (length s ≤ n)

-- nothing is handed on, or what a hunt hands on
abbrev pub Proper : List ℕ → Type 0
Proper s = (s ≡ []) ⊎ Handed s

abbrev pub AllProper : List (List ℕ) → Type 0
AllProper [] = Unit {0}
AllProper (p ∷ l) = Proper p × AllProper l

-- what a byte leaves
abbrev Leaves : Heard → Type 0
Leaves h = Begun h.gathered × Proper h.packet

hunted-begun : (b : ℕ) → Leaves (gathering (hunted b))
hunted-begun b =
    decide (eqb b start_byte) (λ t. rw t (eqb-true b start_byte t, inl refl)) (λ t. rw t (tt, inl refl))

next-begun : (x b : ℕ) → x ≡ start_byte
    → Leaves (gathering (pick (eqb b next_start_byte) (x ∷ b ∷ []) (hunted b)))
next-begun x b e =
    decide (eqb b next_start_byte) (λ t. rw t ((e, eqb-true b next_start_byte t), inl refl))
    (λ t. rw t (hunted-begun b))

count-begun : (x y b : ℕ) → x ≡ start_byte → y ≡ next_start_byte
    → Leaves (pick (ltb b 5) (handing (x ∷ y ∷ b ∷ [])) (gathering (x ∷ y ∷ b ∷ [])))
count-begun x y b e f =
    decide (ltb b 5)
    (λ t. rw (t, e, f) (tt, inr (inr (record { starts = refl; few = ltb-true b 5 t; three = refl }))))
    (λ t. rw t ((e, f, ltb-false b 5 t, omega arith), inl refl))

-- 07 0E, whatever follows
started : (n : ℕ) (s : List ℕ) → starts_right (start_byte ∷ next_start_byte ∷ n ∷ s) ≡ true
started n s =
    let w = start_byte ∷ next_start_byte ∷ n ∷ s in
    both-second (leb 2 (length w)) true (le-leb 2 (length w) (omega arith))

whole_of : (n b : ℕ) (s : List ℕ) → 5 ≤ n → length s ≡ n
    → Whole (start_byte ∷ next_start_byte ∷ n ∷ s ++ (b ∷ []))
whole_of n b s h e =
    record {
      starts = started n (s ++ (b ∷ []));
      enough = h;
      long = omega (arith, length-append s (b ∷ []));
    }

all-begun : (n b : ℕ) (s : List ℕ) → 5 ≤ n → length s ≤ n
    → Leaves (hear (start_byte ∷ next_start_byte ∷ n ∷ s) b)
all-begun n b s h l =
    let g = start_byte ∷ next_start_byte ∷ n ∷ s in
    decide (ltb (length s) n)
    (λ t. let k = ltb-true (length s) n t in
    rw (hear-on g b (omega arith) (omega arith))
    ((refl, refl, h, omega (arith, length-append s (b ∷ []))), inl refl))
    (λ t. let k = ltb-false (length s) n t in
    rw (hear-last g b (omega arith) (omega arith))
    (tt, inr (inl (whole_of n b s h (omega arith)))))

leaves : (g : List ℕ) (b : ℕ) → Begun g → Leaves (hear g b)
unfolding hear
leaves [] b h = hunted-begun b
leaves (x ∷ []) b h = next-begun x b h
leaves (x ∷ y ∷ []) b h = count-begun x y b h.0 h.1
leaves (x ∷ y ∷ n ∷ s) b h = rw (h.0, h.1) (all-begun n b s h.2 h.3)

-- whatever is fed after what a hunt has gathered
pub feed-proper : (g s : List ℕ) → Begun g → Begun (feed g s).gathered × AllProper (feed g s).handed
unfolding feed
feed-proper g [] h = (h, tt)
feed-proper g (b ∷ s) h =
    let x = leaves g b h in
    let r = feed-proper (hear g b).gathered s x.0 in
    (r.0, (x.1, r.1))

-- a new receiver, by any feeding
pub new-proper : (s : List ℕ) → AllProper (feed [] s).handed
new-proper s = (feed-proper [] s tt).1
