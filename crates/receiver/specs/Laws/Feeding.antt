-- Laws of feeding: cuts change nothing, rubbish hands on nothing, and a whole packet is handed on at its last
-- byte.
use Rattle.std.specs.Prelude.{ℕ, zero, suc, ◌+◌, ◌-◌, ◌≤◌, ◌<◌, true, false, not, List, [], ◌∷◌, ◌++◌, ◌⊎◌, ◌≡◌, refl, eqb, leb, length, replicate}
use Rattle.std.proofs.Common.{append_assoc, inl, inr, sym, ap, subst, ◌∙◌, zero-add, suc-add, arith, eqb-true, lt-ltb, le-leb, length-append}
use Rattle.std.proofs.lemmas.Bool.{eqb-false, not-true}
use Rattle.basis.specs.Choice.{both}
use Rattle.basis.specs.Laws.Choice.{decide, both_true, both-second}
use Rattle.basis.specs.Refusals.{given}
use Rattle.packet.specs.Laws.Packet.{packet-length, accepted}
use Rattle.packet.specs.Packet.{start_byte, next_start_byte, starts_right, packet, Parts, read_of}
use Rattle.receiver.specs.Hearing.{Heard, gathering, hunted, hear, Fed, feed, rubbish, Whole}
use Rattle.receiver.specs.Laws.Hearing.{hear-none, hear-other, hear-count, hear-on, hear-last}

-- so many bytes at which nothing is handed on
abbrev pub nothing : ℕ → List (List ℕ)
nothing n = replicate n []

pub nothing-joined : (a b : ℕ) (t : List (List ℕ)) → nothing a ++ (nothing b ++ t) ≡ nothing (a + b) ++ t
nothing-joined zero b t = rw zero-add
nothing-joined (suc a) b t = rw (suc-add, nothing-joined a b t)

-- ---- cuts

-- more bytes, after those that were fed
abbrev pub after : Fed → List ℕ → Fed
after x s = let r = feed x.gathered s in record { gathered = r.gathered; handed = x.handed ++ r.handed }

pub feed-append : (g s t : List ℕ) → feed g (s ++ t) ≡ after (feed g s) t
unfolding feed
feed-append g [] t = refl
feed-append g (b ∷ s) t = rw (feed-append (hear g b).gathered s t)

-- what is handed on is told for each byte
pub feed-length : (g s : List ℕ) → length (feed g s).handed ≡ length s
unfolding feed
feed-length g [] = refl
feed-length g (b ∷ s) = rw (feed-length (hear g b).gathered s)

-- one byte before others
abbrev pub before : List ℕ → Fed → Fed
before p x = record { gathered = x.gathered; handed = p ∷ x.handed }

pub feed-cons : (g : List ℕ) (b : ℕ) (s : List ℕ)
    → feed g (b ∷ s) ≡ before (hear g b).packet (feed (hear g b).gathered s)
unfolding feed
feed-cons g b s = refl

-- a byte that hands nothing on
feed-quiet : (g h : List ℕ) (b : ℕ) (s : List ℕ) → hear g b ≡ gathering h
    → feed g (b ∷ s) ≡ before [] (feed h s)
feed-quiet g h b s e = feed-cons g b s ∙ ap (λ (x : Heard). before x.packet (feed x.gathered s)) e

-- ---- rubbish

-- nothing is gathered but, it may be, a start byte
abbrev pub Idle : List ℕ → Type 0
Idle g = (g ≡ []) ⊎ (g ≡ start_byte ∷ [])

-- bytes that hand nothing on, and leave the hunt where it may begin anew
abbrev pub Unheard : Fed → ℕ → Type 0
Unheard x n = (x.handed ≡ nothing n) × Idle x.gathered

pub rubbish-tail : (x : ℕ) (s : List ℕ) → rubbish (x ∷ s) ≡ true → rubbish s ≡ true
unfolding rubbish
rubbish-tail x [] e = refl
rubbish-tail x (y ∷ s) e =
    (both_true (not (both (eqb x start_byte) (eqb y next_start_byte))) (rubbish (y ∷ s)) e).1

-- after a start byte no next start byte comes
rubbish-next : (b : ℕ) (s : List ℕ) → rubbish (start_byte ∷ b ∷ s) ≡ true → eqb b next_start_byte ≡ false
unfolding rubbish
rubbish-next b s e =
    not-true (eqb b next_start_byte) (both_true (not (eqb b next_start_byte)) (rubbish (b ∷ s)) e).0

-- a byte after a start byte that is no next start byte: as if there had been none
past-start : (b : ℕ) (s : List ℕ) → eqb b next_start_byte ≡ false
    → feed (start_byte ∷ []) (b ∷ s) ≡ feed [] (b ∷ s)
past-start b s e =
    feed-quiet (start_byte ∷ []) (hunted b) b s (hear-other (start_byte ∷ []) b refl (eqb-false _ _ e))
    ∙ sym (feed-quiet [] (hunted b) b s (hear-none [] b refl))

-- one byte more of which nothing comes
unheard-more : (x : Fed) (n : ℕ) → Unheard x n → Unheard (before [] x) (suc n)
unheard-more x n u = (rw u.0, u.1)

hunted-start : (b : ℕ) → eqb b start_byte ≡ true → hunted b ≡ start_byte ∷ []
hunted-start b t = rw (t, eqb-true b start_byte t)

hunted-other : (b : ℕ) → eqb b start_byte ≡ false → hunted b ≡ []
hunted-other b t = rw t

-- a byte of the hunt: what follows is heard after what it leaves gathered
hunts-on : (b : ℕ) (s g : List ℕ) → hunted b ≡ g → Unheard (feed g s) (length s)
    → Unheard (feed [] (b ∷ s)) (suc (length s))
hunts-on b s g e u =
    subst (λ (x : Fed). Unheard x (suc (length s)))
    (sym (feed-quiet [] g b s (hear-none [] b refl ∙ ap gathering e)))
    (unheard-more (feed g s) (length s) u)

feed-none : (g : List ℕ) → feed g [] ≡ record { gathered = g; handed = [] }
unfolding feed
feed-none g = refl

-- the hunt goes on through rubbish, whether or not a start byte was just heard
hunts : (s : List ℕ) → (rubbish s ≡ true → Unheard (feed [] s) (length s))
    × (rubbish (start_byte ∷ s) ≡ true → Unheard (feed (start_byte ∷ []) s) (length s))
hunts [] = (λ e. rw (feed-none []) (refl, inl refl), λ e. rw (feed-none (start_byte ∷ [])) (refl, inr refl))
hunts (b ∷ s) =
    let rest = hunts s in
    let go : rubbish (b ∷ s) ≡ true → Unheard (feed [] (b ∷ s)) (length (b ∷ s)) =
    λ e. decide (eqb b start_byte)
    (λ t. hunts-on b s (start_byte ∷ []) (hunted-start b t) (rest.1 (rw (eqb-true b start_byte t) at e)))
    (λ t. hunts-on b s [] (hunted-other b t) (rest.0 (rubbish-tail b s e)))
    in
    (go, λ e. rw (past-start b s (rubbish-next b s e)) (go (rubbish-tail start_byte (b ∷ s) e)))

-- rubbish, also when it ends in 07
pub rubbish-idle : (s : List ℕ) → rubbish s ≡ true → Unheard (feed [] s) (length s)
rubbish-idle s e = (hunts s).0 e

-- ---- a whole packet

abbrev begun : ℕ → List ℕ → List ℕ
begun n u = start_byte ∷ next_start_byte ∷ n ∷ u

-- handed on after so many bytes, and nothing before it
abbrev pub handed_after : ℕ → List ℕ → Fed
handed_after n s = record { gathered = []; handed = nothing n ++ (s ∷ []) }

-- with the last byte all is handed on
gathers-all : (n : ℕ) (u : List ℕ) (b : ℕ) (s : List ℕ) → length u + length s ≡ n
    → feed (begun n u) (b ∷ s) ≡ handed_after (length s) (begun n (u ++ (b ∷ s)))
unfolding feed
gathers-all n u b [] h = rw (hear-last (begun n u) b (omega arith) (omega arith))
gathers-all n u b (c ∷ s) h =
    feed-quiet (begun n u) (begun n (u ++ (b ∷ []))) b (c ∷ s)
    (hear-on (begun n u) b (omega arith) (omega arith))
    ∙ ap (before []) (gathers-all n (u ++ (b ∷ [])) c s (simp length-append (omega arith)))
    ∙ rw (append_assoc u (b ∷ []) (c ∷ s))

-- the start and a count that is not too small
opened : (n : ℕ) (s : List ℕ) → 5 ≤ n
    → feed [] (begun n s) ≡ before [] (before [] (before [] (feed (begun n []) s)))
unfolding hear
opened n s h =
    feed-quiet [] (start_byte ∷ []) start_byte (next_start_byte ∷ n ∷ s) refl
    ∙ ap (before [])
    (feed-quiet (start_byte ∷ []) (start_byte ∷ next_start_byte ∷ []) next_start_byte (n ∷ s) refl
    ∙ ap (before []) (feed-quiet (start_byte ∷ next_start_byte ∷ []) (begun n []) n s
    (hear-count (start_byte ∷ next_start_byte ∷ []) n refl h)))

begins : (x y n : ℕ) (s : List ℕ) → starts_right (x ∷ y ∷ n ∷ s) ≡ true → x ∷ y ∷ n ∷ s ≡ begun n s
begins x y n s e =
    let p = (both_true (leb 2 (length (x ∷ y ∷ n ∷ s)))
    (both (eqb x start_byte) (eqb y next_start_byte)) e).1 in
    let q = both_true (eqb x start_byte) (eqb y next_start_byte) p in
    rw (eqb-true x start_byte q.0, eqb-true y next_start_byte q.1)

-- what holds of each packet that is told by its count and its data holds of each whole one
by_count : (P : List ℕ → Type 0) → ((n b : ℕ) (s : List ℕ) → 5 ≤ n → length s ≡ n → P (begun n (b ∷ s)))
    → (s : List ℕ) → Whole s → P s
by_count P f [] w = let l = w.long in absurd (omega arith)
by_count P f (x ∷ []) w = let l = w.long in absurd (omega arith)
by_count P f (x ∷ y ∷ []) w = let l = w.long in absurd (omega arith)
by_count P f (x ∷ y ∷ n ∷ []) w = let l = w.long in absurd (omega arith)
by_count P f (x ∷ y ∷ n ∷ b ∷ s) w =
    let l = w.long in
    subst P (sym (begins x y n (b ∷ s) w.starts)) (f n b s w.enough (omega arith))

all_but_one : (k : ℕ) → suc (suc (suc k)) ≡ suc (suc (suc (suc k))) - 1
all_but_one k = omega arith

-- a whole packet is handed on at its last byte, byte for byte, and nothing before it
pub packet-handed : (s : List ℕ) → Whole s → feed [] s ≡ handed_after (length s - 1) s
packet-handed s w =
    by_count (λ (s : List ℕ). feed [] s ≡ handed_after (length s - 1) s)
    (λ n b s h l. opened n (b ∷ s) h
    ∙ ap (λ (x : Fed). before [] (before [] (before [] x))) (gathers-all n [] b s (omega arith))
    ∙ ap (λ (k : ℕ). handed_after k (begun n (b ∷ s))) (all_but_one (length s)))
    s w

-- a start byte just before changes nothing of that
restarted : (s : List ℕ) → Whole s → feed (start_byte ∷ []) s ≡ feed [] s
restarted s w =
    by_count (λ (s : List ℕ). feed (start_byte ∷ []) s ≡ feed [] s)
    (λ n b s h l. past-start start_byte (next_start_byte ∷ n ∷ b ∷ s) refl) s w

idle-packet : (g s : List ℕ) → Idle g → Whole s → feed g s ≡ handed_after (length s - 1) s
idle-packet g s (inl e) w = rw e (packet-handed s w)
idle-packet g s (inr e) w = rw e (restarted s w ∙ packet-handed s w)

-- a packet after rubbish is found, and nothing is handed on before it
pub rubbish-packet : (z s : List ℕ) → rubbish z ≡ true → Whole s
    → feed [] (z ++ s) ≡ handed_after (length z + (length s - 1)) s
rubbish-packet z s e w =
    let u = rubbish-idle z e in
    feed-append [] z s
    ∙ rw (idle-packet (feed [] z).gathered s u.1 w, u.0)
    (ap (λ (h : List (List ℕ)). record { gathered = []; handed = h })
    (nothing-joined (length z) (length s - 1) (s ∷ [])))

-- a count below 5 is handed on at once as the three bytes gathered
pub short-handed : (n : ℕ) → n < 5 → feed [] (begun n []) ≡ handed_after 2 (begun n [])
unfolding feed hear
short-handed n h = rw (lt-ltb n 5 h)

-- every packet that is built is whole, and so is every input that reading accepts
pub built-whole : (c a : ℕ) (d : List ℕ) → Whole (packet c a d)
unfolding packet
built-whole c a d =
    let w = packet c a d in
    let l : length w ≡ length d + 9 = packet-length c a d in
    record {
      starts = both-second (leb 2 (length w)) true (le-leb 2 (length w) (omega arith));
      enough = omega arith;
      long = omega arith;
    }

pub read_whole : (s : List ℕ) (p : Parts) → read_of s ≡ given p → Whole s
read_whole s p e = let r = accepted s p e in record { starts = r.starts; enough = r.enough; long = r.long }
