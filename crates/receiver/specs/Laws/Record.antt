-- The record after a byte holds what was heard, whatever stood in it.
use Rattle.std.specs.Prelude.{ℕ, ◌+◌, Bool, true, false, List, [], ◌∷◌, ◌++◌, ◌⊎◌, ◌≡◌, refl, eqb, ltb, length, take}
use Rattle.std.proofs.Common.{append_assoc, inl, inr, ap, ◌∙◌, arith, take_at}
use Rattle.basis.specs.Choice.{pick}
use Rattle.receiver.specs.Hearing.{Heard, gathering, handing, hunted, hear}
use Rattle.receiver.specs.Receiver.{gathered, stored, packet_in, byte_of}
use Rattle.receiver.specs.declared.receiver.Receiver.{Receiver}

-- a byte leaves bytes gathered, or a packet handed on and the receiver hunting: never both
abbrev pub Hunting : Heard → Type 0
Hunting h = (h.packet ≡ []) ⊎ (h.gathered ≡ [])

-- after a packet or a short count the receiver hunts
pub hunts-again : (g : List ℕ) (b : ℕ) → Hunting (hear g b)
unfolding hear
hunts-again [] b = inl refl
hunts-again (x ∷ []) b = inl refl
hunts-again (x ∷ y ∷ []) b = go (ltb b 5)
  where
    go : (t : Bool) → Hunting (pick t (handing (x ∷ y ∷ b ∷ [])) (gathering (x ∷ y ∷ b ∷ [])))
    go true = inr refl
    go false = inl refl
hunts-again (x ∷ y ∷ n ∷ s) b =
    go (x ∷ y ∷ n ∷ s ++ (b ∷ [])) (ltb (length s + 4) (n + 4)) (eqb (length s + 4) (n + 4))
  where
    go : (all : List ℕ) (t u : Bool)
        → Hunting (pick t (gathering all) (pick u (handing all) (gathering (hunted b))))
    go all true u = inl refl
    go all false true = inr refl
    go all false false = inl refl

-- a list of no length has no bytes
pub no_bytes : (s : List ℕ) → length s ≡ 0 → s ≡ []
no_bytes [] e = refl
no_bytes (x ∷ s) e = absurd (omega arith)

-- the packet stands at the start
pub byte-packet : (r : Receiver) (b : ℕ)
    → packet_in (byte_of r b).receiver (byte_of r b).packet ≡ (hear (gathered r) b).packet
byte-packet r b = let h = hear (gathered r) b in
    ap (take (length h.packet)) (append_assoc h.packet h.gathered _) ∙ take_at h.packet _ _ refl

-- and so does what is gathered
stands : (r : Receiver) (h : Heard) → Hunting h → gathered (stored r h) ≡ h.gathered
stands r h (inl e) = rw e (take_at h.gathered _ _ refl)
stands r h (inr e) = rw e

pub byte-gathered : (r : Receiver) (b : ℕ) → gathered (byte_of r b).receiver ≡ (hear (gathered r) b).gathered
byte-gathered r b = stands r (hear (gathered r) b) (hunts-again (gathered r) b)
