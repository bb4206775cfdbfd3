-- Laws of a stretch of bytes: what one byte more makes of it, and where it ends.
use Rattle.std.specs.Prelude.{ℕ, suc, ◌+◌, ◌≤◌, ◌<◌, List, ◌∷◌, ◌≡◌, length, get_or, drop}
use Rattle.std.proofs.Common.{sym, ap, ◌∙◌, add_assoc, add-zero, zero-add, add-one, eq-eqb, ne_eqb, drop_of_length-le, drop-cons}
use Rattle.receiver.specs.Receiver.{byte_of, further, bytes_of}
use Rattle.receiver.specs.declared.receiver.Receiver.{Receiver}
use Rattle.receiver.specs.declared.receiver.Stretch.{Stretch}

-- nothing more comes
abbrev pub ending : Receiver → ℕ → ℕ → Stretch
ending r n k = record { receiver = r; packet = n; taken = k }

pub bytes-first : (r : Receiver) (s : List ℕ) → bytes_of r s ≡ further 0 (bytes_of r (drop 0 s))
bytes-first r s = rw (zero-add (bytes_of r s).taken)

-- its first byte completes nothing, or a packet
module _ (r : Receiver) (b : ℕ) (s : List ℕ) where
  pub first_on : (byte_of r b).packet ≡ 0 → bytes_of r (b ∷ s) ≡ further 1 (bytes_of (byte_of r b).receiver s)
  unfolding bytes_of
  first_on e = rw (eq-eqb (byte_of r b).packet 0 e)

  pub first_found : ((byte_of r b).packet ≡ 0 → ⊥)
      → bytes_of r (b ∷ s) ≡ ending (byte_of r b).receiver (byte_of r b).packet 1
  unfolding bytes_of
  first_found e = rw (ne_eqb (byte_of r b).packet 0 e)

-- at byte i of the stretch
module _ (r : Receiver) (s : List ℕ) (i : ℕ) where
  abbrev pub next_in : Receiver
  next_in = (byte_of r (get_or s i 0)).receiver

  abbrev pub handed_at : ℕ
  handed_at = (byte_of r (get_or s i 0)).packet

  abbrev rest : Stretch
  rest = bytes_of next_in (drop (i + 1) s)

  one_on : i < length s → handed_at ≡ 0 → bytes_of r (drop i s) ≡ further 1 rest
  one_on h e = rw (drop-cons s i 0 h, add-one i) (first_on r (get_or s i 0) (drop (suc i) s) e)

  one_found : i < length s → (handed_at ≡ 0 → ⊥) → bytes_of r (drop i s) ≡ ending next_in handed_at 1
  one_found h e = rw (drop-cons s i 0 h) (first_found r (get_or s i 0) (drop (suc i) s) e)

  none_left : length s ≤ i → bytes_of r (drop i s) ≡ ending r 0 0
  unfolding bytes_of
  none_left h = rw (drop_of_length-le s h)

  pub bytes_on : i < length s → handed_at ≡ 0
      → further i (bytes_of r (drop i s)) ≡ further (i + 1) (bytes_of next_in (drop (i + 1) s))
  bytes_on h e =
      ap (further i) (one_on h e)
      ∙ ap (λ (k : ℕ). ending rest.receiver rest.packet k) (sym (add_assoc i 1 rest.taken))

  pub bytes-found : i < length s → (handed_at ≡ 0 → ⊥)
      → further i (bytes_of r (drop i s)) ≡ ending next_in handed_at (i + 1)
  bytes-found h e = ap (further i) (one_found h e)

  pub bytes-ended : length s ≤ i → further i (bytes_of r (drop i s)) ≡ ending r 0 i
  bytes-ended h = ap (further i) (none_left h) ∙ rw (add-zero i)
