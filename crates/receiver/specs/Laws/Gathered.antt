-- What one byte does to a receiver's record, which has room for the longest packet: one law for each way.
use Rattle.std.specs.Prelude.{ℕ, ◌+◌, ◌≤◌, ◌<◌, List, [], ◌∷◌, ◌++◌, ◌≡◌, length, set, take}
use Rattle.std.proofs.Common.{append-nil, sym, ap, ◌∙◌, arith, length-append, length-take, take-append-drop, get_or-take, length-take-le}
use Rattle.basis.specs.Laws.Lists.{overlay-next}
use Rattle.basis.specs.Lists.{overlay}
use Rattle.packet.specs.Packet.{next_start_byte, count, packet_most}
use Rattle.receiver.specs.Hearing.{gathering, handing, hunted}
use Rattle.receiver.specs.Laws.Hearing.{hear-none, hear-next, hear-other, hear-few, hear-count, hear-on, hear-last, hear-past}
use Rattle.receiver.specs.Receiver.{gathered, stored, received_of, keeping, giving, byte_of}
use Rattle.receiver.specs.declared.receiver.Receiver.{Receiver}

-- one byte more behind what is gathered
pub gathers : (s : List ℕ) (n b : ℕ) → n < length s
    → set s n b ≡ overlay (take n s ++ (b ∷ [])) s
gathers s n b h =
    let l : length (take n s) ≡ n = length-take-le n s (omega arith) in
    let e : overlay (take n s) s ≡ s = rw l (take-append-drop n s) in
    sym (ap (λ (t : List ℕ). set t n b) e) ∙ overlay-next (take n s) s n b l h

module _ (r : Receiver) (b : ℕ) where
  -- the record when the byte is hunted, and when it is gathered
  abbrev pub hunted_in : Receiver
  hunted_in = stored r (gathering (hunted b))

  abbrev pub gathered_in : Receiver
  gathered_in = stored r (gathering (gathered r ++ (b ∷ [])))

  pub gathers-in : r.len < length r.bytes
      → ◌≡◌ {A = Receiver} (record { bytes = set r.bytes r.len b; len = r.len + 1 }) gathered_in
  gathers-in h =
      let l : length (gathered r) ≡ r.len = length-take-le r.len r.bytes (omega arith) in
      rw (gathers r.bytes r.len b h, length-append (gathered r) (b ∷ []), l)

  -- what the gathered bytes come to, handed on
  hands : received_of r (handing (gathered r ++ (b ∷ []))) ≡ giving gathered_in
  hands = rw (append-nil (gathered r ++ (b ∷ [])))

  module _ (room : length r.bytes ≡ packet_most) where
    pub at_none : r.len ≡ 0 → byte_of r b ≡ keeping hunted_in
    at_none h = ap (received_of r) (hear-none (gathered r) b (omega (arith, length-take r.len r.bytes)))

    pub at_next : r.len ≡ 1 → b ≡ next_start_byte → byte_of r b ≡ keeping gathered_in
    at_next h e =
        ap (received_of r) (hear-next (gathered r) b (omega (arith, length-take r.len r.bytes)) e)

    pub at_other : r.len ≡ 1 → (b ≡ next_start_byte → ⊥) → byte_of r b ≡ keeping hunted_in
    at_other h e =
        ap (received_of r) (hear-other (gathered r) b (omega (arith, length-take r.len r.bytes)) e)

    pub at-few : r.len ≡ 2 → b < 5 → byte_of r b ≡ giving gathered_in
    at-few h l =
        ap (received_of r) (hear-few (gathered r) b (omega (arith, length-take r.len r.bytes)) l)
        ∙ hands

    pub at_count : r.len ≡ 2 → 5 ≤ b → byte_of r b ≡ keeping gathered_in
    at_count h l =
        ap (received_of r) (hear-count (gathered r) b (omega (arith, length-take r.len r.bytes)) l)

    module _ (more : 3 ≤ r.len) (fits : count r.bytes < 256) where
      same_count : count (gathered r) ≡ count r.bytes
      same_count = get_or-take r.len r.bytes 2 0 (omega arith)

      pub at_on : r.len < count r.bytes + 3 → byte_of r b ≡ keeping gathered_in
      at_on h =
          let e : length (gathered r) ≡ r.len = omega (arith, length-take r.len r.bytes) in
          ap (received_of r) (hear-on (gathered r) b (omega arith) (omega (arith, same_count)))

      pub at-last : r.len ≡ count r.bytes + 3 → byte_of r b ≡ giving gathered_in
      at-last h =
          let e : length (gathered r) ≡ r.len = omega (arith, length-take r.len r.bytes) in
          ap (received_of r) (hear-last (gathered r) b (omega arith) (omega (arith, same_count)))
          ∙ hands

      pub at-past : count r.bytes + 3 < r.len → byte_of r b ≡ keeping hunted_in
      at-past h =
          ap (received_of r)
          (hear-past (gathered r) b (omega (arith, length-take r.len r.bytes))
          (omega (arith, length-take r.len r.bytes, same_count)))
