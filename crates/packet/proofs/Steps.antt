-- Steps that functions of this crate share.
use Rattle.std.proofs.Common.{ℕ, ◌*◌, ◌/◌, ◌%◌, ◌^◌, ◌<◌, ◌≡◌, ap, ◌∙◌, arith, bit_or}
use Rattle.std.proofs.lemmas.Nat.{or_shifted}
use Rattle.std.specs.Int.Bits.{or_shifted_r}
use Rattle.packet.specs.Laws.Packet.{packet-length}
use Rattle.packet.specs.Turn.{turned_of, restored_of}

-- what is built has the length that the builder gives
pub ruleset built = (packet-length)

-- what is shifted out at one end stands at the other
pub turned-bits : (b : ℕ) → b < 256 → bit_or (b * 2 ^ 3 % 256) (b / 2 ^ 5) ≡ turned_of b
turned-bits b h =
    let e : b * 2 ^ 3 % 256 ≡ b % 32 * 2 ^ 3 = omega arith in
    ap (λ (x : ℕ). bit_or x (b / 2 ^ 5)) e ∙ or_shifted (b % 32) 3 (b / 2 ^ 5) (omega arith) ∙ omega arith

pub restored-bits : (t : ℕ) → t < 256 → bit_or (t / 2 ^ 3) (t * 2 ^ 5 % 256) ≡ restored_of t
restored-bits t h =
    let e : t * 2 ^ 5 % 256 ≡ t % 8 * 2 ^ 5 = omega arith in
    ap (bit_or (t / 2 ^ 3)) e ∙ or_shifted_r (t % 8) 5 (t / 2 ^ 3) (omega arith) ∙ omega arith

pub ruleset turns = (turned-bits, restored-bits)
