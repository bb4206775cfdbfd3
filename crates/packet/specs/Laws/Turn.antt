-- Turning moves the bits as the paper has it; turning and turning back undo each other.
use Rattle.std.specs.Prelude.{ℕ, suc, ◌+◌, ◌/◌, ◌%◌, ◌^◌, ◌<◌, Bool, List, [], ◌∷◌, map, ◌≡◌, refl, eqb}
use Rattle.std.proofs.Common.{ap, eqb→eq, lit<}
use Rattle.basis.specs.Bits.{bit}
use Rattle.basis.specs.Laws.Computed.{all_below, one_of, agree}
use Rattle.basis.specs.Lists.{Bytes}
use Rattle.packet.specs.Turn.{turned_of, restored_of}

-- bit k of a turned byte, computed over the 256 bytes
turned_bit : (b : ℕ) → b < 256 → (k : ℕ) → k < 8 → bit (turned_of b) k ≡ bit b ((k + 5) % 8)
turned_bit b h k l =
    let same : ℕ → ℕ → Bool = λ x j. eqb (turned_of x / 2 ^ j % 2) (x / 2 ^ ((j + 5) % 8) % 2) in
    let t = one_of (λ (x : ℕ). all_below (same x) 8) 256 tt b h in
    ap (λ (n : ℕ). eqb n 1)
    (eqb→eq (turned_of b / 2 ^ k % 2) (b / 2 ^ ((k + 5) % 8) % 2) (one_of (same b) 8 t k l))

-- the eight bits sent, from the top, are original bits 4 3 2 1 0 7 6 5
pub turned-bits : (b : ℕ) → b < 256
    → map (bit (turned_of b)) (7 ∷ 6 ∷ 5 ∷ 4 ∷ 3 ∷ 2 ∷ 1 ∷ 0 ∷ [])
    ≡ map (bit b) (4 ∷ 3 ∷ 2 ∷ 1 ∷ 0 ∷ 7 ∷ 6 ∷ 5 ∷ [])
turned-bits b h =
    let m = turned_bit b h in
    λ i. m 7 (lit< tt) i ∷ m 6 (lit< tt) i ∷ m 5 (lit< tt) i ∷ m 4 (lit< tt) i
    ∷ m 3 (lit< tt) i ∷ m 2 (lit< tt) i ∷ m 1 (lit< tt) i ∷ m 0 (lit< tt) i ∷ []

pub restored-turned : (b : ℕ) → b < 256 → restored_of (turned_of b) ≡ b
restored-turned b h = agree (λ (x : ℕ). restored_of (turned_of x)) (λ (x : ℕ). x) 256 tt b h

pub turned-restored : (t : ℕ) → t < 256 → turned_of (restored_of t) ≡ t
turned-restored t h = agree (λ (x : ℕ). turned_of (restored_of x)) (λ (x : ℕ). x) 256 tt t h

-- and so do lists of bytes
pub undone : (f g : ℕ → ℕ) → ((b : ℕ) → b < 256 → f (g b) ≡ b) → (s : List ℕ) → Bytes s → map f (map g s) ≡ s
undone f g e [] h = refl
undone f g e (b ∷ s) h = rw (e b (h 0), undone f g e s (λ k. h (suc k)))
