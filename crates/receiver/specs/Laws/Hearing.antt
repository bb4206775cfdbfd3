-- Laws of hearing: one for each way that one byte goes, told by how much is gathered.
use Rattle.std.specs.Prelude.{ℕ, ◌+◌, ◌≤◌, ◌<◌, List, [], ◌∷◌, ◌++◌, ◌≡◌, refl, length}
use Rattle.std.proofs.Common.{arith, eq-eqb, ne_eqb, lt-ltb, le-ltb}
use Rattle.packet.specs.Packet.{next_start_byte, count}
use Rattle.receiver.specs.Hearing.{gathering, handing, hunted, hear}

pub hear-none : (g : List ℕ) (b : ℕ) → length g ≡ 0 → hear g b ≡ gathering (hunted b)
unfolding hear
hear-none [] b h = refl
hear-none (x ∷ g) b h = absurd (omega arith)

pub hear-next : (g : List ℕ) (b : ℕ) → length g ≡ 1 → b ≡ next_start_byte
    → hear g b ≡ gathering (g ++ (b ∷ []))
unfolding hear
hear-next [] b h e = absurd (omega arith)
hear-next (x ∷ []) b h e = simp (eq-eqb b next_start_byte e)
hear-next (x ∷ y ∷ g) b h e = absurd (omega arith)

pub hear-other : (g : List ℕ) (b : ℕ) → length g ≡ 1 → (b ≡ next_start_byte → ⊥)
    → hear g b ≡ gathering (hunted b)
unfolding hear
hear-other [] b h e = absurd (omega arith)
hear-other (x ∷ []) b h e = simp (ne_eqb b next_start_byte e)
hear-other (x ∷ y ∷ g) b h e = absurd (omega arith)

pub hear-few : (g : List ℕ) (b : ℕ) → length g ≡ 2 → b < 5 → hear g b ≡ handing (g ++ (b ∷ []))
unfolding hear
hear-few [] b h l = absurd (omega arith)
hear-few (x ∷ []) b h l = absurd (omega arith)
hear-few (x ∷ y ∷ []) b h l = simp (lt-ltb b 5 l)
hear-few (x ∷ y ∷ n ∷ g) b h l = absurd (omega arith)

pub hear-count : (g : List ℕ) (b : ℕ) → length g ≡ 2 → 5 ≤ b → hear g b ≡ gathering (g ++ (b ∷ []))
unfolding hear
hear-count [] b h l = absurd (omega arith)
hear-count (x ∷ []) b h l = absurd (omega arith)
hear-count (x ∷ y ∷ []) b h l = simp (le-ltb b 5 l)
hear-count (x ∷ y ∷ n ∷ g) b h l = absurd (omega arith)

pub hear-on : (g : List ℕ) (b : ℕ) → 3 ≤ length g → length g < count g + 3
    → hear g b ≡ gathering (g ++ (b ∷ []))
unfolding hear
hear-on [] b h l = absurd (omega arith)
hear-on (x ∷ []) b h l = absurd (omega arith)
hear-on (x ∷ y ∷ []) b h l = absurd (omega arith)
hear-on (x ∷ y ∷ n ∷ g) b h l = simp (lt-ltb (length g + 4) (n + 4) (omega arith))

pub hear-last : (g : List ℕ) (b : ℕ) → 3 ≤ length g → length g ≡ count g + 3
    → hear g b ≡ handing (g ++ (b ∷ []))
unfolding hear
hear-last [] b h l = absurd (omega arith)
hear-last (x ∷ []) b h l = absurd (omega arith)
hear-last (x ∷ y ∷ []) b h l = absurd (omega arith)
hear-last (x ∷ y ∷ n ∷ g) b h l =
    simp (le-ltb (length g + 4) (n + 4) (omega arith), eq-eqb (length g + 4) (n + 4) (omega arith))

-- what no hunt gathers
pub hear-past : (g : List ℕ) (b : ℕ) → 3 ≤ length g → count g + 3 < length g → hear g b ≡ gathering (hunted b)
unfolding hear
hear-past [] b h l = absurd (omega arith)
hear-past (x ∷ []) b h l = absurd (omega arith)
hear-past (x ∷ y ∷ []) b h l = absurd (omega arith)
hear-past (x ∷ y ∷ n ∷ g) b h l =
    simp (le-ltb (length g + 4) (n + 4) (omega arith), ne_eqb (length g + 4) (n + 4) (λ e. omega arith))
