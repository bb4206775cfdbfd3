-- What a receiver makes of the bytes that it is fed.
use Rattle.std.specs.Prelude.{ℕ, ◌+◌, ◌≤◌, ◌<◌, Bool, true, not, List, [], ◌∷◌, ◌++◌, ◌⊎◌, ◌≡◌, eqb, ltb, length}
use Rattle.basis.specs.Choice.{pick, both}
use Rattle.packet.specs.Packet.{start_byte, next_start_byte, count, starts_right}

-- after a byte: what is gathered, and the packet that is handed on, no bytes where none is
pub record Heard : Type 0 where
  pub gathered : List ℕ
  pub packet : List ℕ

abbrev pub gathering : List ℕ → Heard
gathering g = record { gathered = g; packet = [] }

abbrev pub handing : List ℕ → Heard
handing s = record { gathered = []; packet = s }

-- the hunt: 07 may begin a start, any other byte is dropped
abbrev pub hunted : ℕ → List ℕ
hunted b = pick (eqb b start_byte) (b ∷ []) []

-- a byte after what is gathered. After 07 comes 0E, or a second 07 that may itself begin the start; after
-- 07 0E comes N, of which one below 5 is handed on at once as the three bytes gathered; then N + 4 bytes in
-- all. More than these no hunt gathers: it is dropped
unfoldable pub hear : List ℕ → ℕ → Heard
hear [] b = gathering (hunted b)
hear (x ∷ []) b = gathering (pick (eqb b next_start_byte) (x ∷ b ∷ []) (hunted b))
hear (x ∷ y ∷ []) b = pick (ltb b 5) (handing (x ∷ y ∷ b ∷ [])) (gathering (x ∷ y ∷ b ∷ []))
hear (x ∷ y ∷ n ∷ s) b =
    pick (ltb (length s + 4) (n + 4)) (gathering (x ∷ y ∷ n ∷ s ++ (b ∷ [])))
    (pick (eqb (length s + 4) (n + 4)) (handing (x ∷ y ∷ n ∷ s ++ (b ∷ [])))
    (gathering (hunted b)))

-- after bytes in their order: what is gathered at the end, and what was handed on at each byte
pub record Fed : Type 0 where
  pub gathered : List ℕ
  pub handed : List (List ℕ)

unfoldable pub feed : List ℕ → List ℕ → Fed
feed g [] = record { gathered = g; handed = [] }
feed g (b ∷ s) =
    let h = hear g b in
    let r = feed h.gathered s in
    record { gathered = r.gathered; handed = h.packet ∷ r.handed }

-- rubbish: no 07 is directly followed by 0E
unfoldable pub rubbish : List ℕ → Bool
rubbish [] = true
rubbish (x ∷ []) = true
rubbish (x ∷ y ∷ s) = both (not (both (eqb x start_byte) (eqb y next_start_byte))) (rubbish (y ∷ s))

-- 07 0E, N of at least 5, and N + 4 bytes in all
pub record Whole (s : List ℕ) : Type 0 where
  pub starts : starts_right s ≡ true
  pub enough : 5 ≤ count s
  pub long : length s ≡ count s + 4

-- 07 0E and a count below 5
pub record Short (s : List ℕ) : Type 0 where
  pub starts : starts_right s ≡ true
  pub few : count s < 5
  pub three : length s ≡ 3

-- what a hunt hands on
abbrev pub Handed : List ℕ → Type 0
Handed s = Whole s ⊎ Short s
