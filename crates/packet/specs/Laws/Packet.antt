-- Laws of the packet: its length, what building gives, and what reading gives.
use Rattle.std.specs.Prelude.{ℕ, ◌+◌, ◌-◌, ◌*◌, ◌/◌, ◌%◌, ◌^◌, ◌≤◌, ◌<◌, true, false, not, List, [], ◌∷◌, map, ◌≡◌, refl, leb, eqb, length, get_or, take, drop}
use Rattle.std.proofs.Common.{ap, sym, ◌∙◌, div-add-mod', mod-eq_of_lt, arith, le-leb, lt-ltb, le-ltb, ltb-false, eq-eqb, eqb-true, length-append, take_at}
use Rattle.std.proofs.Math.Nat.{div-div-eq-div-mul}
use Rattle.std.proofs.lemmas.Bool.{lt-leb, not-false}
use Rattle.std.proofs.lemmas.List.{length-map}
use Rattle.basis.specs.Laws.Choice.{both-second}
use Rattle.basis.specs.Laws.Refusals.{skip, stop, done, passed}
use Rattle.basis.specs.Laws.Sums.{sum-closed}
use Rattle.basis.specs.Refusals.{refused, given, first}
use Rattle.basis.specs.Sums.{sum_of}
use Rattle.packet.specs.Laws.Table.{table-passes, table-holds, kind-counts}
use Rattle.basis.specs.Board.{data_most}
use Rattle.packet.specs.Packet.{carried_of, summed, packet, build_of, count, command, kind, joined, Parts, parts, said, starts_right, rows, tabled_of, read_of, packet_most}
use Rattle.packet.specs.Table.{erase_byte, write_byte, verify_byte, protect_byte, run_byte, listed, data_count, in_shape, table}

pub packet-length : (c a : ℕ) (d : List ℕ) → length (packet c a d) ≡ length d + 9
unfolding packet
packet-length c a d = simp (length-append, length-map) (omega arith)

-- its command stands where a reader looks for it
pub packet-command : (c a : ℕ) (d : List ℕ) → command (packet c a d) ≡ c
unfolding packet
packet-command c a d = refl

-- ---- building

module _ (room c a : ℕ) (d : List ℕ) where
  pub build-small : room < packet_most → build_of room c a d ≡ refused 20
  unfolding build_of
  build-small h = stop _ _ _ _ (lt-ltb _ _ h)

  pub build-table : packet_most ≤ room
      → build_of room c a d ≡ first (table c (length d + 5) (get_or d 0 0)) (given (packet c a d))
  unfolding build_of
  build-table h = skip _ _ _ _ (le-ltb _ _ h)

  -- what the table allows is built
  pub build-packet : packet_most ≤ room
      → listed c ≡ true
      → in_shape c (length d + 5) (get_or d 0 0) ≡ true
      → build_of room c a d ≡ given (packet c a d)
  build-packet h l s = build-table h ∙ table-passes c (length d + 5) (get_or d 0 0) (given (packet c a d)) l s

-- ---- reading

-- the data's place
pub packet-data : (c a : ℕ) (d : List ℕ) → take (length d) (drop 8 (packet c a d)) ≡ map (carried_of c) d
unfolding packet
packet-data c a d = take_at (map (carried_of c) d) _ (length d) (length-map d (carried_of c))

join : (a q₁ q₂ q₃ r₀ r₁ r₂ : ℕ) → q₁ * 256 + r₀ ≡ a → q₂ * 256 + r₁ ≡ q₁ → q₃ * 256 + r₂ ≡ q₂
    → joined q₃ r₂ r₁ r₀ ≡ a
join a q₁ q₂ q₃ r₀ r₁ r₂ e f g = omega arith

-- an address is its four bytes
address-back : (a : ℕ) → a < 2 ^ 32
    → joined (a / 16777216 % 256) (a / 65536 % 256) (a / 256 % 256) (a % 256) ≡ a
address-back a h =
    let e₁ = rw (div-div-eq-div-mul a 256 256) at (div-add-mod' (a / 256) 256) in
    let e₂ = rw (div-div-eq-div-mul a 65536 256) at (div-add-mod' (a / 65536) 256) in
    let l : a / 16777216 < 256 = omega arith in
    rw (mod-eq_of_lt l)
    (join a (a / 256) (a / 65536) (a / 16777216) (a % 256) (a / 256 % 256) (a / 65536 % 256)
    (div-add-mod' a 256) e₁ e₂)

one_byte : (c a : ℕ) (d : List ℕ) → c ≡ protect_byte → length d + 5 ≡ 6 → get_or d 0 0 ≡ kind (packet c a d)
unfolding packet
one_byte c a [] e h = absurd (omega arith)
one_byte c a (x ∷ d) e h = rw e

packet-parts : (c a : ℕ) (d : List ℕ) → a < 2 ^ 32 → parts (packet c a d) ≡ said c a d
unfolding packet
packet-parts c a d h =
    let e : joined (a / 16777216 % 256) (a / 65536 % 256) (a / 256 % 256) (a % 256) ≡ a = address-back a h in
    let m : length d + 5 - 5 ≡ length d = omega arith in
    λ i. record { command = c; address = e i; place = 8; size = m i }

data-fits : (d : List ℕ) → 0 < length d → length d ≤ data_most → data_count (length d + 5) ≡ true
data-fits d l m =
    both-second (leb 6 (length d + 5)) (leb (length d + 5) 255) (le-leb 6 (length d + 5) (omega arith))
    ∙ le-leb (length d + 5) 255 (omega arith)

-- what stands in the table reads back
pub read-packet : (c a : ℕ) (d : List ℕ) → a < 2 ^ 32 → listed c ≡ true
    → in_shape c (length d + 5) (get_or d 0 0) ≡ true
    → read_of (packet c a d) ≡ given (said c a d)
unfolding read_of rows tabled_of packet
read-packet c a d h l s =
    let w = packet c a d in
    let n : length w ≡ length d + 9 = packet-length c a d in
    skip 1 _ _ _ (ap not (both-second (leb 2 (length w)) true (le-leb 2 (length w) (omega arith))))
    ∙ skip 2 _ _ _ (lt-leb (length w) 2 (omega arith))
    ∙ skip 3 _ _ _ (le-ltb (length d + 5) 5 (omega arith))
    ∙ skip 2 _ _ _ (ap not (eq-eqb (length w) (length d + 5 + 4) (omega arith)))
    ∙ skip 4 _ _ _ (ap not (eq-eqb (sum_of (drop 2 w)) 0 (sum-closed (summed c a d))))
    ∙ done _
    ∙ table-passes c (length d + 5) (kind w) (given (parts w)) l
    (kind-counts c (length d + 5) (get_or d 0 0) (kind w) (one_byte c a d) s)
    ∙ ap given (packet-parts c a d h)

-- each of the five commands as the host sends it
module _ (a : ℕ) (h : a < 2 ^ 32) where
  pub read-erase : (n : ℕ) → read_of (packet erase_byte a (n ∷ [])) ≡ given (said erase_byte a (n ∷ []))
  read-erase n = read-packet erase_byte a (n ∷ []) h refl refl

  pub read-write : (d : List ℕ) → 0 < length d → length d ≤ data_most
      → read_of (packet write_byte a d) ≡ given (said write_byte a d)
  read-write d l m = read-packet write_byte a d h refl (data-fits d l m)

  pub read-verify : (d : List ℕ) → 0 < length d → length d ≤ data_most
      → read_of (packet verify_byte a d) ≡ given (said verify_byte a d)
  read-verify d l m = read-packet verify_byte a d h refl (data-fits d l m)

  pub read-run : read_of (packet run_byte a []) ≡ given (said run_byte a [])
  read-run = read-packet run_byte a [] h refl refl

-- what an input is that reading accepts
pub record Accepted (s : List ℕ) (p : Parts) : Type 0 where
  pub starts : starts_right s ≡ true
  pub enough : 5 ≤ count s
  pub long : length s ≡ count s + 4
  pub zero : sum_of (drop 2 s) ≡ 0
  pub command-listed : listed (command s) ≡ true
  pub shape : in_shape (command s) (count s) (kind s) ≡ true
  pub says : parts s ≡ p

pub accepted : (s : List ℕ) (p : Parts) → read_of s ≡ given p → Accepted s p
unfolding read_of rows tabled_of
accepted s p e =
    let p₁ = passed _ _ _ _ e in
    let p₂ = passed _ _ _ _ p₁.1 in
    let p₃ = passed _ _ _ _ p₂.1 in
    let p₄ = passed _ _ _ _ p₃.1 in
    let p₅ = passed _ _ _ _ p₄.1 in
    let t = table-holds (command s) (count s) (kind s) (given (parts s)) (sym (done _) ∙ p₅.1) in
    record {
      starts = not-false _ p₁.0;
      enough = ltb-false _ _ p₃.0;
      long = eqb-true _ _ (not-false _ p₄.0);
      zero = eqb-true _ _ (not-false _ p₅.0);
      command-listed = t.0;
      shape = t.1;
      says = cc t.2;
    }

-- the data lie within the input
pub data-within : (s : List ℕ) (p : Parts) → read_of s ≡ given p → p.place + p.size ≤ length s
data-within s p e =
    let r = accepted s p e in
    let a : p.place ≡ 8 = sym (ap (λ (x : Parts). x.place) r.says) in
    let b : p.size ≡ count s - 5 = sym (ap (λ (x : Parts). x.size) r.says) in
    omega arith

-- every command but V carries its data as they are
pub carried-plainly : (c : ℕ) (d : List ℕ) → eqb c verify_byte ≡ false → map (carried_of c) d ≡ d
carried-plainly c [] e = refl
carried-plainly c (x ∷ d) e = simp (e, carried-plainly c d e)
