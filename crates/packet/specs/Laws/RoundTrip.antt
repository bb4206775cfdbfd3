-- What the builder accepts, the reader reads back; what the reader accepts is what the builder writes.
use Rattle.std.specs.Prelude.{Bool, true, false, ◌≡◌, refl, leb, ltb, eqb, take, drop}
use Rattle.std.proofs.Math.Path.{ap, sym}
use Rattle.std.proofs.Common.{◌∙◌, arith, take_all, get_or-drop, ℕ, suc, ◌+◌, ◌-◌, ◌/◌, ◌%◌, ◌^◌, ◌≤◌, ◌<◌, List, [], ◌∷◌, ◌++◌, map, eqb-true}
use Rattle.std.proofs.Math.ListN.{length, get_or, length-drop, length-map}
use Rattle.std.proofs.Math.Seq.{take-suc, length-take-le}
use Rattle.basis.specs.Choice.{pick}
use Rattle.basis.specs.Laws.Choice.{both_true}
use Rattle.basis.specs.Laws.Lists.{bytes_take, bytes_drop}
use Rattle.basis.specs.Laws.Refusals.{passed}
use Rattle.basis.specs.Laws.Sums.{checksum-only}
use Rattle.basis.specs.Lists.{Bytes}
use Rattle.basis.specs.Refusals.{given}
use Rattle.basis.specs.Sums.{sum_of, checksum_of}
use Rattle.packet.specs.Laws.Packet.{packet-data, build-packet, read-packet, Accepted, accepted}
use Rattle.packet.specs.Laws.Table.{table-holds, kind-counts}
use Rattle.packet.specs.Laws.Turn.{restored-turned, turned-restored, undone}
use Rattle.packet.specs.Packet.{start_byte, next_start_byte, address_bytes, carried_of, plain, summed, packet, build_of, count, command, kind, joined, address, Parts, parts, said, plain_data, read_of, packet_most}
use Rattle.packet.specs.Table.{verify_byte, protect_byte, in_shape}
use Rattle.packet.specs.Turn.{turned_of, restored_of}

-- a byte and its carried form give each other back
plain_carried : (c b : ℕ) → b < 256 → plain c (carried_of c b) ≡ b
plain_carried c b h = go (eqb c verify_byte)
  where
    go : (t : Bool) → pick t (restored_of (pick t (turned_of b) b)) (pick t (turned_of b) b) ≡ b
    go true = restored-turned b h
    go false = refl

carried-plain : (c b : ℕ) → b < 256 → carried_of c (plain c b) ≡ b
carried-plain c b h = go (eqb c verify_byte)
  where
    go : (t : Bool) → pick t (turned_of (pick t (restored_of b) b)) (pick t (restored_of b) b) ≡ b
    go true = turned-restored b h
    go false = refl

-- what the builder accepts, the reader reads back to the same command, address and data
pub read-built : (room c a : ℕ) (d s : List ℕ) → Bytes d → a < 2 ^ 32 → build_of room c a d ≡ given s
    → (read_of s ≡ given (said c a d)) × (plain_data (said c a d) s ≡ d)
unfolding build_of
read-built room c a d s b h e =
    let p = passed 20 (ltb room packet_most) _ _ e in
    let t = table-holds c (length d + 5) (get_or d 0 0) (given (packet c a d)) p.1 in
    let q : packet c a d ≡ s = cc t.2 in
    rw (← q) (
      read-packet c a d h t.0 t.1,
      rw packet-data (undone (plain c) (carried_of c) (plain_carried c) d b),
    )

-- four bytes joined are those bytes again
bytes_back : (a b c d : ℕ) → a < 256 → b < 256 → c < 256 → d < 256
    → address_bytes (joined a b c d) ≡ a ∷ b ∷ c ∷ d ∷ []
bytes_back a b c d ha hb hc hd =
    let x = joined a b c d in
    let e₁ : x / 16777216 % 256 ≡ a = omega arith in
    let e₂ : x / 65536 % 256 ≡ b = omega arith in
    let e₃ : x / 256 % 256 ≡ c = omega arith in
    let e₄ : x % 256 ≡ d = omega arith in
    λ i. e₁ i ∷ e₂ i ∷ e₃ i ∷ e₄ i ∷ []

-- the eight bytes before the data
eight : (s : List ℕ) → 8 ≤ length s
    → s
    ≡ get_or s 0 0 ∷ get_or s 1 0 ∷ count s ∷ command s
    ∷ get_or s 4 0 ∷ get_or s 5 0 ∷ get_or s 6 0 ∷ get_or s 7 0 ∷ drop 8 s
eight [] h = absurd (omega arith)
eight (a ∷ []) h = absurd (omega arith)
eight (a ∷ b ∷ []) h = absurd (omega arith)
eight (a ∷ b ∷ c ∷ []) h = absurd (omega arith)
eight (a ∷ b ∷ c ∷ d ∷ []) h = absurd (omega arith)
eight (a ∷ b ∷ c ∷ d ∷ e ∷ []) h = absurd (omega arith)
eight (a ∷ b ∷ c ∷ d ∷ e ∷ f ∷ []) h = absurd (omega arith)
eight (a ∷ b ∷ c ∷ d ∷ e ∷ f ∷ g ∷ []) h = absurd (omega arith)
eight (a ∷ b ∷ c ∷ d ∷ e ∷ f ∷ g ∷ i ∷ s) h = refl

-- an accepted input, taken apart
module _ (s : List ℕ) (p : Parts) (b : Bytes s) (r : Accepted s p) where
  -- the data as they are carried, and plain
  body : List ℕ
  body = take (count s - 5) (drop 8 s)

  body-length : length body ≡ count s - 5
  unfolding body
  body-length = length-take-le (count s - 5) (drop 8 s) (simp length-drop (omega arith))

  body-plain : map (carried_of (command s)) (plain_data (parts s) s) ≡ body
  unfolding body
  body-plain =
      undone (carried_of (command s)) (plain (command s)) (carried-plain (command s)) body
      (bytes_take (count s - 5) (drop 8 s) (bytes_drop 8 s b))

  data-length : length (plain_data (parts s) s) + 5 ≡ count s
  unfolding body
  data-length = simp length-map (omega (arith, body-length))

  -- the last byte
  last : ℕ
  last = get_or (drop 8 s) (count s - 5) 0

  body-last : drop 8 s ≡ body ++ (last ∷ [])
  unfolding body last
  body-last =
      let n : length (drop 8 s) ≡ suc (count s - 5) = simp length-drop (omega arith) in
      sym (take_all (suc (count s - 5)) (drop 8 s) (omega arith))
      ∙ take-suc (drop 8 s) (count s - 5) 0 (omega arith)

  -- all but the start bytes and the checksum
  middle : List ℕ
  middle = count s ∷ command s ∷ get_or s 4 0 ∷ get_or s 5 0 ∷ get_or s 6 0 ∷ get_or s 7 0 ∷ body

  middle-summed : summed (command s) (address s) (plain_data (parts s) s) ≡ middle
  unfolding middle
  middle-summed =
      let f = bytes_back (get_or s 4 0) (get_or s 5 0) (get_or s 6 0) (get_or s 7 0) (b 4) (b 5) (b 6)
      (b 7) in
      λ i. data-length i ∷ command s ∷ (f i ++ body-plain i)

  in_order : s ≡ start_byte ∷ next_start_byte ∷ middle ++ (last ∷ [])
  unfolding middle
  in_order =
      let h = both_true (leb 2 (length s)) _ r.starts in
      let g = both_true (eqb (get_or s 0 0) start_byte) (eqb (get_or s 1 0) next_start_byte) h.1 in
      let e₀ = eqb-true (get_or s 0 0) start_byte g.0 in
      let e₁ = eqb-true (get_or s 1 0) next_start_byte g.1 in
      eight s (omega arith)
      ∙ λ i. e₀ i ∷ e₁ i ∷ count s ∷ command s
      ∷ get_or s 4 0 ∷ get_or s 5 0 ∷ get_or s 6 0 ∷ get_or s 7 0 ∷ body-last i

  last-checksum : last ≡ checksum_of middle
  unfolding last
  last-checksum =
      checksum-only middle last (bytes_drop 8 s b (count s - 5))
      (sym (ap (λ (l : List ℕ). sum_of (drop 2 l)) in_order) ∙ r.zero)

  whole : packet (command s) (address s) (plain_data (parts s) s) ≡ s
  unfolding packet
  whole =
      ap (λ (l : List ℕ). start_byte ∷ next_start_byte ∷ l ++ (checksum_of l ∷ [])) middle-summed
      ∙ ap (λ (x : ℕ). start_byte ∷ next_start_byte ∷ middle ++ (x ∷ [])) (sym last-checksum)
      ∙ sym in_order

-- the byte after the address is P's type
one_plain : (c n : ℕ) (l : List ℕ) → c ≡ protect_byte → n ≡ 6
    → get_or l 0 0 ≡ get_or (map (plain c) (take (n - 5) l)) 0 0
one_plain c n [] ec en = rw (ec, en)
one_plain c n (x ∷ l) ec en = rw (ec, en)

-- what the reader accepts is, byte for byte, what the builder writes for what it names
pub built-read : (room : ℕ) (s : List ℕ) (p : Parts) → Bytes s → packet_most ≤ room → read_of s ≡ given p
    → build_of room p.command p.address (plain_data p s) ≡ given s
built-read room s p b h e =
    let r = accepted s p e in
    let c = command s in
    let d = plain_data (parts s) s in
    let t : in_shape c (length d + 5) (get_or d 0 0) ≡ true =
    rw (data-length s p b r)
    (kind-counts c (count s) (kind s) (get_or d 0 0)
    (λ ec en. sym (get_or-drop 8 s 0 0) ∙ one_plain c (count s) (drop 8 s) ec en) r.shape) in
    rw (← r.says)
    (build-packet room c (address s) d h r.command-listed t ∙ ap given (whole s p b r))
