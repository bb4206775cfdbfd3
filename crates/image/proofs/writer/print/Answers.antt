-- `print` meets its contract: colon, head, bytes, checksum and 0A are written one behind the other.
use Rattle.std.proofs.Common.{◌≡◌, ℕ, ◌+◌, ◌-◌, ◌*◌, ◌/◌, ◌%◌, ◌≤◌, List, [], ◌∷◌, ◌++◌, length, set, sym, refl, ap, ◌∙◌, arith, length-append}
use Rattle.basis.specs.Lists.{overlay, copy_of}
use Rattle.basis.specs.Sums.{sum_of, checksum_of}
use Rattle.basis.specs.Laws.Lists.{overlay-next, copy-overlay}
use Rattle.basis.specs.Laws.Sums.{sum-append}
use Rattle.image.specs.Writer.{spelt, content, text, record_room}
use Rattle.image.specs.Laws.Writer.{length-spelt, spelt-append}
use Rattle.image.specs.Paper.{paper_kind}
use Rattle.image.proofs.Halves.{two-bytes}
use Rattle.image.proofs.writer.print.Goals as goal

-- the sum of two parts makes the checksum of the whole
checksum-parts : (s t : List ℕ) (x : ℕ) → x ≡ (sum_of s + sum_of t) % 256
    → (256 - x) % 256 ≡ checksum_of (s ++ t)
checksum-parts s t x e = rw (e, sum-append s t)

module _ (address kind : ℕ) (s old : List ℕ) (few : length s ≤ 16) (room : record_room ≤ length old) where
  abbrev head : List ℕ
  head = length s ∷ address / 256 ∷ address % 256 ∷ kind ∷ []

  text-length : length (text address kind s) ≡ 9 + 2 * length s + 3
  unfolding text
  text-length = simp (length-append, length-spelt) (omega arith)

  -- colon, head, bytes, checksum and 0A, one behind the other
  print-done : (x : ℕ) (b c d : List ℕ) → x ≡ checksum_of (content address kind s)
      → b ≡ copy_of (set old 0 0x3A) 1 (spelt head) → c ≡ copy_of b 9 (spelt s)
      → d ≡ copy_of c (9 + 2 * length s) (spelt (x ∷ []))
      → set d (9 + 2 * length s + 2) 0x0A ≡ overlay (text address kind s) old
  unfolding text
  print-done x b c d ex eb ec ed =
      let w : List ℕ = 0x3A ∷ spelt head in
      let v : List ℕ = w ++ spelt s in
      let u : List ℕ = v ++ spelt (x ∷ []) in
      let lh = length-spelt head in
      let ls = length-spelt s in
      let lx = length-spelt (x ∷ []) in
      let lw : length w ≡ 9 = omega (arith, lh) in
      let lv : length v ≡ 9 + 2 * length s = omega (arith, length-append w (spelt s)) in
      let lu : length u ≡ 9 + 2 * length s + 2 = omega (arith, length-append v (spelt (x ∷ []))) in
      let rb : b ≡ overlay w old =
      eb ∙ ap (λ (l : List ℕ). copy_of l 1 (spelt head)) (overlay-next [] old 0 0x3A refl (omega arith))
      ∙ copy-overlay (0x3A ∷ []) old (spelt head) 1 refl (omega arith) in
      let rc : c ≡ overlay v old = ec ∙ ap (λ (l : List ℕ). copy_of l 9 (spelt s)) rb
      ∙ copy-overlay w old (spelt s) 9 lw (omega arith) in
      let rd : d ≡ overlay u old =
      ed ∙ ap (λ (l : List ℕ). copy_of l (9 + 2 * length s) (spelt (x ∷ []))) rc
      ∙ copy-overlay v old (spelt (x ∷ [])) (9 + 2 * length s) lv (omega arith) in
      let t : u ≡ 0x3A ∷ spelt (content address kind s ++ (x ∷ [])) =
      sym (ap (λ (l : List ℕ). 0x3A ∷ l)
      (spelt-append (content address kind s) (x ∷ [])
      ∙ ap (λ (l : List ℕ). l ++ spelt (x ∷ [])) (spelt-append head s))) in
      ap (λ (l : List ℕ). set l (9 + 2 * length s + 2) 0x0A) rd
      ∙ overlay-next u old (9 + 2 * length s + 2) 0x0A lu (omega arith)
      ∙ ap (λ (l : List ℕ). overlay (l ++ (0x0A ∷ [])) old)
      (t ∙ ap (λ (y : ℕ). 0x3A ∷ spelt (content address kind s ++ (y ∷ []))) ex)

pub returns : goal.returns
returns c =
    let pre = c.requires in
    let a = c.args in
    let k : ℕ = paper_kind a.kind in
    let s = a.bytes.now in
    let old = a.buffer.now in
    let e : c.to_be_bytes.result ≡ a.address / 256 ∷ a.address % 256 ∷ [] =
    c.to_be_bytes.ensures ∙ two-bytes a.address c.ranges.address.fits in
    let first = rw (e, c.from.ensures) at c.sum.ensures in
    let spelt_head = rw (e, c.from.ensures) at c.spell.ensures in
    let sums = checksum-parts (head a.address k s old pre.few pre.room) s _
    (rw (first, c.sum-2.ensures) refl) in record {
      length = sym (text-length a.address k s old pre.few pre.room);
      buffer = print-done a.address k s old pre.few pre.room _ _ _ _
          (c.complement.ensures ∙ sums) spelt_head c.spell-2.ensures c.spell-3.ensures;
    }
