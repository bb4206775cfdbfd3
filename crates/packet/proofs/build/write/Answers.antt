-- `write` meets its contract: front, data and checksum follow one another.
use Rattle.std.proofs.lemmas.List.{length-map}
use Rattle.std.proofs.Common.{ℕ, ◌+◌, ◌-◌, ◌<◌, List, ◌++◌, map, ◌≡◌, refl, ap, ◌∙◌, arith, length, take, drop, set, take_at}
use borrow.Rule.Slice.PartMut.{put_mid}
use Rattle.basis.specs.Laws.Lists.{overlay-part, overlay-next}
use Rattle.basis.specs.Lists.{overlay}
use Rattle.basis.specs.Sums.{checksum_of}
use Rattle.packet.specs.Packet.{front_of, carried_of, summed, packet}
use Rattle.packet.specs.Paper.{paper_command}
use Rattle.packet.proofs.build.write.Goals as goal

-- a buffer F with the front written, its part P behind the front with the data, and the checksum x of what
-- stands from N on
module _ (c a : ℕ) (d old F P : List ℕ) (e_f : F ≡ overlay (front_of (length d + 5) c a) old)
    (e_p : P ≡ overlay (map (carried_of c) d) (take (length F - 8) (drop 8 F))) where
  closed : (x : ℕ) → x ≡ checksum_of (take (8 + length d - 2) (drop 2 (put_mid 8 (length F - 8) F P)))
      → 8 + length d < length old
      → set (put_mid 8 (length F - 8) F P) (8 + length d) x ≡ overlay (packet c a d) old
  unfolding packet
  closed x e h =
      let f = front_of (length d + 5) c a in
      let s = map (carried_of c) d in
      let t = summed c a d in
      let m : length t ≡ 8 + length d - 2 = simp length-map (omega arith) in
      let k : length (f ++ s) ≡ 8 + length d = simp length-map (omega arith) in
      let w : put_mid 8 (length F - 8) F P ≡ overlay (f ++ s) old = overlay-part f s old F P 8 refl e_f e_p in
      let y : x ≡ checksum_of t = e ∙ ap checksum_of (rw w (take_at t _ (8 + length d - 2) m)) in
      rw (w, y) (overlay-next (f ++ s) old (8 + length d) (checksum_of t) k h)

pub returns : goal.returns
returns c =
    let a = c.args in
    let x : ℕ = c.checksum.result in record {
      length = omega arith;
      bytes =
          closed (paper_command a.command) a.address.0 a.plain.now a.buffer.now c.front.new.buffer c.fill.new.part
          c.front.ensures c.fill.ensures x c.checksum.ensures (omega arith);
    }
