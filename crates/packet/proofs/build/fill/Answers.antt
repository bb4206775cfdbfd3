-- `fill` meets its contract: the bytes written so far are the first of those to be carried.
use Rattle.std.proofs.Common.{ℕ, ◌<◌, map, length, arith, length-set}
use Rattle.std.proofs.Math.ListN.{length-map, get_or-map}
use Rattle.basis.specs.Laws.Lists.{overlay-more}
use Rattle.packet.specs.Packet.{carried_of}
use Rattle.packet.specs.Paper.{paper_command}
use Rattle.packet.proofs.build.fill.Goals as goal

pub loop-i-preserved : goal.loop-i-preserved
loop-i-preserved c =
    let a = c.args in
    let i : ℕ = c.loop-i.i in
    let f = carried_of (paper_command a.command) in
    let new = map f a.plain.now in
    let h : i < length new = simp length-map (omega arith) in
    let k : i < length a.part.now = omega arith in (
      simp length-set c.loop-i.invariant.0,
      cc (overlay-more new a.part.now i (f 0) h k, get_or-map f a.plain.now i 0),
    )
