-- What each turn of `drive` keeps, and what falls.
use Rattle.std.proofs.Common.{◌+◌, ◌-◌, ◌≤◌, ◌≡◌, length}
use Rattle.basis.specs.Board.{pages_of}
use Rattle.basis.specs.Units.{start_of}
use Rattle.line.specs.Line.{loss_at, moment_at, moment_on}
use Rattle.order.specs.Plan.{total}
use Rattle.packet.specs.Packet.{packet_most}
use Rattle.line.proofs.rehearse.drive.Given as goal

abbrev pub invariant-loop-file : goal.invariant-loop-file
invariant-loop-file l =
    let b = pages_of l.file.map.board in
    (length l.flash ≡ start_of b) × (length l.packet ≡ packet_most)
    × (l.link.len ≤ packet_most) × (l.i ≤ total b l.file.map.bits.now l.initial.link.session.kind + 1)
    × (moment_on l.link l.flash l.packet ≡ moment_at b l.file.image.now l.file.map.bits.now (loss_at l.losses)
    (moment_on l.initial.link l.initial.flash l.initial.packet) l.i)

abbrev pub decreases-loop-file : goal.decreases-loop-file
decreases-loop-file l =
    total (pages_of l.file.map.board) l.file.map.bits.now l.initial.link.session.kind + 2 - l.i
