-- What each turn of `drive` keeps, and what falls.
use Rattle.std.proofs.Common.{◌+◌, ◌-◌, ◌*◌, ◌≤◌, ◌≡◌, length, drop}
use Rattle.basis.specs.Board.{pages_of}
use Rattle.basis.specs.Units.{start_of}
use Rattle.line.specs.Line.{loss_at}
use Rattle.noisy.specs.Noisy.{noisy_at, rubbish_at, noisy_on}
use Rattle.order.specs.Plan.{total}
use Rattle.packet.specs.Packet.{packet_most}
use Rattle.noisy.proofs.rehearse.drive.Given as goal

abbrev pub invariant-loop-rest : goal.invariant-loop-rest
invariant-loop-rest l =
    let b = pages_of l.file.map.board in
    (length l.flash ≡ start_of b) × (length l.packet ≡ packet_most)
    × (l.link.len ≤ packet_most)
    × (l.i ≤ total b l.file.map.bits.now l.initial.link.session.kind + 1)
    × (noisy_on l.link l.flash l.packet
    ≡ noisy_at b l.file.image.now l.file.map.bits.now (loss_at l.losses) (rubbish_at l.rubbish l.each)
    (noisy_on l.initial.link l.initial.flash l.initial.packet) l.i)
    × (l.rest ≡ drop (l.i * l.each) l.rubbish)

abbrev pub decreases-loop-rest : goal.decreases-loop-rest
decreases-loop-rest l =
    total (pages_of l.file.map.board) l.file.map.bits.now l.initial.link.session.kind + 2 - l.i
