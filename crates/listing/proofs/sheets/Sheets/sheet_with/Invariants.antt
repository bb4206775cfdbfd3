-- What each turn of `sheet_with` keeps.
use Rattle.std.proofs.Common.{◌≡◌, length}
use Rattle.basis.specs.Board.{pages_of}
use Rattle.order.specs.Walk.{steps_left}
use Rattle.packet.specs.Packet.{packet_most}
use Rattle.listing.proofs.Written.{rest_of, Written}
use Rattle.listing.proofs.sheets.Sheets.sheet_with.Given as goal

abbrev pub invariant-loop-buffer : goal.invariant-loop-buffer
invariant-loop-buffer l =
    let s = l.steps in
    let f = l.fn.self.listing.file in
    let b = pages_of f.map.board in
    (goal.iterator-loop-buffer).can_next l.steps
    × (goal.iterator-loop-buffer).is_finite l.steps
    × (length l.packet ≡ packet_most)
    × Written b f.image.now f.map.bits.now
    (rest_of b f.image.now f.map.bits.now (length l.initial.buffer) l.fn.self.listed) l.initial.buffer
    (steps_left (pages_of s.map.board) s.map.bits.now s.kind s.next) l.listed l.buffer l.at
