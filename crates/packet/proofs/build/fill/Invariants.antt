-- What each turn of `fill` keeps.
use Rattle.std.proofs.Common.{◌≡◌, map, length, take}
use Rattle.basis.specs.Lists.{overlay}
use Rattle.packet.specs.Packet.{carried_of}
use Rattle.packet.specs.Paper.{paper_command}
use Rattle.packet.proofs.build.fill.Given as goal

abbrev pub invariant-loop-i : goal.invariant-loop-i
invariant-loop-i l =
    (length l.part ≡ length l.initial.part) ×
    (l.part ≡ overlay (take l.i (map (carried_of (paper_command l.command)) l.plain)) l.initial.part)
