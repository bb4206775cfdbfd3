-- What each turn of `copy` keeps.
use Rattle.std.proofs.Common.{◌≡◌, ◌+◌, length, drop}
use Rattle.basis.specs.Lists.{copy_of}
use Rattle.basis.proofs.buffers.copy.Given as goal

abbrev pub invariant-loop-i : goal.invariant-loop-i
invariant-loop-i l =
    (length l.buffer ≡ length l.initial.buffer) ×
    (copy_of l.buffer (l.at + l.i) (drop l.i l.bytes) ≡ copy_of l.initial.buffer l.at l.bytes)
