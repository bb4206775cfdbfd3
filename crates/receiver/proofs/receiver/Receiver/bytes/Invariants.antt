-- What each turn of `bytes` keeps.
use Rattle.std.proofs.Common.{◌≡◌, drop}
use Rattle.receiver.specs.Receiver.{further, bytes_of}
use Rattle.receiver.proofs.receiver.Receiver.bytes.Given as goal

abbrev pub invariant-loop-i : goal.invariant-loop-i
invariant-loop-i l =
    bytes_of l.initial.receiver l.bytes ≡ further l.i (bytes_of l.receiver (drop l.i l.bytes))
