-- What each turn of `named_bytes` keeps.
use Rattle.std.proofs.Common.{◌≡◌}
use Rattle.runs.specs.Map.{named}
use Rattle.runs.specs.Runs.{count}
use Rattle.plain.proofs.list.named_bytes.Given as goal

abbrev pub invariant-loop-at : goal.invariant-loop-at
invariant-loop-at l = l.bytes ≡ count (named l.map.bits.now) l.at
