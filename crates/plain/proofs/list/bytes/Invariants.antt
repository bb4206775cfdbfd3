-- What each turn of `bytes` keeps.
use Rattle.std.proofs.Common.{◌≡◌}
use Rattle.plain.specs.List.{walk_at}
use Rattle.runs.specs.Map.{named}
use Rattle.runs.specs.Pieces.{piece_most}
use Rattle.plain.proofs.list.bytes.Given as goal

abbrev pub invariant-loop-at : goal.invariant-loop-at
invariant-loop-at l = l.walk ≡ walk_at (named l.map.bits.now) piece_most l.number l.due l.at
