-- What each turn of `is_blank` keeps: what all bytes tell is what those from here on tell.
use Rattle.std.proofs.Common.{◌≡◌, drop}
use Rattle.stations.specs.Table.{blank}
use Rattle.stations.proofs.table.is_blank.Given as goal

abbrev pub invariant-loop-b : goal.invariant-loop-b
invariant-loop-b l = blank (drop l.b-index l.bytes) ≡ blank l.bytes
