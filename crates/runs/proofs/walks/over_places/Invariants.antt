-- What each turn of `over_places` keeps.
use Rattle.std.proofs.Common.{◌≡◌}
use Rattle.runs.specs.Map.{named}
use Rattle.runs.specs.Pieces.{piece_most}
use Rattle.runs.specs.Tally.{tally_at}
use Rattle.runs.proofs.walks.over_places.Given as goal

abbrev pub invariant-loop-at : goal.invariant-loop-at
invariant-loop-at l = l.t ≡ tally_at (named l.map) piece_most l.at
