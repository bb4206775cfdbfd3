-- What each turn of `over_words` keeps.
use Rattle.std.proofs.Common.{◌≡◌, ◌*◌}
use Rattle.runs.specs.Map.{named}
use Rattle.runs.specs.Pieces.{piece_most}
use Rattle.runs.specs.Tally.{tally_at}
use Rattle.runs.proofs.walks.over_words.Given as goal

abbrev pub invariant-loop-i : goal.invariant-loop-i
invariant-loop-i l = l.t ≡ tally_at (named l.map) piece_most (64 * l.i)
