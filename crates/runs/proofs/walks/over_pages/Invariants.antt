-- What each turn of `over_pages` keeps.
use Rattle.std.proofs.Common.{◌≡◌}
use Rattle.runs.specs.Survey.{tallies_at}
use Rattle.runs.proofs.walks.over_pages.Given as goal

abbrev pub invariant-loop-page : goal.invariant-loop-page
invariant-loop-page l = l.t ≡ tallies_at l.board l.map l.page
