-- What each turn of `pages` keeps.
use Rattle.std.proofs.Common.{◌≡◌}
use Rattle.plain.specs.List.{walk_at}
use Rattle.runs.specs.Pages.{touched}
use Rattle.plain.proofs.list.pages.Given as goal

abbrev pub invariant-loop-page : goal.invariant-loop-page
invariant-loop-page l = l.walk ≡ walk_at (touched l.map.bits.now) l.end l.number l.due l.page
