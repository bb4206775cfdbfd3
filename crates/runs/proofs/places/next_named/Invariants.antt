-- What each turn of `next_named` keeps.
use Rattle.std.proofs.Common.{◌≡◌, ◌-◌}
use Rattle.runs.specs.Map.{named}
use Rattle.runs.specs.Runs.{next}
use Rattle.runs.proofs.places.next_named.Given as goal

abbrev pub invariant-loop-at : goal.invariant-loop-at
invariant-loop-at l =
    let p = named l.map in
    next p l.fn.from.0 (l.fn.limit.0 - l.fn.from.0) ≡ next p l.at (l.fn.limit.0 - l.at)
