-- What each turn of `name_all` keeps.
use Rattle.std.proofs.Common.{◌+◌, ◌-◌, ◌≡◌, length}
use Rattle.runs.specs.Map.{name_all_of}
use Rattle.runs.proofs.places.name_all.Given as goal

abbrev pub invariant-loop-at : goal.invariant-loop-at
invariant-loop-at l =
    (length l.map ≡ length l.initial.map)
    × (name_all_of l.map l.at (l.fn.from.0 + l.count - l.at) ≡ name_all_of l.initial.map l.fn.from.0 l.count)
