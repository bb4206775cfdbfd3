-- What each turn of `lowest` keeps: the search from the start gives what the search from here does.
use Rattle.std.proofs.Common.{◌-◌, ◌≡◌}
use Rattle.runs.specs.Runs.{next}
use Rattle.stations.specs.Table.{places, suits_at, lowest_of}
use Rattle.stations.proofs.table.lowest.Given as goal

abbrev pub invariant-loop-place : goal.invariant-loop-place
invariant-loop-place l =
    next (suits_at l.table l.sought) l.place (places - l.place) ≡ lowest_of l.table l.sought
