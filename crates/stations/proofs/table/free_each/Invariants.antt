-- What each turn of `free_each` keeps: freeing what is left, from here, gives what was to be given.
use Rattle.std.proofs.Common.{◌-◌, ◌≡◌}
use Rattle.stations.specs.Table.{places, freed_from}
use Rattle.stations.proofs.table.free_each.Given as goal

abbrev pub invariant-loop-place : goal.invariant-loop-place
invariant-loop-place l =
    freed_from l.table l.number l.place (places - l.place) ≡ freed_from l.initial.table l.number 0 places
