-- What each turn of `row_len` keeps, and what falls.
use Rattle.std.proofs.Common.{◌≡◌, ◌+◌, ◌-◌, ◌≤◌}
use Rattle.runs.specs.Map.{named}
use Rattle.runs.specs.Runs.{len}
use Rattle.runs.proofs.places.row_len.Given as goal

abbrev pub invariant-loop-n : goal.invariant-loop-n
invariant-loop-n l =
    let p = named l.map in
    (l.n ≤ l.cap) × (len p l.from.0 l.cap ≡ l.n + len p (l.from.0 + l.n) (l.cap - l.n))

abbrev pub decreases-loop-n : goal.decreases-loop-n
decreases-loop-n l = l.cap - l.n
