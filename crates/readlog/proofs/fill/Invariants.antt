-- What each turn of `fill` keeps, and what falls.
use Rattle.std.proofs.Common.{length, ◌-◌, ◌≤◌}
use Rattle.readlog.proofs.fill.Given as goal

abbrev pub invariant-loop-at : goal.invariant-loop-at
invariant-loop-at g l = l.at ≤ length l.input

abbrev pub decreases-loop-at : goal.decreases-loop-at
decreases-loop-at g l = length l.input - l.at
