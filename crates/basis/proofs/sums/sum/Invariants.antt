-- What each turn of `sum` keeps.
use Rattle.std.proofs.Common.{◌≡◌, take}
use Rattle.basis.specs.Sums.{sum_of}
use Rattle.basis.proofs.sums.sum.Given as goal

abbrev pub invariant-loop-b : goal.invariant-loop-b
invariant-loop-b l = l.total ≡ sum_of (take l.b-index l.bytes)
