-- What each turn of `equals` keeps.
use Rattle.std.proofs.Common.{◌≡◌, ◌+◌, drop}
use Rattle.loader.specs.Verify.{equals_of}
use Rattle.loader.proofs.verify.equals.Given as goal

abbrev pub invariant-loop-i : goal.invariant-loop-i
invariant-loop-i l = equals_of l.flash l.at l.turned ≡ equals_of l.flash (l.at + l.i) (drop l.i l.turned)
