-- What each turn of `big_at` keeps, and what falls.
use Rattle.std.proofs.Common.{◌≤◌, ◌<◌, ◌-◌, ◌^◌, ◌≡◌}
use Rattle.service_log.specs.Big.{big_at}
use Rattle.service_log.proofs.big.big_at.Given as goal

abbrev pub invariant-loop-i : goal.invariant-loop-i
invariant-loop-i l = (l.i ≤ l.width) × (l.n < 256 ^ l.i) × (l.n ≡ big_at l.i l.bytes l.at)

abbrev pub decreases-loop-i : goal.decreases-loop-i
decreases-loop-i l = l.width - l.i
