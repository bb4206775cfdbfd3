-- What each turn of `print` keeps, and what falls.
use Rattle.std.proofs.Common.{◌≡◌, ◌-◌, length}
use Rattle.basis.specs.Board.{pages_of}
use Rattle.basis.specs.declared.board.Board.{Board}
use Rattle.listing.specs.Plan.{Listed}
use Rattle.plan.proofs.print.Given as goal

abbrev pub invariant-loop-listing : goal.invariant-loop-listing
invariant-loop-listing g l =
    (length l.buffer ≡ length l.initial.buffer) × Listed (pages_of Board.Short) l.image l.map l.listing

abbrev pub decreases-loop-listing : goal.decreases-loop-listing
decreases-loop-listing g l = l.listing.total - l.listing.listed
