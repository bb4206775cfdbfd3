-- What each turn of `feed` keeps, and what falls.
use Rattle.std.proofs.Common.{◌≡◌, length}
use Rattle.basis.specs.Board.{pages_of}
use Rattle.basis.specs.Units.{start_of}
use Rattle.listing.specs.Text.{going}
use Rattle.listing.specs.Feed.{state, feed_in}
use Rattle.listing.proofs.text.feed.Given as goal

abbrev pub invariant-loop-front : goal.invariant-loop-front
invariant-loop-front l =
    let size = start_of (pages_of l.board) in
    let s = l.initial in
    feed_in size (state (going l.text) l.line l.image l.map) l.rest
    ≡ feed_in size (state (going s.text) s.line s.image s.map) l.bytes

abbrev pub decreases-loop-front : goal.decreases-loop-front
decreases-loop-front l = length l.rest
