-- What each turn of `feed` keeps, and what falls.
use Rattle.std.proofs.Common.{◌≤◌, ◌≡◌, length, take}
use Rattle.basis.specs.Board.{pages_of, answer_most}
use Rattle.basis.specs.Units.{start_of}
use Rattle.noisy.proofs.Joining.{Remains}
use Rattle.noisy.specs.Noisy.{heard_most}
use Rattle.port.specs.Port.{all_of}
use Rattle.noisy.proofs.exchange.feed.Given as goal

abbrev pub invariant-loop-rest : goal.invariant-loop-rest
invariant-loop-rest l =
    let b = pages_of l.board in
    (length l.flash ≡ start_of b) × (length l.answer ≡ answer_most) × (length l.joined ≡ heard_most)
    × (l.fed.heard ≤ heard_most)
    × Remains b (all_of b answer_most l.initial.fed.port l.initial.flash l.bytes)
    (take l.initial.fed.heard l.initial.joined) l.fed.port l.flash l.rest (take l.fed.heard l.joined)

abbrev pub decreases-loop-rest : goal.decreases-loop-rest
decreases-loop-rest l = length l.rest
