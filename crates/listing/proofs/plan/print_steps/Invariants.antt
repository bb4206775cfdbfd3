-- What each turn of `print_steps` keeps.
use Rattle.basis.specs.Board.{pages_of}
use Rattle.order.specs.Walk.{steps_left}
use Rattle.listing.proofs.Printed.{Printed}
use Rattle.listing.proofs.plan.print_steps.Given as goal

abbrev pub invariant-loop-i : goal.invariant-loop-i
invariant-loop-i g l =
    let s = l.i-iterator.iter in
    let f = l.fn.file in
    (goal.iterator-loop-i g).can_next l.i-iterator
    × (goal.iterator-loop-i g).is_finite l.i-iterator
    × Printed (pages_of f.map.board) f.image.now f.map.bits.now
    (steps_left (pages_of s.map.board) s.map.bits.now s.kind s.next) l.i-iterator.count
    (g.W.Write.contents l.initial.out) (g.W.Write.contents l.out)
