-- `print_steps` meets its contract: each turn prints the line of the next packet of the plan.
use Rattle.std.proofs.Common.{sym, ap, ◌∙◌, rules}
use Rattle.basis.specs.Board.{pages_of}
use Rattle.basis.specs.Laws.Boards.{pages-few}
use Rattle.order.specs.Walk.{steps_left}
use Rattle.listing.proofs.Printed.{printed-none, printed-all, printed-start, printed-more, printed-few, packet-taken, packet-fits}
use Rattle.listing.proofs.plan.print_steps.Goals as goal

pub loop-i-init : goal.loop-i-init
loop-i-init g c =
    let began = c.into_iter-i-iterator.ensures.into_iter_gives in
    let left = ap (λ s. steps_left (pages_of s.map.board) s.map.bits.now s.kind s.next)
    (ap (λ x. x.iter) began ∙ c.enumerate-i-items.ensures.source)
    ∙ c.new.ensures.steps in
    let none = printed-none _ c.args.file.image.now _ _ (g.W.Write.contents c.args.out.now) _
    (ap (λ x. x.count) began ∙ c.enumerate-i-items.ensures.count) left in
    search (rules, none, printed-few, pages-few)

pub send-n-requires-clause-start : goal.send-n-requires-clause-start
send-n-requires-clause-start g c =
    printed-start _ _ _ _ _ _ _ _ _ c.in-Some.ensures.steps.0 c.loop-i.invariant.2 c.args.file.map.fits

pub print_step-requires : goal.print_step-requires
print_step-requires g c = search (rules, packet-fits)

pub loop-i-preserved : goal.loop-i-preserved
loop-i-preserved g c =
    let more = printed-more _ _ _ _ _ _ _ _ _ c.in-Some.ensures.steps.0 c.loop-i.invariant.2 in
    search (rules, more, printed-few, pages-few, packet-taken)

pub returns : goal.returns
returns g c = printed-all _ _ _ _ _ _ _ (sym c.in-None.ensures.steps.0.0) c.loop-i.invariant.2
