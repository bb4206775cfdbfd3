-- `gather` meets its contract: where the receiver hands nothing on the loader gets no input.
use Rattle.std.proofs.Common.{sym, ap, ◌∙◌, length}
use Rattle.basis.specs.Board.{pages_of}
use Rattle.port.specs.Laws.Port.{through-none, serves-as}
use Rattle.port.specs.Port.{through}
use Rattle.receiver.specs.declared.receiver.Stretch.{Stretch}
use Rattle.port.proofs.port.Port.gather.Goals as goal

pub returns-then-stretch-eq0 : goal.returns-then-stretch-eq0
returns-then-stretch-eq0 c =
    let a = c.args in
    let b = pages_of a.board in
    serves-as
    (ap (λ (x : Stretch). through b (length a.answer.now) a.self.loader a.flash.now x)
    (sym c.bytes-stretch.ensures.state)
    ∙ through-none b (length a.answer.now) a.self.loader a.flash.now c.bytes-stretch.result
    c.if-stretch-eq0.true)
    (c.still.ensures a.flash.now a.answer.now)
