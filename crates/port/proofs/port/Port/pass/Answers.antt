-- `pass` meets its contract: where no byte came the loader gets no input.
use Rattle.std.proofs.Common.{length}
use Rattle.basis.specs.Board.{pages_of}
use Rattle.port.specs.Laws.Port.{passes_none, serves-as}
use Rattle.port.proofs.port.Port.pass.Goals as goal

pub returns-then-bytes-eq0 : goal.returns-then-bytes-eq0
returns-then-bytes-eq0 c =
    let a = c.args in
    serves-as
    (passes_none (pages_of a.board) (length a.answer.now) a.self.loader a.self.receiver a.flash.now
    a.bytes.now c.if-bytes-eq0.true)
    (c.still.ensures a.flash.now a.answer.now)
