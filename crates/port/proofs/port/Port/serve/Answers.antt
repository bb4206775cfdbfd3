-- `serve` meets its contract: for a flash or an answer buffer of the wrong size no byte is taken.
use Rattle.std.proofs.Common.{ap, arith, length}
use Rattle.basis.specs.Board.{pages_of}
use Rattle.port.specs.Laws.Port.{port-size, port-small, serves-as}
use Rattle.port.specs.Port.{turn_after}
use Rattle.port.proofs.port.Port.serve.Goals as goal

pub returns-then-flash-size : goal.returns-then-flash-size
returns-then-flash-size c =
    let a = c.args in
    serves-as (ap (turn_after a.self a.flash.now)
    (port-size (pages_of a.board) a.self a.bytes.now a.flash.now (length a.answer.now)
    (λ e. c.if-flash-size.true (omega arith))))
    (c.wrong_sizes.ensures a.flash.now a.answer.now)

pub returns-then-answer-lt-ANSWER : goal.returns-then-answer-lt-ANSWER
returns-then-answer-lt-ANSWER c =
    let a = c.args in
    serves-as (ap (turn_after a.self a.flash.now)
    (port-small (pages_of a.board) a.self a.bytes.now a.flash.now (length a.answer.now)
    c.if-answer-lt-ANSWER.true))
    (c.wrong_sizes-then-answer-lt-ANSWER.ensures a.flash.now a.answer.now)
