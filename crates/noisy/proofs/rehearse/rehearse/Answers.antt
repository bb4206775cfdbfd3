-- `rehearse` meets its contract: the sizes of flash and of the file, then the rest.
use Rattle.std.proofs.Common.{sym, ap, refl, arith}
use Rattle.basis.specs.Board.{pages_of}
use Rattle.basis.specs.Laws.Choice.{both_false}
use Rattle.course.specs.Laws.Course.{start-size}
use Rattle.line.specs.Laws.Rehearsing.{flash-refused, start-refused}
use Rattle.session.specs.Session.{measured, quick}
use Rattle.noisy.specs.Noisy.{noisy_rehearse_of}
use Rattle.noisy.proofs.rehearse.rehearse.Goals as goal

pub returns-then-flash-size : goal.returns-then-flash-size
unfolding noisy_rehearse_of
returns-then-flash-size c =
    let a = c.args in
    flash-refused (pages_of a.board) a.image.now a.map.now a.flash.now _
    (λ e. c.if-flash-size.true (omega arith))

pub returns-in_default : goal.returns-in_default
unfolding noisy_rehearse_of
returns-in_default c =
    let a = c.args in
    start-refused (pages_of a.board) a.image.now a.map.now a.flash.now _ (omega arith) a.kind 259 refl
    (ap measured (sym (start-size quick _ _ _ _ _ (both_false _ _ (sym c.in_default.ensures.some)))))
