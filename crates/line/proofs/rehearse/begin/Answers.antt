-- `begin` meets its contract: what the start refuses is refused, and what it gives is a moment just begun.
use Rattle.std.proofs.Common.{sym, ap, ◌∙◌, length, rules}
use Rattle.basis.specs.Board.{pages_of}
use Rattle.course.specs.Paper.{paper_stepped}
use Rattle.line.proofs.Beginning.{begun-again, begun-load, handed}
use Rattle.line.specs.Laws.Rehearsing.{start-refused, start-driven}
use Rattle.line.specs.Line.{loss_at, rehearse_of}
use Rattle.session.specs.Laws.Steps.{Starts, starting}
use Rattle.line.proofs.rehearse.begin.Goals as goal
use Rattle.line.proofs.rehearse.begin.Goals.{In_ok-next}

-- what the start gives
begins : (c : In_ok-next) → let a = c.args in
    Starts (pages_of a.file.map.board) a.file.image.now a.file.map.bits.now (length a.packet.now) a.kind
    c.in_ok-next.next
begins c =
    let a = c.args in
    starting (pages_of a.file.map.board) a.file.image.now a.file.map.bits.now _ a.kind _
    (ap paper_stepped (sym c.in_ok-next.was) ∙ c.start.ensures.answer)

pub drive-last-requires-clause-some : goal.drive-last-requires-clause-some
drive-last-requires-clause-some c = (begins (goal.at.drive-last-requires-clause-some c).In_ok-next).file.some

pub drive-last-requires-clause-begun : goal.drive-last-requires-clause-begun
drive-last-requires-clause-begun c =
    let b = begins (goal.at.drive-last-requires-clause-begun c).In_ok-next in
    begun-again b c.args.loader _ c.reset.ensures c.args.flash.now _ _ c.start.ensures.bytes

pub returns-in_err-next : goal.returns-in_err-next
unfolding rehearse_of
returns-in_err-next c =
    let a = c.args in
    rw (handed _ _ c.from_residual.ensures.1)
    (start-refused (pages_of a.file.map.board) a.file.image.now a.file.map.bits.now a.flash.now _
    c.requires.flash
    a.kind _ (search rules)
    (ap paper_stepped (sym c.in_err-next.was) ∙ c.start.ensures.answer))

pub returns : goal.returns
unfolding rehearse_of
returns c =
    let a = c.args in
    let b = begins (goal.at.returns c).In_ok-next in
    start-driven (pages_of a.file.map.board) a.file.image.now a.file.map.bits.now a.flash.now _
    c.requires.flash
    a.kind _ (search rules) b.started-is _ _ _
    (begun-load b a.loader _ c.reset.ensures a.flash.now _ _ c.start.ensures.bytes (loss_at a.losses.now))
    c.drive-last.ensures
