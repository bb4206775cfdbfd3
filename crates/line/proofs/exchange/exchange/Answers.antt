-- `exchange` meets its contract: what arrives stands at the start of the buffer, and the session steps on it.
use Rattle.std.proofs.Common.{◌≤◌, ◌≡◌, ap, ◌∙◌, sym, arith, rules, length, take, length-take-le}
use Rattle.basis.specs.Board.{pages_of}
use Rattle.course.specs.Paper.{paper_stepped}
use Rattle.line.proofs.Delivering.{goes, keeps}
use Rattle.line.proofs.Heard.{told}
use Rattle.line.specs.Line.{Moment, moment_on}
use Rattle.line.proofs.exchange.exchange.Goals as goal
use Rattle.line.proofs.exchange.exchange.Goals.{Start}

abbrev moment : Start → Moment
moment c = moment_on c.args.link c.args.flash.now c.args.packet.now

full : (c : Start) → length c.args.packet.now ≡ 259
full c = search rules

-- the packet that is out lies within its buffer
fits : (c : Start) → c.args.link.len ≤ length c.args.packet.now
fits c = omega (arith, full c, c.requires.len)

wired : (c : Start) → c.args.link.len ≡ length (take c.args.link.len c.args.packet.now)
wired c = sym (length-take-le c.args.link.len c.args.packet.now (fits c))

pub returns-in-Ok : goal.returns-in-Ok
returns-in-Ok c =
    let a = c.args in
    let b = pages_of a.file.map.board in
    let q = told b _ _ _ c.then_some-came.ensures in
    let e = rw q at c.step_on.ensures.answer in
    let f = rw q at c.step_on.ensures.bytes in
    goes b a.file.image.now a.file.map.bits.now a.loss (moment (goal.at.returns-in-Ok c).Start) a.packet.now _
    a.answer.now _ _ _ _ _
    (search rules) c.deliver-arrived.ensures f _
    (ap paper_stepped (sym c.in-Ok.is) ∙ e)

pub returns-in-Err : goal.returns-in-Err
returns-in-Err c =
    let a = c.args in
    let b = pages_of a.file.map.board in
    let q = told b _ _ _ c.then_some-came.ensures in
    let e = rw q at c.step_on.ensures.answer in
    let f = rw q at c.step_on.ensures.bytes in
    keeps b a.file.image.now a.file.map.bits.now a.loss (moment (goal.at.returns-in-Err c).Start)
    a.packet.now _
    a.answer.now _ _ _ _ _
    (search rules) c.deliver-arrived.ensures f _
    (ap paper_stepped (sym c.in-Err.is) ∙ e) (wired (goal.at.returns-in-Err c).Start)
