-- `drive` meets its contract: after i turns the moment after i exchanges stands, and i is at most total + 1.
use Rattle.std.proofs.Common.{◌+◌, ◌≤◌, false, ◌≡◌, refl, sym, ap, ◌∙◌, arith, rules, length}
use Rattle.basis.specs.Board.{pages_of}
use Rattle.basis.specs.Laws.Boards.{pages-few}
use Rattle.line.proofs.Driving.{len-fits, exchanged, not-past}
use Rattle.line.specs.Laws.Moments.{done, again}
use Rattle.line.specs.Line.{Moment, loss_at, moment_at}
use Rattle.order.specs.Laws.Totals.{total-most}
use Rattle.order.specs.Plan.{total}
use Rattle.session.specs.Phases.{ended}
use Rattle.line.proofs.rehearse.drive.Goals as goal
use Rattle.line.proofs.rehearse.drive.Goals.{In-loop-file}

-- while the session goes on the loop has not had its last turn
open-yet : (c : In-loop-file) → ended c.loop-file.link.session.phase ≡ false
open-yet c = sym c.has_ended.ensures ∙ c.loop-file-test.true

early : (c : In-loop-file) → let a = c.args in
    c.loop-file.i ≤ total (pages_of a.file.map.board) a.file.map.bits.now a.first.session.kind
early c =
    let a = c.args in
    let n = c.requires in
    not-past (pages_of a.file.map.board) (omega (arith, pages-few a.file.map.board)) a.file.image.now
    a.file.map.bits.now a.flash.now
    (record { right = a.file.fits; long = a.file.map.fits; some = n.some })
    n.bytes a.first.session.kind a.first.loader n.flash (loss_at a.losses.now) _ n.begun
    c.loop-file.i _ c.loop-file.invariant.4 (open-yet c)

pub loop-file-init : goal.loop-file-init
unfolding moment_at
loop-file-init c =
    let n = c.requires in
    (n.flash, search rules, n.len, omega arith, refl)

pub overflow_add-i : goal.overflow_add-i
overflow_add-i c =
    let a = c.args in
    omega (
      arith,
      early (goal.at.overflow_add-i c).In-loop-file,
      total-most (pages_of a.file.map.board) a.file.map.bits.now a.first.session.kind,
      pages-few a.file.map.board,
    )

pub loop-file-preserved : goal.loop-file-preserved
loop-file-preserved c =
    let a = c.args in
    let l = c.loop-file in
    let n = l.invariant in
    let b = pages_of a.file.map.board in
    let m = a.file.map.bits.now in
    let e = early (goal.at.loop-file-preserved c).In-loop-file in
    let x = c.exchange-link in
    let full : length x.new.packet ≡ 259 = search rules in
    let f : l.link.len ≤ length l.packet = omega (arith, n.1, n.2) in (
      x.auto.flash ∙ n.0,
      full,
      omega (
        arith,
        len-fits b a.file.image.now m _ l.link l.flash l.packet f x.ensures,
        full,
      ),
      omega arith,
      exchanged b a.file.image.now m _ l.link l.flash l.packet f x.ensures
          ∙ again b a.file.image.now m (loss_at a.losses.now) _ l.i _ _ n.4
          (open-yet (goal.at.loop-file-preserved c).In-loop-file) c.at.ensures,
    )

pub returns : goal.returns
returns c =
    let a = c.args in
    let l = c.loop-file in
    let b = pages_of a.file.map.board in
    let m = a.file.map.bits.now in
    let t = sym c.has_ended.ensures ∙ c.loop-file-test.false in
    let e = done b a.file.image.now m (loss_at a.losses.now) _ (total b m a.first.session.kind + 1) l.i _
    l.invariant.4 l.invariant.3 t in (
      sym (ap (λ (x : Moment). x.loader) e),
      sym (ap (λ (x : Moment). x.session) e),
      sym (ap (λ (x : Moment). x.flash) e),
    )
