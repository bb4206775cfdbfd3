-- `drive` meets its contract: after i turns the moment after i exchanges stands, and i is at most total + 1.
use Rattle.std.proofs.Common.{◌+◌, ◌≤◌, false, ◌≡◌, refl, sym, ap, ◌∙◌, zero-mul, arith, rules, length, take}
use Rattle.basis.specs.Board.{pages_of}
use Rattle.basis.specs.Laws.Boards.{pages-few}
use Rattle.line.specs.Line.{loss_at}
use Rattle.noisy.proofs.Driving.{rest-next, not-past}
use Rattle.noisy.specs.Laws.Moments.{noisy-done, noisy-again}
use Rattle.noisy.specs.Noisy.{NoisyMoment, noisy_at, rubbish_at}
use Rattle.order.specs.Laws.Totals.{total-most}
use Rattle.order.specs.Plan.{total}
use Rattle.session.specs.Phases.{ended}
use Rattle.noisy.proofs.rehearse.drive.Goals as goal
use Rattle.noisy.proofs.rehearse.drive.Goals.{In-loop-rest}

-- while the session goes on the loop has not had its last turn
open-yet : (c : In-loop-rest) → ended c.loop-rest.link.session.phase ≡ false
open-yet c = sym c.has_ended.ensures ∙ c.loop-rest-test.true

early : (c : In-loop-rest) → let a = c.args in
    c.loop-rest.i ≤ total (pages_of a.file.map.board) a.file.map.bits.now a.start.session.kind
early c =
    let a = c.args in
    let n = c.requires in
    not-past (pages_of a.file.map.board) a.file.image.now a.file.map.bits.now (loss_at a.losses.now)
    (rubbish_at a.rubbish.now a.each) _
    (record { right = a.file.fits; long = a.file.map.fits; some = n.some })
    a.start.session.kind a.start.port.loader a.flash.now n.begun c.loop-rest.i _
    c.loop-rest.invariant.4 (open-yet c)

pub loop-rest-init : goal.loop-rest-init
unfolding noisy_at
loop-rest-init c =
    let n = c.requires in
    (n.flash, search rules, n.len, omega arith, refl, rw (zero-mul c.args.each))

pub overflow_add-i : goal.overflow_add-i
overflow_add-i c =
    let a = c.args in
    omega (
      arith,
      early (goal.at.overflow_add-i c).In-loop-rest,
      total-most (pages_of a.file.map.board) a.file.map.bits.now a.start.session.kind,
      pages-few a.file.map.board,
    )

pub loop-rest-preserved : goal.loop-rest-preserved
loop-rest-preserved c =
    let a = c.args in
    let l = c.loop-rest in
    let n = l.invariant in
    let x = c.exchange-link in
    let full : length x.new.packet ≡ 259 = search rules in
    let b = early (goal.at.loop-rest-preserved c).In-loop-rest in (
      x.auto.flash ∙ n.0,
      full,
      omega (arith, x.ensures.len-fits, full),
      omega arith,
      x.ensures.moment-is
          ∙ noisy-again (pages_of a.file.map.board) a.file.image.now a.file.map.bits.now
          (loss_at a.losses.now)
          (rubbish_at a.rubbish.now a.each) _ l.i _ _ _ n.4
          (open-yet (goal.at.loop-rest-preserved c).In-loop-rest)
          c.at-loss.ensures
          (c.first-now.ensures ∙ ap (take a.each) n.5),
      rest-next a.rubbish.now l.rest.now c.first-now.result.now a.each l.i n.5 c.first-now.ensures,
    )

pub returns : goal.returns
returns c =
    let a = c.args in
    let l = c.loop-rest in
    let b = pages_of a.file.map.board in
    let m = a.file.map.bits.now in
    let t = sym c.has_ended.ensures ∙ c.loop-rest-test.false in
    let e = noisy-done b a.file.image.now m (loss_at a.losses.now)
    (rubbish_at a.rubbish.now a.each) _
    (total b m a.start.session.kind + 1) l.i _
    l.invariant.4 l.invariant.3 t in (
      sym (ap (λ (x : NoisyMoment). x.port) e),
      sym (ap (λ (x : NoisyMoment). x.session) e),
      sym (ap (λ (x : NoisyMoment). x.flash) e),
    )
