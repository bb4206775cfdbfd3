-- `sheet_with` meets its contract: each turn writes the line of the next packet of the plan.
use Rattle.std.proofs.Common.{sym, arith, rules}
use Rattle.listing.proofs.Written.{written-full, written-end, written-below, written-start, written-put}
use Rattle.listing.proofs.sheets.Sheets.sheet_with.Goals as goal
use Rattle.listing.proofs.sheets.Sheets.sheet_with.Goals.{else-loop-buffer-test, then-loop-buffer-test+in_default}

pub send-n-requires-clause-start : goal.send-n-requires-clause-start
send-n-requires-clause-start c =
    written-start _ _ _ _ _ _ _ _ _ c.loop-buffer.invariant.3 _ _ c.in-Some.ensures.steps
    c.args.self.listing.file.map.fits

pub overflow_add-listed : goal.overflow_add-listed
overflow_add-listed c =
    let below = written-below _ _ _ _ _ _ _ _ _ c.loop-buffer.invariant.3 _ _ c.in-Some.ensures.steps in
    search (rules, below)

pub loop-buffer-preserved : goal.loop-buffer-preserved
loop-buffer-preserved c =
    let sends = c.send-n.ensures in
    let line = c.step_line-at.ensures in (
      _,
      _,
      omega (arith, c.send-n.auto.buffer, c.loop-buffer.invariant.2),
      written-put _ _ _ _ _ _ _ _ _ c.loop-buffer.invariant.3 _ _ c.in-Some.ensures.steps
          (omega (arith, c.loop-buffer-test.true)) _ _ _ _ c.loop-buffer.invariant.2
          c.send-n.auto.buffer sends.length sends.bytes
          c.from.ensures _ _ c.step_line-at.auto.buffer line.end line.buffer line.short,
    )

pub returns-clause-listed : goal.returns-clause-listed
returns-clause-listed c = elim c.loop-buffer-test.branch [
  | else-loop-buffer-test w ↦
      (written-full _ _ _ _ _ _ _ _ _ c.loop-buffer.invariant.3 w.loop-buffer-test.false).0
  | then-loop-buffer-test+in_default w ↦
      (written-end _ _ _ _ _ _ _ _ _ c.loop-buffer.invariant.3 (sym w.in_default.ensures.steps.0)).0
]

pub returns-clause-end : goal.returns-clause-end
returns-clause-end c = elim c.loop-buffer-test.branch [
  | else-loop-buffer-test w ↦
      (written-full _ _ _ _ _ _ _ _ _ c.loop-buffer.invariant.3 w.loop-buffer-test.false).1
  | then-loop-buffer-test+in_default w ↦
      (written-end _ _ _ _ _ _ _ _ _ c.loop-buffer.invariant.3 (sym w.in_default.ensures.steps.0)).1
]

pub returns-clause-buffer : goal.returns-clause-buffer
returns-clause-buffer c = elim c.loop-buffer-test.branch [
  | else-loop-buffer-test w ↦
      (written-full _ _ _ _ _ _ _ _ _ c.loop-buffer.invariant.3 w.loop-buffer-test.false).2
  | then-loop-buffer-test+in_default w ↦
      (written-end _ _ _ _ _ _ _ _ _ c.loop-buffer.invariant.3 (sym w.in_default.ensures.steps.0)).2
]
