-- `store` meets its contract: what is no record is refused as reading refuses it.
use Rattle.std.proofs.Common.{sym, ap, ◌∙◌}
use Rattle.stations.specs.Table.{after_store}
use Rattle.stations.proofs.Turns.{handed, unread}
use Rattle.stations.proofs.table.store.Goals as goal

pub returns-in_err-station-clause-answer : goal.returns-in_err-station-clause-answer
returns-in_err-station-clause-answer c =
    let size = c.in-Some.ensures.cases.long in
    handed c.from_residual.result _ c.from_residual.ensures.1
    ∙ sym (unread c.args.table.now c.args.input.now _ _ size c.read.ensures.answer c.in_err-station.was)

pub returns-in_err-station-clause-table : goal.returns-in_err-station-clause-table
returns-in_err-station-clause-table c =
    let t = c.args.table.now in
    let r = c.args.input.now in
    let whole = c.in-Some.ensures.cases in
    whole.same
    ∙ sym (ap (after_store t r) (unread t r _ _ whole.long c.read.ensures.answer c.in_err-station.was))
