-- `empty` meets its contract: every byte is filled.
use Rattle.std.proofs.Common.{sym, ap, ◌∙◌}
use Rattle.stations.specs.Laws.Rows.{empty-given}
use Rattle.stations.specs.Table.{table_after}
use Rattle.stations.proofs.Turns.{emptied}
use Rattle.stations.proofs.table.empty.Goals as goal

pub returns-clause-table : goal.returns-clause-table
returns-clause-table c =
    let whole = c.in-Some.ensures.cases in
    let t = c.args.table.now in
    c.fill.ensures ∙ rw whole.same (emptied t whole.long)
    ∙ sym (ap (table_after t) (empty-given t whole.long))
