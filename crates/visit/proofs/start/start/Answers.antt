-- `start` meets its contract where no station is found.
use Rattle.std.proofs.Common.{refl}
use Rattle.visit.proofs.Handed.{unknown}
use Rattle.visit.proofs.start.start.Goals as goal

pub returns-in_default-clause-answer : goal.returns-in_default-clause-answer
returns-in_default-clause-answer c =
    rw (unknown c.args.table.now c.args.number _ _ c.find.ensures c.in_default.is) refl
