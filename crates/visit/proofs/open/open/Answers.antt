-- `open` meets its contract where no station is found: image and map stay, and 60 has no column.
use Rattle.std.proofs.Common.{refl}
use Rattle.image.specs.Record.{column_of}
use Rattle.visit.proofs.Handed.{unknown}
use Rattle.visit.proofs.open.open.Goals as goal

pub returns-in_default : goal.returns-in_default
unfolding column_of
returns-in_default c = rw (unknown c.args.table.now c.args.number _ _ c.find.ensures c.in_default.is) refl
