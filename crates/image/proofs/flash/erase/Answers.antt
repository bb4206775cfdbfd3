-- `erase` meets its contract: erasing what is left, from here, gives what was to be given.
use Rattle.std.proofs.Common.{◌∙◌, arith, length-set}
use Rattle.image.proofs.Turns.{erase-turn}
use Rattle.image.proofs.flash.erase.Goals as goal

pub loop-i-preserved : goal.loop-i-preserved
loop-i-preserved c = (
  simp length-set (omega arith),
  erase-turn _ _ _ _ c.loop-i-test.true ∙ c.loop-i.invariant.1,
)
