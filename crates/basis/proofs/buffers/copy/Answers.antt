-- `copy` meets its contract: copying what is left, from here, gives what was to be given.
use Rattle.std.proofs.Common.{◌∙◌, arith, length-set}
use Rattle.basis.proofs.Steps.{copy-turn}
use Rattle.basis.proofs.buffers.copy.Goals as goal

pub loop-i-preserved : goal.loop-i-preserved
loop-i-preserved c = (
  simp length-set (omega arith),
  copy-turn _ _ _ _ c.loop-i-test.true ∙ c.loop-i.invariant.1,
)
