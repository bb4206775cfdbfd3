-- `spell` meets its contract: spelling what is left, from here, gives what was to be given.
use Rattle.std.proofs.Common.{◌∙◌, arith, length-set}
use Rattle.image.proofs.Turns.{spell-turn}
use Rattle.image.proofs.writer.spell.Goals as goal

pub loop-i-preserved : goal.loop-i-preserved
loop-i-preserved c = (
  simp length-set (omega arith),
  spell-turn _ _ _ _ _ _ c.loop-i-test.true c.letter.ensures c.letter-in-loop-i.ensures
      ∙ c.loop-i.invariant.1,
)
