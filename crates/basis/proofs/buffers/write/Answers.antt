-- `write` meets its contract: what is copied to place 0 of a buffer is written at its start.
use Rattle.std.proofs.Common.{[], refl, ◌∙◌, arith}
use Rattle.basis.specs.Laws.Lists.{copy-overlay}
use Rattle.basis.proofs.buffers.write.Goals as goal

pub returns : goal.returns
returns c = c.copy.ensures ∙ copy-overlay [] _ _ 0 refl (omega arith)
