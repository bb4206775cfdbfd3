-- `fill` meets its contract: the part that std fills is copied in where it stood.
use Rattle.std.proofs.Common.{arith, rules}
use Rattle.std.proofs.lemmas.Grind.{common_steps}
use Rattle.basis.proofs.Steps.{copied}
use Rattle.basis.proofs.buffers.fill.Goals as goal

pub returns : goal.returns
returns c = rw (c.fill.ensures.after (λ y h. search rules)) (grind (arith, common_steps, copied))
