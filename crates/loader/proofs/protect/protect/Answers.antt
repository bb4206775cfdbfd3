-- `protect` meets its contract: the type decides.
use Rattle.std.proofs.Common.{ne_eqb, rules}
use Rattle.loader.specs.Commands.{protecting}
use Rattle.loader.proofs.protect.protect.Goals as goal

pub returns-in-0 : goal.returns-in-0
unfolding protecting
returns-in-0 c = λ s f. simp c.in-0.is (c.open.ensures _ s f)

pub returns-in-15 : goal.returns-in-15
unfolding protecting
returns-in-15 c = λ s f. simp c.in-15.is (c.add.ensures s f)

pub returns-in_default : goal.returns-in_default
unfolding protecting
returns-in_default c =
    λ s f. simp
    (ne_eqb c.args.kind 0x00 (search rules), ne_eqb c.args.kind 0x0F (search rules))
    (c.close.ensures _ s f)
