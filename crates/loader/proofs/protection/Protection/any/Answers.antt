-- `any` meets its contract: the groups passed so far are not protected.
use Rattle.std.proofs.Common.{◌∙◌, ne_eqb}
use Rattle.basis.specs.Laws.Choice.{any-on}
use Rattle.loader.proofs.protection.Protection.any.Goals as goal

pub loop-g-preserved : goal.loop-g-preserved
loop-g-preserved c =
    c.loop-g.invariant
    ∙ any-on _ _ _ c.loop-g-test.true (ne_eqb _ 1 c.if-self-g-eq1.false)
