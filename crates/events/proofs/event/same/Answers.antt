-- `same` meets its contract: std's `==` says what `same_of` says.
use Rattle.std.proofs.Common.{◌∙◌}
use Rattle.events.proofs.Same.{same-pointwise}
use Rattle.events.proofs.event.same.Goals as goal

pub returns : goal.returns
returns c = c.eq.ensures ∙ same-pointwise _ _
