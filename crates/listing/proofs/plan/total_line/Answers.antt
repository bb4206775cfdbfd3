-- `total_line` meets its contract: one field, closed by 0A.
use Rattle.std.proofs.Common.{arith, codes}
use Rattle.listing.specs.Lines.{total_line}
use Rattle.listing.proofs.Buffers.{line_over}
use Rattle.listing.proofs.plan.total_line.Goals as goal

pub returns-clause-buffer : goal.returns-clause-buffer
unfolding total_line
returns-clause-buffer c =
    let f = c.last_field.ensures in
    line_over _ (codes "TOTAL ") _ _ _ _ c.from.ensures f.end f.buffer (omega (arith, f.within, c.requires))
