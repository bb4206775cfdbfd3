-- `refusal_line` meets its contract: one field, closed by 0A.
use Rattle.std.proofs.Common.{refl, arith}
use Rattle.listing.specs.Lines.{refused_word, refusal_line}
use Rattle.listing.proofs.Buffers.{line_over}
use Rattle.listing.proofs.refusals.refusal_line.Goals as goal

pub returns-clause-buffer : goal.returns-clause-buffer
unfolding refusal_line
returns-clause-buffer c =
    let f = c.last_field.ensures in
    line_over _ refused_word _ _ _ _ refl f.end f.buffer (omega (arith, f.within, c.requires))
