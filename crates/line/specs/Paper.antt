-- The paper's number for each refusal of a rehearsal.
use Rattle.std.specs.Prelude.{Result}
use Rattle.basis.specs.Refusals.{Answer, answer_of}
use Rattle.events.specs.Paper.{paper_refusal}
use Rattle.events.specs.declared.refusal.Refusal.{Refusal}
use Rattle.line.specs.declared.rehearse.Load.{Load}

-- loader and session at the end, or the refusal
abbrev pub paper_rehearsed : Result Load Refusal → Answer Load
paper_rehearsed = answer_of paper_refusal (λ (x : Load). x)
