-- The paper's numbers and values for each case of the code's answers.
use Rattle.std.specs.Prelude.{Result}
use Rattle.basis.specs.Refusals.{Answer, answer_of}
use Rattle.course.specs.declared.state.Next.{Next}
use Rattle.events.specs.Paper.{paper_refusal}
use Rattle.events.specs.declared.refusal.Refusal.{Refusal}

-- the next session with the packet's length, or the refusal
abbrev pub paper_stepped : {P : Type 0} → Result (Next P) Refusal → Answer (Next P)
paper_stepped = answer_of paper_refusal (λ x. x)
