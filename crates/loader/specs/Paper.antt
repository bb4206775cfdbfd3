-- The paper's numbers for each case of the code's answers.
use Rattle.std.specs.Prelude.{ℕ, Result}
use Rattle.basis.specs.Refusals.{Answer, answer_of}
use Rattle.loader.specs.declared.verdict.Refusal.{Refusal}
use Rattle.loader.specs.declared.verdict.Refusal.TheVariants.{Size, Unheard, Unread, Sequence, Address, Protected, Differs}
use Rattle.packet.specs.Paper.{paper_refusal as paper_unread}

abbrev pub paper_refusal : Refusal → ℕ
paper_refusal Size = 20
paper_refusal Unheard = 11
paper_refusal (Unread x) = paper_unread x
paper_refusal Sequence = 9
paper_refusal Address = 7
paper_refusal Protected = 8
paper_refusal Differs = 10

-- accepted, or the refusal
abbrev pub paper_verdict : Result (Unit {0}) Refusal → Answer (Unit {0})
paper_verdict = answer_of paper_refusal (λ (u : Unit {0}). u)
