-- The paper's numbers for each case of a session's refusals, and what it says of a byte.
use Rattle.std.specs.Prelude.{ℕ, Bool, true, false, Result}
use Rattle.basis.specs.Refusals.{Answer, answer_of}
use Rattle.events.specs.declared.refusal.Mark.{Mark}
use Rattle.events.specs.declared.refusal.Refusal.{Refusal}

-- the refusal's number
abbrev pub paper_refusal : Refusal → ℕ
paper_refusal Refusal.Board = 65
paper_refusal Refusal.Size = 20
paper_refusal Refusal.Empty = 32
paper_refusal Refusal.Ended = 44
paper_refusal Refusal.Foreign = 46

-- the byte is marked or not, or the refusal
abbrev pub is_proved : Mark → Bool
is_proved Mark.Proved = true
is_proved Mark.Unproved = false

abbrev pub paper_mark : Result Mark Refusal → Answer Bool
paper_mark = answer_of paper_refusal is_proved
