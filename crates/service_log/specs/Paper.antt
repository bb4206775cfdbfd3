-- The paper's numbers and values for each case of the code's answers.
use Rattle.std.specs.Prelude.{ℕ, Option, Some, None, Result}
use Rattle.basis.specs.Refusals.{Answer, answer_of}
use Rattle.events.specs.Endings.{paper_outcome}
use Rattle.events.specs.declared.ending.Outcome.{Outcome}
use Rattle.service_log.specs.declared.read.Record.{Record}
use Rattle.service_log.specs.declared.read.Unread.{Unread}
use Rattle.service_log.specs.declared.write.Unwritten.{Unwritten}

-- the refusal's number
abbrev pub paper_unwritten : Unwritten → ℕ
paper_unwritten Unwritten.Board = 65
paper_unwritten Unwritten.Unfit = 45
paper_unwritten Unwritten.NoRoom = 20

abbrev pub paper_unread : Unread → ℕ
paper_unread Unread.Short = 50
paper_unread Unread.Length = 51
paper_unread Unread.Version = 52
paper_unread Unread.False = 53

-- the record's length, or the refusal
abbrev pub paper_written : Result ℕ Unwritten → Answer ℕ
paper_written = answer_of paper_unwritten (λ n. n)

-- what the record says, or the refusal
abbrev pub paper_reading : Result Record Unread → Answer Record
paper_reading = answer_of paper_unread (λ (x : Record). x)

-- the outcome's number, and 45, which no record has, for none
abbrev pub paper_logged : Option Outcome → ℕ
paper_logged None = 45
paper_logged (Some o) = paper_outcome o
