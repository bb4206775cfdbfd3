-- The paper's numbers and values for each case of the code's answers.
use Rattle.std.specs.Prelude.{Result, Ok, Err}
use Rattle.basis.specs.Refusals.{Answer, answer_of}
use Rattle.events.specs.Paper.{paper_refusal as session_refusal}
use Rattle.events.specs.declared.refusal.Refusal.{Refusal}
use Rattle.image.specs.Paper.{paper_refusal}
use Rattle.listing.specs.Text.{Blame, Lined, stopped, going}
use Rattle.listing.specs.declared.plan.Listing.{Listing}
use Rattle.listing.specs.declared.text.Blame as Code

-- the refusal's number, its line and its column
abbrev pub paper_blame : Code.Blame → Blame
paper_blame b = record { line = b.line; number = paper_refusal b.refusal; column = b.column }

-- a text so far, and what the reader answers to a line
abbrev pub paper_reading : {A : Type 0} → Result A Code.Blame → Lined A
paper_reading (Ok x) = going x
paper_reading (Err b) = stopped (paper_blame b)

-- a listing that is begun, or the refusal
abbrev pub paper_begun : Result Listing Refusal → Answer Listing
paper_begun = answer_of session_refusal (λ (l : Listing). l)
