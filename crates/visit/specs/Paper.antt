-- The paper's and the request's numbers and values for each case of the code's answers.
use Rattle.std.specs.Prelude.{ℕ, Result, Ok, Err}
use Rattle.basis.specs.Refusals.{Answer, answer_of}
use Rattle.events.specs.Paper.{paper_refusal as paper_session}
use Rattle.image.specs.Paper.{paper_refusal as paper_hex}
use Rattle.image.specs.Record.{Pointed, wrong, right}
use Rattle.image.specs.declared.hex.Hex.{Hex}
use Rattle.session.specs.Session.{Next}
use Rattle.visit.specs.declared.open.Unopened as opening
use Rattle.visit.specs.declared.open.Unopened.TheVariants as unopened
use Rattle.visit.specs.declared.start.Unstarted.{Unstarted}
use Rattle.visit.specs.declared.start.Unstarted.TheVariants.{Unknown, Outside, Session}

-- 60 no such station, else the hex reader's refusal
abbrev pub paper_unopened : opening.Unopened → ℕ
paper_unopened unopened.Unknown = 60
paper_unopened (unopened.Hex why) = paper_hex why.refusal

-- the reader, or the refusal with its column; 60 has none
abbrev pub paper_opened : Result Hex opening.Unopened → Pointed Hex
paper_opened (Ok h) = right h
paper_opened (Err unopened.Unknown) = wrong (paper_unopened unopened.Unknown) 0
paper_opened (Err (unopened.Hex why)) = wrong (paper_unopened (unopened.Hex why)) why.column

-- 60 no such station, 64 page outside bounds, else the session's refusal
abbrev pub paper_unstarted : Unstarted → ℕ
paper_unstarted Unknown = 60
paper_unstarted Outside = 64
paper_unstarted (Session x) = paper_session x

-- the session with the packet's length, or the refusal
abbrev pub paper_started : Result Next Unstarted → Answer Next
paper_started = answer_of paper_unstarted (λ (x : Next). x)
