-- The paper's numbers and values for each case of the code's answers.
use Rattle.std.specs.Prelude.{◌≡◌, ℕ, List, Result, Ok, Err}
use Rattle.basis.specs.Refusals.{Answer, answer_of}
use Rattle.image.specs.Hex.{File, settled_as, settled}
use Rattle.image.specs.Record.{Pointed, wrong, right}
use Rattle.image.specs.Writer.{Measured}
use Rattle.image.specs.declared.hex.Hex.{Hex}
use Rattle.image.specs.declared.record.Blame.{Blame}
use Rattle.image.specs.declared.record.Kind as kinds
use Rattle.image.specs.declared.record.Kind.TheVariants.{Data, End, Segment, SegmentStart, Linear, LinearStart}
use Rattle.image.specs.declared.record.Refusal.{Refusal}
use Rattle.image.specs.declared.record.Refusal.TheVariants.{Size, Ended, Colon, Length, Digit, Count, Checksum, Kind, Shape, Place, Twice, NoEnd, NoData, Short, Rules}
use Rattle.image.specs.declared.writer.Written.{Written}

-- the refusal's number
abbrev pub paper_refusal : Refusal → ℕ
paper_refusal Size = 20
paper_refusal Ended = 21
paper_refusal Colon = 22
paper_refusal Length = 23
paper_refusal Digit = 24
paper_refusal Count = 25
paper_refusal Checksum = 26
paper_refusal Kind = 27
paper_refusal Shape = 28
paper_refusal Place = 29
paper_refusal Twice = 30
paper_refusal NoEnd = 31
paper_refusal NoData = 32
paper_refusal Short = 33
paper_refusal Rules = 34

-- the type's number
abbrev pub paper_kind : kinds.Kind → ℕ
paper_kind Data = 0
paper_kind End = 1
paper_kind Segment = 2
paper_kind SegmentStart = 3
paper_kind Linear = 4
paper_kind LinearStart = 5

-- the place of the first character that is no digit, n where all are
abbrev pub place_or : ℕ → Result (Unit {0}) ℕ → ℕ
place_or n (Ok u) = n
place_or n (Err place) = place

-- what the code answers to a line, in the paper's terms: an error by its number and its column
abbrev pub pointed_of : {A : Type 0} → Result A Blame → Pointed A
pointed_of (Ok x) = right x
pointed_of (Err why) = wrong (paper_refusal why.refusal) why.column

-- a check's word on a record
abbrev pub paper_check : Result (Unit {0}) Blame → Pointed (Unit {0})
paper_check = pointed_of

-- the next reader, or the refusal with its column
abbrev pub paper_read : Result Hex Blame → Pointed Hex
paper_read = pointed_of

-- reading answers r and leaves image' and map', where the paper says a of image and map
abbrev pub Reads : Result Hex Blame → List ℕ → List ℕ → Pointed File → List ℕ → List ℕ → Type 0
Reads r image' map' a image map = settled_as (paper_read r) image' map' ≡ settled a image map

-- the length of what was written with the address and the upper half to go on from
abbrev pub measured_of : Written → Measured
measured_of w = record { length = w.length; next = w.next.0; upper = w.upper }

-- and so of an answer, or the refusal
abbrev pub paper_written : Result Written Refusal → Answer Measured
paper_written = answer_of paper_refusal measured_of
