-- The request's numbers for the code's refusals, and its answers.
use Rattle.std.specs.Prelude.{ℕ, Result}
use Rattle.basis.specs.Refusals.{Answer, answer_of}
use Rattle.stations.specs.declared.station.Refusal.{Refusal}
use Rattle.stations.specs.declared.station.Refusal.TheVariants.{Size, Unknown, Full, Version, Unfit}

-- 20 size, 60 no such station, 61 table full, 62 version, 63 no record
abbrev pub paper_refusal : Refusal → ℕ
paper_refusal Size = 20
paper_refusal Unknown = 60
paper_refusal Full = 61
paper_refusal Version = 62
paper_refusal Unfit = 63

-- what is given as it is, or the refusal: a station, a record's length, what is at a place, the place of a
-- record, or that it was done
abbrev pub paper_answer : {A : Type 0} → Result A Refusal → Answer A
paper_answer = answer_of paper_refusal (λ x. x)
