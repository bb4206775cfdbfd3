-- What `?` hands on in the reader: a check's refusal is the record's, with its column.
use Rattle.std.proofs.Common.{◌≡◌, ℕ, List, Result, Ok, Err, ap, ◌∙◌}
use Rattle.std.specs.Prelude.{IsErrAnd}
use Rattle.basis.specs.Refusals.{Answer, and_then}
use Rattle.image.specs.Hex.{File, settled_as}
use Rattle.image.specs.Laws.Pointed.{pointed-stays}
use Rattle.image.specs.Paper.{paper_refusal, paper_read, Reads}
use Rattle.image.specs.Record.{wrong, pointed}
use Rattle.image.specs.declared.hex.Hex.{Hex}
use Rattle.image.specs.declared.record.Blame.{Blame}

pub handed : (r : Result Hex Blame) (x : Blame) → IsErrAnd r (λ y. y ≡ x) → r ≡ Err x
handed (Ok h) x k = absurd k
handed (Err y) x k = ap Err k

-- whatever else would follow, image and map as they stood
pub handed-on : (line image map : List ℕ) (a : Answer (Unit {0})) (b : Answer File)
    (r : Result Hex Blame) (x : Blame)
    → IsErrAnd r (λ y. y ≡ x)
    → wrong (paper_refusal x.refusal) x.column ≡ pointed line a
    → Reads r image map (pointed line (and_then a b)) image map
handed-on line image map a b r x k e =
    ap (λ (q : Result Hex Blame). settled_as (paper_read q) image map) (handed r x k)
    ∙ pointed-stays line a b _ _ image map e
