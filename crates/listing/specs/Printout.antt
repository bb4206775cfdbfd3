-- What the code's answer shows of a plan to be printed.
use Rattle.std.specs.Prelude.{◌≡◌, ℕ, List, Result}
use Rattle.basis.specs.Refusals.{Answer, answer_of}
use Rattle.basis.specs.declared.board.Board.{Board}
use Rattle.events.specs.Paper.{paper_refusal}
use Rattle.events.specs.declared.refusal.Refusal.{Refusal}
use Rattle.listing.specs.declared.plan.Printout.{Printout}

-- how many packets are printed, or the refusal
abbrev pub paper_printout : Result Printout Refusal → Answer ℕ
paper_printout = answer_of paper_refusal (λ (p : Printout). p.total)

-- it is of this board, image and map
abbrev pub Lists : Board → List ℕ → List ℕ → Printout → Type 0
Lists board image m p =
    (p.file.map.board ≡ board) × (p.file.image.now ≡ image) × (p.file.map.bits.now ≡ m)
