-- Two outcomes that a contract permits are equal: the paper's numbers and values tell all cases apart.
use Rattle.std.specs.Prelude.{◌≡◌, ℕ, List, ◌≢◌, Result, Ok, Err, IfOk}
use Rattle.std.proofs.Common.{sym, ap, ◌∙◌, arith}
use Rattle.basis.specs.Laws.Refusals.{apart, given-one, refused-one, answer-one, determined}
use Rattle.basis.specs.Refusals.{Answer}
use Rattle.basis.specs.declared.board.Board.{Board}
use Rattle.events.specs.Laws.Determined.{refusal-one as session-one}
use Rattle.events.specs.Paper.{paper_refusal as session_refusal}
use Rattle.events.specs.declared.refusal.Refusal.{Refusal}
use Rattle.image.specs.Laws.Determined.{refusal-one}
use Rattle.listing.specs.Feed.{Fed, state}
use Rattle.listing.specs.Paper.{paper_blame, paper_reading, paper_begun}
use Rattle.listing.specs.Printout.{paper_printout, Lists}
use Rattle.listing.specs.Text.{Blame, stopped, going}
use Rattle.listing.specs.declared.plan.Listing.{Listing}
use Rattle.listing.specs.declared.plan.Printout.{Printout}
use Rattle.listing.specs.declared.text.Blame as Code
use Rattle.listing.specs.declared.text.Text.{Text}

-- what is stopped is not going on
pub lined-apart : {A : Type 0} {b : Blame} {x : A} → stopped b ≢ going x
lined-apart e = let z : ◌≡◌ {A = ℕ} 0 1 = cc in omega arith

-- a refusal, its line and its column
blame-one : (a b : Code.Blame) → paper_blame a ≡ paper_blame b → a ≡ b
blame-one a b e =
    let f = ap (λ (x : Blame). x.line) e in
    let g = refusal-one a.refusal b.refusal (ap (λ (x : Blame). x.number) e) in
    let h = ap (λ (x : Blame). x.column) e in
    λ i. record { line = f i; refusal = g i; column = h i }

-- a text as it comes
reading-one : (r s : Result Text Code.Blame) → paper_reading r ≡ paper_reading s → r ≡ s
reading-one (Ok t) (Ok u) e = let f : t ≡ u = cc in ap Ok f
reading-one (Ok t) (Err b) e = absurd (lined-apart (sym e))
reading-one (Err a) (Ok u) e = absurd (lined-apart e)
reading-one (Err a) (Err b) e = ap Err (blame-one a b (cc))

pub feed-determined : {f : Fed} (r s : Result Text Code.Blame) (a b i j m n : List ℕ)
    → state (paper_reading r) a i m ≡ f → state (paper_reading s) b j n ≡ f
    → (r ≡ s) × (a ≡ b) × (i ≡ j) × (m ≡ n)
feed-determined r s a b i j m n p q =
    let e = p ∙ sym q in (
      reading-one r s (ap (λ (x : Fed). x.progress) e),
      ap (λ (x : Fed). x.line) e,
      ap (λ (x : Fed). x.image) e,
      ap (λ (x : Fed). x.map) e,
    )

-- a listing's start
begun-one : (r s : Result Listing Refusal) → paper_begun r ≡ paper_begun s → r ≡ s
begun-one = answer-one session_refusal (λ (l : Listing). l) session-one (λ l k e. e)

pub start-determined : {a : Answer Listing} (r s : Result Listing Refusal)
    → paper_begun r ≡ a → paper_begun s ≡ a → r ≡ s
start-determined = determined paper_begun begun-one

-- the same refusal, or as many packets of the same board, image and map
abbrev pub SamePrintout : Result Printout Refusal → Result Printout Refusal → Type 0
SamePrintout (Ok l) (Ok k) =
    (l.total ≡ k.total) × (l.file.map.board ≡ k.file.map.board) × (l.file.image.now ≡ k.file.image.now)
    × (l.file.map.bits.now ≡ k.file.map.bits.now)
SamePrintout (Err x) (Err y) = x ≡ y
SamePrintout (Ok l) (Err y) = ⊥
SamePrintout (Err x) (Ok k) = ⊥

-- a printout's start
pub printout-determined : {a : Answer ℕ} (board : Board) (image m : List ℕ) (r s : Result Printout Refusal)
    → paper_printout r ≡ a → IfOk r (Lists board image m) → paper_printout s ≡ a
    → IfOk s (Lists board image m)
    → SamePrintout r s
printout-determined board image m (Ok l) (Ok k) p f q g =
    (given-one (p ∙ sym q), f.0 ∙ sym g.0, f.1 ∙ sym g.1, f.2 ∙ sym g.2)
printout-determined board image m (Ok l) (Err y) p f q g = absurd (apart (q ∙ sym p))
printout-determined board image m (Err x) (Ok k) p f q g = absurd (apart (p ∙ sym q))
printout-determined board image m (Err x) (Err y) p f q g = session-one x y (refused-one (p ∙ sym q))
