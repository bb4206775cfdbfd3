-- Two outcomes that the contract of `serve` permits are equal.
use Rattle.std.specs.Prelude.{List, ◌≡◌, ℕ}
use Rattle.std.proofs.Common.{sym, ◌∙◌}
use Rattle.basis.specs.Laws.Refusals.{determined}
use Rattle.loader.specs.Laws.Determined.{verdict-one}
use Rattle.loader.specs.Paper.{paper_verdict}
use Rattle.port.specs.Port.{Turn, Serves}
use Rattle.port.specs.declared.port.Served.{Served}

pub serve-determined : {t : Turn} {old : List ℕ} (r s : Served) (f g a b : List ℕ)
    → Serves t old r f a → Serves t old s g b → (r ≡ s) × (f ≡ g) × (a ≡ b)
serve-determined r s f g a b p q =
    let v = determined paper_verdict verdict-one r.verdict s.verdict p.verdict-is q.verdict-is in
    let o = p.port-is ∙ sym q.port-is in
    let n = p.taken_is ∙ sym q.taken_is in
    let k = p.answered-is ∙ sym q.answered-is in (
      λ i. record { port = o i; verdict = v i; taken = n i; answered = k i },
      p.flash-is ∙ sym q.flash-is,
      p.answer-is ∙ sym q.answer-is,
    )
