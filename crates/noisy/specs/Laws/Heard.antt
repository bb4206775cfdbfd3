-- An answer longer than any that is told apart is another, however long it is.
use Rattle.std.specs.Prelude.{ℕ, ◌≤◌, List, [], ◌∷◌, ◌≡◌, eqb, leb, length, take}
use Rattle.std.proofs.Common.{sym, ap, ◌∙◌, arith, ne_eqb, leb-true, leb-false, take_all, length-take-le}
use Rattle.basis.specs.Board.{answer_most, ack_byte, bel_byte}
use Rattle.basis.specs.Laws.Choice.{decide, both-no}
use Rattle.events.specs.Events.{same_of, greets_of, classify_of}
use Rattle.events.specs.declared.event.Event.{Event}
use Rattle.line.specs.Line.{event_from}
use Rattle.noisy.specs.Noisy.{heard_most}

long-other : (board : ℕ) (b : List ℕ) → heard_most ≤ length b → event_from board b ≡ Event.Other
unfolding classify_of greets_of same_of
long-other board [] h = absurd (omega arith)
long-other board (x ∷ []) h = absurd (omega arith)
long-other board (x ∷ y ∷ s) h =
    rw (
      ne_eqb (length (x ∷ y ∷ s)) 0 (λ e. omega arith),
      ne_eqb (length (x ∷ y ∷ s)) answer_most (λ e. omega arith),
      both-no (eqb x ack_byte),
      both-no (eqb x bel_byte),
    )

-- so many bytes tell the event
pub heard-told : (board : ℕ) (b : List ℕ) → event_from board (take heard_most b) ≡ event_from board b
heard-told board b =
    decide (leb (length b) heard_most)
    (λ t. ap (event_from board) (take_all heard_most b (leb-true (length b) heard_most t)))
    (λ t. let h : heard_most ≤ length b = omega (arith, leb-false (length b) heard_most t) in
    long-other board (take heard_most b) (omega (arith, length-take-le heard_most b h))
    ∙ sym (long-other board b h))
