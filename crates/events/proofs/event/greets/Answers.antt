-- `greets` meets its contract: each test is one of the definition's, in its order.
use Rattle.std.proofs.Common.{ℕ, ◌-◌, ◌≤◌, List, sym, ap, ◌∙◌, arith, eq-eqb, ne_eqb, length, take, drop, length-drop, take_all}
use Rattle.basis.specs.Board.{pages_of, greeting_of}
use Rattle.basis.specs.Laws.Choice.{both-second, both_false}
use Rattle.events.specs.Events.{same_of, greets_of}
use Rattle.events.proofs.event.greets.Goals as goal

pub returns-then-answer-ne-ANSWER : goal.returns-then-answer-ne-ANSWER
unfolding greets_of
returns-then-answer-ne-ANSWER c = sym (both_false _ _ (ne_eqb _ _ c.if-answer-ne-ANSWER.true))

pub returns-then-not-same : goal.returns-then-not-same
unfolding greets_of
returns-then-not-same c =
    let s = c.args.answer.now in
    let g = ap (λ (p : List ℕ). same_of (take 15 s) (take 15 p)) c.greeting-greeting.ensures in
    sym (both-second _ _ (eq-eqb _ _ c.if-answer-ne-ANSWER.false)
    ∙ both_false _ _ (sym (c.same.ensures ∙ g) ∙ c.if-not-same.true))

pub returns : goal.returns
unfolding greets_of
returns c = let told = c.greeting-greeting.ensures in
    let a = c.args in
    let s = a.answer.now in
    let g = greeting_of (pages_of a.board) in
    let h : length (drop 22 s) ≤ length s - 22 = simp length-drop (omega arith) in
    c.same-2.ensures
    ∙ ap (λ (p : List ℕ). same_of (take (length s - 22) (drop 22 s)) (take 2 (drop 22 p))) told
    ∙ ap (λ (p : List ℕ). same_of p (drop 22 g)) (take_all (length s - 22) (drop 22 s) h)
    ∙ sym (both-second _ _ (eq-eqb _ _ c.if-answer-ne-ANSWER.false)
    ∙ both-second _ _
    (sym (c.same.ensures ∙ ap (λ (p : List ℕ). same_of (take 15 s) (take 15 p)) told)
    ∙ c.if-not-same.false))
