-- Laws of events: what the answers of a board are.
use Rattle.std.specs.Prelude.{ℕ, Bool, true, false, List, [], ◌∷◌, ◌≡◌, eqb, length, get_or, take, drop, not}
use Rattle.std.proofs.Math.Path.{refl}
use Rattle.std.proofs.Common.{sym, ap, eq-eqb, eqb-true}
use Rattle.basis.specs.Board.{pages_of, greeting_of, answer_most, ack_byte, bel_byte}
use Rattle.basis.specs.Laws.Boards.{greetings-differ}
use Rattle.basis.specs.Laws.Choice.{decide, both_true, true-false}
use Rattle.basis.specs.declared.board.Board.{Board}
use Rattle.events.specs.Events.{same_of, greets_of, classify_of, silent_in, bytes_in, is_greeting, is_ack}
use Rattle.std.specs.Bool.{then_some}
use Rattle.events.specs.declared.event.Event.{Event}

same_self : (s : List ℕ) → same_of s s ≡ true
unfolding same_of
same_self [] = refl
same_self (x ∷ s) = rw (eq-eqb x x refl) (same_self s)

same-equal : (s t : List ℕ) → same_of s t ≡ true → s ≡ t
unfolding same_of
same-equal [] [] e = refl
same-equal [] (y ∷ t) e = absurd (true-false (sym e))
same-equal (x ∷ s) [] e = absurd (true-false (sym e))
same-equal (x ∷ s) (y ∷ t) e =
    let b = both_true (eqb x y) (same_of s t) e in rw (eqb-true x y b.0, same-equal s t b.1)

module _ (board : ℕ) where
  pub greeting-heard : classify_of board false (greeting_of board) ≡ Event.Greeting
  unfolding classify_of greets_of
  greeting-heard = rw (same_self (take 15 (greeting_of board)), same_self (drop 22 (greeting_of board)))

  pub ack-heard : classify_of board false (ack_byte ∷ []) ≡ Event.Ack
  unfolding classify_of greets_of same_of
  ack-heard = refl

  pub bel-heard : classify_of board false (bel_byte ∷ []) ≡ Event.Bel
  unfolding classify_of greets_of same_of
  bel-heard = refl

  pub silence-heard : (b : List ℕ) → classify_of board true b ≡ Event.Silence
  unfolding classify_of
  silence-heard b = refl

  pub none-heard : classify_of board false [] ≡ Event.Other
  unfolding classify_of greets_of same_of
  none-heard = refl

  -- each event is brought about by some answer, or by silence
  pub event-comes : (e : Event) → (silent : Bool) × (b : List ℕ) × (classify_of board silent b ≡ e)
  event-comes Event.Greeting = (false, greeting_of board, greeting-heard)
  event-comes Event.Ack = (false, ack_byte ∷ [], ack-heard)
  event-comes Event.Bel = (false, bel_byte ∷ [], bel-heard)
  event-comes Event.Other = (false, [], none-heard)
  event-comes Event.Silence = (true, [], silence-heard [])

-- the greeting of another board is none
foreign : (a b : Board) → (a ≡ b → ⊥) → greets_of (pages_of a) (greeting_of (pages_of b)) ≡ false
unfolding greets_of
foreign a b other =
    decide (greets_of (pages_of a) (greeting_of (pages_of b)))
    (λ t. absurd (other (greetings-differ a b (sym (ap (λ (s : List ℕ). get_or s 12 0) (fronts t))))))
    (λ t. t)
  where
    fronts : greets_of (pages_of a) (greeting_of (pages_of b)) ≡ true
        → take 15 (greeting_of (pages_of b)) ≡ take 15 (greeting_of (pages_of a))
    fronts t =
        let x = both_true (eqb (length (greeting_of (pages_of b))) answer_most) _ t in
        same-equal _ _ (both_true
        (same_of (take 15 (greeting_of (pages_of b))) (take 15 (greeting_of (pages_of a)))) _
        x.1).0

pub other-board : (a b : Board) → (a ≡ b → ⊥)
    → classify_of (pages_of a) false (greeting_of (pages_of b)) ≡ Event.Other
unfolding classify_of same_of
other-board a b other = rw (foreign a b other)

-- it is the one awaited, or is not
pub ack-or : {R : Type 0} (e : Event) → (e ≡ Event.Ack → R) → (is_ack e ≡ false → R) → R
ack-or Event.Greeting f g = g refl
ack-or Event.Ack f g = f refl
ack-or Event.Bel f g = g refl
ack-or Event.Other f g = g refl
ack-or Event.Silence f g = g refl

pub greeting-or : {R : Type 0} (e : Event) → (e ≡ Event.Greeting → R) → (is_greeting e ≡ false → R) → R
greeting-or Event.Greeting f g = f refl
greeting-or Event.Ack f g = g refl
greeting-or Event.Bel f g = g refl
greeting-or Event.Other f g = g refl
greeting-or Event.Silence f g = g refl

-- an answer that is told in two parts is heard as that answer
pub told-apart : (board : ℕ) (t : Bool) (b : List ℕ)
    → classify_of board (silent_in (then_some (not t) b)) (bytes_in (then_some (not t) b))
    ≡ classify_of board t b
unfolding classify_of
told-apart board true b = refl
told-apart board false b = refl
