-- An event: an answer's bytes, or silence.
use Rattle.std.specs.Prelude.{ℕ, Bool, true, false, List, [], ◌∷◌, eqb, length, take, drop, Option, Some, None}
use Rattle.basis.specs.Board.{greeting_of, answer_most, ack_byte, bel_byte}
use Rattle.basis.specs.Choice.{pick, both}
use Rattle.events.specs.declared.event.Event.{Event}

-- two lists of bytes are the same
unfoldable pub same_of : List ℕ → List ℕ → Bool
same_of [] [] = true
same_of [] (y ∷ t) = false
same_of (x ∷ s) [] = false
same_of (x ∷ s) (y ∷ t) = both (eqb x y) (same_of s t)

-- the board's greeting has 24 bytes: bytes 0 to 14 and the last two exact, the rest free
unfoldable pub greets_of : ℕ → List ℕ → Bool
greets_of board b =
    both (eqb (length b) answer_most)
    (both (same_of (take 15 b) (take 15 (greeting_of board)))
    (same_of (drop 22 b) (drop 22 (greeting_of board))))

-- silence is the event exactly when no answer arrives;
-- else the greeting, the single byte 06, the single byte 07, or other bytes or none
unfoldable pub classify_of : ℕ → Bool → List ℕ → Event
classify_of board silent b =
    pick silent Event.Silence
    (pick (greets_of board b) Event.Greeting
    (pick (same_of b (ack_byte ∷ [])) Event.Ack
    (pick (same_of b (bel_byte ∷ [])) Event.Bel
    Event.Other)))

-- what came, in two parts: whether it is silence, and the bytes of an answer
abbrev pub silent_in : Option (List ℕ) → Bool
silent_in None = true
silent_in (Some b) = false

abbrev pub bytes_in : Option (List ℕ) → List ℕ
bytes_in None = []
bytes_in (Some b) = b

-- the event is the greeting, or an acknowledgement
abbrev pub is_greeting : Event → Bool
is_greeting Event.Greeting = true
is_greeting Event.Ack = false
is_greeting Event.Bel = false
is_greeting Event.Other = false
is_greeting Event.Silence = false

abbrev pub is_ack : Event → Bool
is_ack Event.Greeting = false
is_ack Event.Ack = true
is_ack Event.Bel = false
is_ack Event.Other = false
is_ack Event.Silence = false
