-- How a session goes on, and how it ends.
use Rattle.std.specs.Prelude.{ℕ, Bool, true, false, eqb, leb, ltb}
use Rattle.basis.specs.Choice.{pick, both, either}
use Rattle.basis.specs.declared.kind.RunKind.{RunKind}
use Rattle.events.specs.Events.{is_greeting, is_ack}
use Rattle.events.specs.declared.ending.Awaited.{Awaited}
use Rattle.events.specs.declared.event.Event.{Event}
use Rattle.events.specs.declared.ending.Outcome.{Outcome}

-- 0 valid, 1 verified and held; 40 silence, 41 BEL, 42 no greeting, 43 other bytes or none
abbrev pub paper_outcome : Outcome → ℕ
paper_outcome Outcome.Valid = 0
paper_outcome Outcome.Held = 1
paper_outcome Outcome.Silence = 40
paper_outcome Outcome.Bel = 41
paper_outcome Outcome.NoGreeting = 42
paper_outcome Outcome.Other = 43

-- the ending that was asked for: ACK to R ends valid; to hold, the last V's ACK ends verified and held
abbrev pub asked : RunKind → Outcome
asked RunKind.Reset = Outcome.Valid
asked RunKind.Jump = Outcome.Valid
asked RunKind.Hold = Outcome.Held

-- an ending that a session of the run kind can have: the one that was asked for, or 40 to 43
abbrev pub ending_for : RunKind → Outcome → Bool
ending_for kind o = either (eqb (paper_outcome o) (paper_outcome (asked kind))) (leb 40 (paper_outcome o))

-- its number; 45, which no ending has, for one that is not its run kind's
abbrev pub own_number : RunKind → Outcome → ℕ
own_number kind o = pick (ending_for kind o) (paper_outcome o) 45

-- the event is the one awaited
abbrev pub goes_on : Awaited → Event → Bool
goes_on Awaited.Greeting e = is_greeting e
goes_on Awaited.Ack e = is_ack e

-- the greeting acknowledges no packet
abbrev pub acknowledges : Awaited → ℕ
acknowledges Awaited.Greeting = 0
acknowledges Awaited.Ack = 1

-- any other ends the session: for the greeting with 42, later the single byte 07 with 41,
-- other bytes or none with 43; silence with 40 everywhere
abbrev pub ending_of : Awaited → Event → Outcome
ending_of Awaited.Greeting Event.Greeting = Outcome.NoGreeting
ending_of Awaited.Greeting Event.Ack = Outcome.NoGreeting
ending_of Awaited.Greeting Event.Bel = Outcome.NoGreeting
ending_of Awaited.Greeting Event.Other = Outcome.NoGreeting
ending_of Awaited.Greeting Event.Silence = Outcome.Silence
ending_of Awaited.Ack Event.Greeting = Outcome.Other
ending_of Awaited.Ack Event.Ack = Outcome.Other
ending_of Awaited.Ack Event.Bel = Outcome.Bel
ending_of Awaited.Ack Event.Other = Outcome.Other
ending_of Awaited.Ack Event.Silence = Outcome.Silence

-- an ending other than the one that was asked for, with k packets acknowledged:
-- 42 only before the first packet
abbrev pub failing : Outcome → ℕ → Bool
failing Outcome.Valid k = false
failing Outcome.Held k = false
failing Outcome.Silence k = true
failing Outcome.Bel k = true
failing Outcome.NoGreeting k = eqb k 0
failing Outcome.Other k = true

-- an ending with k of n packets acknowledged: the one asked for once all are, any other before the last is
abbrev pub ends_at : Outcome → ℕ → Outcome → ℕ → Bool
ends_at wish n o k =
    pick (eqb (paper_outcome o) (paper_outcome wish)) (eqb k n) (both (ltb k n) (failing o k))
