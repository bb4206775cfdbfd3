-- Where a session stands in the file, and what it does next.
use Rattle.std.specs.Prelude.{ℕ, Bool, true, false, List, [], Option, Some, None}
use Rattle.basis.specs.declared.kind.RunKind.{RunKind}
use Rattle.events.specs.Endings.{asked}
use Rattle.events.specs.declared.ending.Awaited.{Awaited}
use Rattle.order.specs.Steps.{packet_of, following_at, first_of, follow_of, at_start, place_of}
use Rattle.order.specs.declared.step.Step.{Step}
use Rattle.session.specs.declared.phase.Phase.{Phase}

abbrev pub ended : Phase → Bool
ended Phase.Greeting = false
ended (Phase.Out s) = false
ended (Phase.Ended o) = true

-- first the greeting is awaited, later the single byte 06
abbrev pub awaits_of : Phase → Awaited
awaits_of Phase.Greeting = Awaited.Greeting
awaits_of (Phase.Out s) = Awaited.Ack
-- never asked: 44 comes first
awaits_of (Phase.Ended o) = Awaited.Ack

-- the packet that is out for its answer: none while the greeting is awaited, and an ending has none
abbrev pub packet_out : ℕ → List ℕ → List ℕ → RunKind → Phase → List ℕ
packet_out board image m kind Phase.Greeting = []
packet_out board image m kind (Phase.Out s) = packet_of board image m kind s
packet_out board image m kind (Phase.Ended o) = []

-- what follows is sent; behind the last packet the session ends as was asked
abbrev pub reached_of : RunKind → Option Step → Phase
reached_of kind (Some s) = Phase.Out s
reached_of kind None = Phase.Ended (asked kind)

-- the phase after k acknowledgements: the k-th packet of the plan is out, counted from 0, or the session has
-- ended as was asked
abbrev pub phase_at : ℕ → List ℕ → RunKind → ℕ → Phase
phase_at board m kind k = reached_of kind (following_at board m kind k)

-- the phase that follows when the answer is the right one
abbrev pub after_of : ℕ → List ℕ → RunKind → Phase → Phase
after_of board m kind Phase.Greeting = Phase.Out (first_of board m)
after_of board m kind (Phase.Out s) = reached_of kind (follow_of board m kind s)
after_of board m kind (Phase.Ended o) = Phase.Ended o

-- the cursor stands where a run of pages or a piece starts
abbrev pub on_start : ℕ → List ℕ → Phase → Bool
on_start board m Phase.Greeting = true
on_start board m (Phase.Out s) = at_start board m s
on_start board m (Phase.Ended o) = true

-- the address that the cursor names: 0 where the phase has none
abbrev pub cursor_of : ℕ → Phase → ℕ
cursor_of board Phase.Greeting = 0
cursor_of board (Phase.Out s) = place_of board s
cursor_of board (Phase.Ended o) = 0
