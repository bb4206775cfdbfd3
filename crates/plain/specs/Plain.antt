-- The plain session: its start, its steps, what they have proved, and how it ended. Its packets are the
-- plan's, picked by number.
use Rattle.std.specs.Prelude.{ℕ, ◌+◌, Bool, List, [], get_or, Option, Some, None}
use Rattle.basis.specs.Board.{board_of}
use Rattle.basis.specs.Refusals.{Answer}
use Rattle.basis.specs.declared.board.Board.{Board}
use Rattle.basis.specs.declared.kind.RunKind.{RunKind}
use Rattle.course.specs.Course as course
use Rattle.course.specs.Course.{Keeping}
use Rattle.course.specs.declared.state.Next as state
use Rattle.course.specs.declared.state.State.{State}
use Rattle.events.specs.declared.event.Event.{Event}
use Rattle.order.specs.Plan.{plan}
use Rattle.plain.specs.Stages.{ended, awaits_of, stage_at, came_at, outcome_of}
use Rattle.plain.specs.declared.stage.Stage.{Stage}

-- the session whose place in the file is how many packets are acknowledged
abbrev pub Plain : Type 0
Plain = State Stage

abbrev pub Sent : Type 0
Sent = course.Sent Stage

-- its next state, with the length of the packet
abbrev pub Next : Type 0
Next = state.Next Stage

-- the packet with number k of the file's list, counted from 0
abbrev pub picked : ℕ → List ℕ → List ℕ → RunKind → ℕ → List ℕ
picked board image m kind k = get_or (plan board image m kind) k []

-- the packet that is out for its answer with k packets acknowledged: none while the greeting is awaited, and
-- an ending has none
abbrev pub packet_out : ℕ → List ℕ → List ℕ → RunKind → Stage → ℕ → List ℕ
packet_out board image m kind Stage.Waiting k = []
packet_out board image m kind Stage.UnderWay k = picked board image m kind k
packet_out board image m kind (Stage.Ended o) k = []

-- how it keeps its place: with so many more acknowledged it stands on in the list, or behind its last packet
abbrev pub by_number : Keeping Stage
by_number =
    record {
      waiting = Stage.Waiting;
      over = Stage.Ended;
      ended = ended;
      awaits = awaits_of;
      stands = λ board m p. came_at p.kind p.total p.phase p.acknowledged;
      after = λ board m p n. stage_at p.kind p.total (p.acknowledged + n);
      out = packet_out;
    }

-- a plain session over a file, at a stage and with so many packets acknowledged
abbrev pub plain_with : ℕ → List ℕ → RunKind → Stage → ℕ → Plain
plain_with = course.state_with

-- how long the packet is, and which bytes are written
abbrev pub measured : Answer Sent → Answer Next
measured = course.measured

abbrev pub sent_bytes : Answer Sent → List ℕ
sent_bytes = course.sent_bytes

-- start: 20, 32 for an empty map, else the single byte 08 and the session that waits for the greeting
abbrev pub started : ℕ → List ℕ → List ℕ → ℕ → RunKind → Answer Sent
started = course.started by_number

-- the session after an event, and with the packet that it sends
abbrev pub took_of : ℕ → List ℕ → Plain → Event → Plain
took_of = course.took_of by_number

abbrev pub sent_of : ℕ → List ℕ → List ℕ → Plain → Event → Sent
sent_of = course.sent_of by_number

-- a start and events over the file lead to such a session; and it is on its own board
abbrev pub came_of : ℕ → List ℕ → Plain → Bool
came_of = course.came_of by_number

abbrev pub fits_of : ℕ → List ℕ → Plain → Bool
fits_of = course.fits_of by_number

-- a step: 20, 44 after the end, 46 for a file that is not the session's, else the event is taken;
-- and by the board that the session carries: 65 first
abbrev pub step_of : ℕ → List ℕ → List ℕ → ℕ → Plain → Event → Answer Sent
step_of = course.step_of by_number

abbrev pub step_by : List ℕ → List ℕ → ℕ → Plain → Bool → List ℕ → Answer Sent
step_by = course.step_by by_number

-- asking for a mark: 20 for a map of another size, 46 for a file that is not the session's;
-- and by the board that the session carries: 65 first
abbrev pub proved_of : ℕ → List ℕ → Plain → ℕ → Answer Bool
proved_of = course.proved_of by_number

abbrev pub proved_by : List ℕ → Plain → ℕ → Answer Bool
proved_by = course.proved_by by_number

-- how it ended: 45 where there is no such board
abbrev pub outcome_on : Option Board → RunKind → Stage → ℕ
outcome_on None kind stage = 45
outcome_on (Some b) kind stage = outcome_of kind stage

abbrev pub outcome_by : Plain → ℕ
outcome_by p = outcome_on (board_of p.board) p.kind p.phase
