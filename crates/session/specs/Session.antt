-- The session: its start, its steps, and what they have proved.
use Rattle.std.specs.Prelude.{ℕ, ◌+◌, ◌≤◌, ◌<◌, Bool, true, List, [], ◌∷◌, ◌++◌, ◌≡◌, eqb, length}
use Rattle.basis.specs.Choice.{pick}
use Rattle.basis.specs.Refusals.{Answer}
use Rattle.basis.specs.Units.{start_of, map_bytes}
use Rattle.basis.specs.declared.kind.RunKind.{RunKind}
use Rattle.course.specs.Course as course
use Rattle.course.specs.Course.{Keeping}
use Rattle.course.specs.declared.state.Next as state
use Rattle.course.specs.declared.state.State.{State}
use Rattle.events.specs.Endings.{failing, ends_at, asked}
use Rattle.events.specs.declared.ending.Awaited.{Awaited}
use Rattle.events.specs.declared.ending.Outcome.{Outcome}
use Rattle.events.specs.declared.event.Event.{Event}
use Rattle.order.specs.Plan.{before_r, total}
use Rattle.order.specs.Steps.{step_at, stands_at, verify_at}
use Rattle.runs.specs.Pieces.{named_count, piece_len}
use Rattle.session.specs.Phases.{ended, packet_out, after_of, awaits_of}
use Rattle.session.specs.declared.phase.Phase.{Phase}

-- the session whose place in the file is a cursor
abbrev pub Session : Type 0
Session = State Phase

abbrev pub Sent : Type 0
Sent = course.Sent Phase

-- its next state, with the length of the packet
abbrev pub Next : Type 0
Next = state.Next Phase

-- a start and events over the file lead to such a phase, with k packets acknowledged:
-- none where the greeting is awaited; the packet that is out is the k-th of the file;
-- one that has ended is an ending that k acknowledgements allow
abbrev pub came_at : ℕ → List ℕ → RunKind → Phase → ℕ → Bool
came_at board m kind Phase.Greeting k = eqb k 0
came_at board m kind (Phase.Out s) k = stands_at board m kind s k
came_at board m kind (Phase.Ended o) k = ends_at (asked kind) (total board m kind) o k

-- how it keeps its place: the right answer brings the cursor to the next step
abbrev pub quick : Keeping Phase
quick =
    record {
      waiting = Phase.Greeting;
      over = Phase.Ended;
      ended = ended;
      awaits = awaits_of;
      stands = λ board m s. came_at board m s.kind s.phase s.acknowledged;
      after = λ board m s n. after_of board m s.kind s.phase;
      out = λ board image m kind phase k. packet_out board image m kind phase;
    }

-- a session over a file, in a phase and with so many packets acknowledged
abbrev pub session_with : ℕ → List ℕ → RunKind → Phase → ℕ → Session
session_with = course.state_with

-- it waits for the greeting; or k packets are acknowledged and the next is out; or it has ended as was asked
abbrev pub at_greeting : ℕ → List ℕ → RunKind → Session
at_greeting board m kind = session_with board m kind Phase.Greeting 0

abbrev pub state_at : ℕ → List ℕ → RunKind → ℕ → Session
state_at board m kind k = session_with board m kind (Phase.Out (step_at board m k)) k

abbrev pub as_asked : ℕ → List ℕ → RunKind → Session
as_asked board m kind = session_with board m kind (Phase.Ended (asked kind)) (total board m kind)

-- how long the packet is, and which bytes are written
abbrev pub measured : Answer Sent → Answer Next
measured = course.measured

abbrev pub sent_bytes : Answer Sent → List ℕ
sent_bytes = course.sent_bytes

-- start: 20, 32 for an empty map, else the single byte 08 and the session that waits for the greeting
abbrev pub started : ℕ → List ℕ → List ℕ → ℕ → RunKind → Answer Sent
started = course.started quick

-- the session in another phase, with so many more acknowledged; ended by an event that was not awaited; and
-- where the event awaited goes on along the file, and all else ends it
abbrev pub moved_of : Session → Phase → ℕ → Session
moved_of = course.moved_of

abbrev pub over_of : Session → Awaited → Event → Session
over_of = course.over_of quick

abbrev pub heard_by : ℕ → List ℕ → Session → Awaited → Event → Session
heard_by = course.heard_by quick

-- the session after an event, and with the packet that it sends
abbrev pub took_of : ℕ → List ℕ → Session → Event → Session
took_of = course.took_of quick

abbrev pub sent_of : ℕ → List ℕ → List ℕ → Session → Event → Sent
sent_of = course.sent_of quick

-- a start and events over the file lead to such a session; and it is on its own board
abbrev pub came_of : ℕ → List ℕ → Session → Bool
came_of = course.came_of quick

abbrev pub fits_of : ℕ → List ℕ → Session → Bool
fits_of = course.fits_of quick

-- a step: 20, 44 after the end, 46 for a file that is not the session's, else the event is taken;
-- and by the board that the session carries: 65 first
abbrev pub step_of : ℕ → List ℕ → List ℕ → ℕ → Session → Event → Answer Sent
step_of = course.step_of quick

abbrev pub step_by : List ℕ → List ℕ → ℕ → Session → Bool → List ℕ → Answer Sent
step_by = course.step_by quick

-- a series of events over one file; one after the end changes nothing
unfoldable pub series : ℕ → List ℕ → Session → List Event → Session
series board m s [] = s
series board m s (e ∷ es) = series board m (pick (ended s.phase) s (took_of board m s e)) es

-- asking for a mark: 20 for a map of another size, 46 for a file that is not the session's;
-- and by the board that the session carries: 65 first
abbrev pub proved_of : ℕ → List ℕ → Session → ℕ → Answer Bool
proved_of = course.proved_of quick

abbrev pub proved_by : List ℕ → Session → ℕ → Answer Bool
proved_by = course.proved_by quick

-- ---- what the laws speak by

-- a file that a session can load: image and map have the board's sizes, and a byte is named
pub record Loadable (board : ℕ) (image m : List ℕ) : Type 0 where
  pub right : length image ≡ start_of board
  pub long : length m ≡ map_bytes board
  pub some : 0 < named_count board m

-- what a start and events lead to:
-- it waits for the greeting, has k acknowledged, has failed with k acknowledged, or has ended as was asked
pub data Came (board : ℕ) (m : List ℕ) (kind : RunKind) (s : Session) : Type 0 where
  waits : s ≡ at_greeting board m kind → Came board m kind s
  stands : (k : ℕ) → k < total board m kind → s ≡ state_at board m kind k → Came board m kind s
  fails : (o : Outcome) (k : ℕ) → k < total board m kind → failing o k ≡ true
      → s ≡ session_with board m kind (Phase.Ended o) k
      → Came board m kind s
  ends : s ≡ as_asked board m kind → Came board m kind s

-- the packet after j acknowledgements is the V of the piece at s, which carries the byte at a
pub record Carried (board : ℕ) (m : List ℕ) (j s a : ℕ) : Type 0 where
  pub planned : j < before_r board m
  pub step : step_at board m j ≡ verify_at s
  pub from : s ≤ a
  pub below : a < s + piece_len m s

-- in this series of events the V of the piece with the byte at a was acknowledged:
-- it was out, and ACK came
pub record Acknowledged (board : ℕ) (m : List ℕ) (kind : RunKind) (es : List Event) (a : ℕ) : Type 0 where
  pub before : List Event
  pub rest : List Event
  pub piece : ℕ
  pub cut : es ≡ before ++ (Event.Ack ∷ rest)
  pub out : (series board m (at_greeting board m kind) before).phase ≡ Phase.Out (verify_at piece)
  pub from : piece ≤ a
  pub below : a < piece + piece_len m piece

-- some series of events over the map's file leads to the session,
-- and in each that does the V that carries the byte was acknowledged
pub record Shown (board : ℕ) (m : List ℕ) (s : Session) (a : ℕ) : Type 0 where
  pub events : List Event
  pub lead-here : s ≡ series board m (at_greeting board m s.kind) events
  pub acknowledged : (es : List Event) → s ≡ series board m (at_greeting board m s.kind) es
      → Acknowledged board m s.kind es a
