-- A session, whatever it keeps of its place in the file: its start, its steps, and what they have proved.
use Rattle.std.specs.Prelude.{ℕ, ◌+◌, Bool, not, List, [], ◌∷◌, eqb, ltb, length}
use Rattle.basis.specs.Board.{opening_byte, pages_of, board_of}
use Rattle.basis.specs.Choice.{pick, both}
use Rattle.basis.specs.Refusals.{Answer, refused, given, ◌when◌, first, on_board}
use Rattle.basis.specs.Units.{map_bytes}
use Rattle.basis.specs.declared.board.Board.{Board}
use Rattle.basis.specs.declared.kind.RunKind.{RunKind}
use Rattle.course.specs.declared.state.Next.{Next}
use Rattle.course.specs.declared.state.State.{State}
use Rattle.events.specs.Endings.{goes_on, acknowledges, ending_of}
use Rattle.events.specs.Events.{classify_of}
use Rattle.events.specs.declared.ending.Awaited.{Awaited}
use Rattle.events.specs.declared.ending.Outcome.{Outcome}
use Rattle.events.specs.declared.event.Event.{Event}
use Rattle.order.specs.Marks.{marked}
use Rattle.order.specs.Plan.{total}
use Rattle.order.specs.Sizes.{right_sizes}
use Rattle.runs.specs.Pieces.{named_count}

-- how a session keeps its place in the file
pub record Keeping (P : Type 0) : Type 0 where
  -- the greeting is awaited; the session has ended so
  pub waiting : P
  pub over : Outcome → P
  -- it has ended; what it waits for
  pub ended : P → Bool
  pub awaits : P → Awaited
  -- a start and events over the file lead to the place
  pub stands : ℕ → List ℕ → State P → Bool
  -- the place that follows when the answer is the right one, with so many packets more acknowledged
  pub after : ℕ → List ℕ → State P → ℕ → P
  -- the packet that is out for its answer with k packets acknowledged
  pub out : ℕ → List ℕ → List ℕ → RunKind → P → ℕ → List ℕ

-- a session over a file, at a place and with so many packets acknowledged
abbrev pub state_with : {P : Type 0} → ℕ → List ℕ → RunKind → P → ℕ → State P
state_with board m kind phase k =
    record {
      board = board;
      kind = kind;
      phase = phase;
      acknowledged = k;
      total = total board m kind;
      named = named_count board m;
    }

-- a session, and the packet that it sends
pub record Sent (P : Type 0) : Type 0 where
  pub session : State P
  pub packet : List ℕ

-- how long the packet is, and which bytes are written
abbrev pub measured : {P : Type 0} → Answer (Sent P) → Answer (Next P)
measured (refused n) = refused n
measured (given x) = given (record { session = x.session; len = length x.packet })

abbrev pub sent_bytes : {P : Type 0} → Answer (Sent P) → List ℕ
sent_bytes (refused n) = []
sent_bytes (given x) = x.packet

-- start: 20, 32 for an empty map, else the single byte 08 and the session that waits for the greeting
unfoldable pub started : {P : Type 0} → Keeping P → ℕ → List ℕ → List ℕ → ℕ → RunKind → Answer (Sent P)
started by board image m room kind =
    first
    (20 when not (right_sizes board (length image) (length m) room)
    ∷ 32 when eqb (named_count board m) 0 ∷ [])
    (given (record { session = state_with board m kind by.waiting 0; packet = opening_byte ∷ [] }))

-- the session at another place, with so many more acknowledged
abbrev pub moved_of : {P : Type 0} → State P → P → ℕ → State P
moved_of s phase n =
    record {
      board = s.board;
      kind = s.kind;
      phase = phase;
      acknowledged = s.acknowledged + n;
      total = s.total;
      named = s.named;
    }

-- the session ends by an event that was not awaited
abbrev pub over_of : {P : Type 0} → Keeping P → State P → Awaited → Event → State P
over_of by s w e = moved_of s (by.over (ending_of w e)) 0

-- the session goes on along the file, with so many more acknowledged
abbrev pub onward_of : {P : Type 0} → Keeping P → ℕ → List ℕ → State P → ℕ → State P
onward_of by board m s n = moved_of s (by.after board m s n) n

-- the event awaited goes on, and all else ends the session
abbrev pub heard_by : {P : Type 0} → Keeping P → ℕ → List ℕ → State P → Awaited → Event → State P
heard_by by board m s w e = pick (goes_on w e) (onward_of by board m s (acknowledges w)) (over_of by s w e)

-- the session after an event, and with the packet that it sends
unfoldable pub took_of : {P : Type 0} → Keeping P → ℕ → List ℕ → State P → Event → State P
took_of by board m s e = heard_by by board m s (by.awaits s.phase) e

abbrev pub sent_of : {P : Type 0} → Keeping P → ℕ → List ℕ → List ℕ → State P → Event → Sent P
sent_of by board image m s e =
    let t = took_of by board m s e in
    record { session = t; packet = by.out board image m s.kind t.phase t.acknowledged }

-- a start and events over the file lead to such a session:
-- the file names a byte, the counts are the file's, and the place is one to which they lead
unfoldable pub came_of : {P : Type 0} → Keeping P → ℕ → List ℕ → State P → Bool
came_of by board m s =
    both (ltb 0 (named_count board m))
    (both (eqb s.named (named_count board m))
    (both (eqb s.total (total board m s.kind))
    (by.stands board m s)))

-- such a session, and on its own board
unfoldable pub fits_of : {P : Type 0} → Keeping P → ℕ → List ℕ → State P → Bool
fits_of by board m s = both (eqb s.board board) (came_of by board m s)

-- a step: 20, 44 after the end, 46 for a file that is not the session's, else the event is taken
unfoldable pub step_of : {P : Type 0} → Keeping P → ℕ → List ℕ → List ℕ → ℕ → State P → Event
    → Answer (Sent P)
step_of by board image m room s e =
    first
    (20 when not (right_sizes board (length image) (length m) room)
    ∷ 44 when by.ended s.phase
    ∷ 46 when not (fits_of by board m s) ∷ [])
    (given (sent_of by board image m s e))

-- a session carries its board: 65 where there is no such board, else a step on it, by its greeting
abbrev pub step_by : {P : Type 0} → Keeping P → List ℕ → List ℕ → ℕ → State P → Bool → List ℕ
    → Answer (Sent P)
step_by by image m room s silent answer =
    on_board (board_of s.board)
    (λ (b : Board). step_of by (pages_of b) image m room s (classify_of (pages_of b) silent answer))

-- asking for a mark: 20 for a map of another size, 46 for a file that is not the session's
unfoldable pub proved_of : {P : Type 0} → Keeping P → ℕ → List ℕ → State P → ℕ → Answer Bool
proved_of by board m s a =
    first
    (20 when not (eqb (length m) (map_bytes board))
    ∷ 46 when not (fits_of by board m s) ∷ [])
    (given (marked board m s.acknowledged a))

-- and by the board that the session carries: 65 first
abbrev pub proved_by : {P : Type 0} → Keeping P → List ℕ → State P → ℕ → Answer Bool
proved_by by m s a = on_board (board_of s.board) (λ (b : Board). proved_of by (pages_of b) m s a)
