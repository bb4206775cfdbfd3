-- Laws of states: the state after k acknowledgements, what leads
-- to the next, and that these fit a file.
use Rattle.std.specs.Prelude.{ℕ, ◌+◌, ◌<◌, true, false, List, [], ◌≡◌, refl, length, get_or, Option}
use Rattle.std.proofs.Common.{sym, ◌∙◌, arith}
use Rattle.std.proofs.Math.Path.{ap}
use Rattle.basis.specs.Board.{pages_of, greeting_of}
use Rattle.basis.specs.Laws.Boards.{board-back}
use Rattle.basis.specs.Refusals.{given}
use Rattle.basis.specs.Units.{map_bytes}
use Rattle.basis.specs.declared.board.Board.{Board}
use Rattle.basis.specs.declared.kind.RunKind.{RunKind}
use Rattle.course.specs.Course as course
use Rattle.course.specs.Laws.Course.{fits_by}
use Rattle.events.specs.Endings.{asked}
use Rattle.events.specs.Laws.Events.{other-board}
use Rattle.events.specs.declared.ending.Outcome.{Outcome}
use Rattle.events.specs.declared.event.Event.{Event}
use Rattle.order.specs.Laws.Plan.{plan-at}
use Rattle.order.specs.Laws.Sizes.{sizes-right}
use Rattle.order.specs.Laws.Steps.{at-stands, first-at, follow-next, follow-end}
use Rattle.order.specs.Laws.Totals.{total-some}
use Rattle.order.specs.Plan.{plan, total}
use Rattle.order.specs.Sizes.{right_sizes}
use Rattle.order.specs.declared.step.Step.{Step}
use Rattle.runs.specs.Pieces.{named_count}
use Rattle.session.specs.Laws.Steps.{step-taken}
use Rattle.session.specs.Phases.{packet_out, reached_of}
use Rattle.session.specs.Session.{Session, quick, session_with, at_greeting, state_at, as_asked, Sent, took_of, sent_of, fits_of, step_of, step_by}
use Rattle.session.specs.declared.phase.Phase.{Phase}

-- ---- from state to state

module _ (board : ℕ) (m : List ℕ) (long : length m ≡ map_bytes board) (some : 0 < named_count board m)
    (kind : RunKind) where
  -- the greeting: the first packet is out
  pub greeting-state : took_of board m (at_greeting board m kind) Event.Greeting ≡ state_at board m kind 0
  unfolding course.took_of
  greeting-state =
      ap (λ (s : Step). session_with board m kind (Phase.Out s) 0) (first-at board m long some kind)

  -- ACK: the state after k leads to the state after k + 1
  pub ack-next : (k : ℕ) → k + 1 < total board m kind
      → took_of board m (state_at board m kind k) Event.Ack ≡ state_at board m kind (k + 1)
  unfolding course.took_of
  ack-next k l =
      ap (λ (f : Option Step). session_with board m kind (reached_of kind f) (k + 1))
      (follow-next board m long some kind k l)

  -- ACK to the last packet ends as was asked
  pub ack-last : (k : ℕ) → k + 1 ≡ total board m kind
      → took_of board m (state_at board m kind k) Event.Ack ≡ as_asked board m kind
  unfolding course.took_of
  ack-last k l =
      ap (λ (f : Option Step). session_with board m kind (reached_of kind f) (k + 1))
      (follow-end board m long some kind k l)
      ∙ ap (session_with board m kind (Phase.Ended (asked kind))) l

  -- ---- these states fit the file

  pub waiting-fits : fits_of board m (at_greeting board m kind) ≡ true
  waiting-fits =
      fits_by quick board m (at_greeting board m kind)
      (record { board-is = refl; some = some; named-is = refl; total-is = refl; came-to = refl })

  pub state-fits : (k : ℕ) → k < total board m kind → fits_of board m (state_at board m kind k) ≡ true
  state-fits k l =
      fits_by quick board m (state_at board m kind k)
      (record {
        board-is = refl;
        some = some;
        named-is = refl;
        total-is = refl;
        came-to = at-stands board m kind k l;
      })

-- ---- a step from a state

module _ (board : ℕ) (image m : List ℕ) (room : ℕ) (kind : RunKind)
    (right : right_sizes board (length image) (length m) room ≡ true) (long : length m ≡ map_bytes board)
    (some : 0 < named_count board m) where
  -- no event is refused
  pub step-state : (k : ℕ) (e : Event) → k < total board m kind
      → step_of board image m room (state_at board m kind k) e
      ≡ given (sent_of board image m (state_at board m kind k) e)
  step-state k e l =
      step-taken board image m room (state_at board m kind k) e right refl
      (state-fits board m long some kind k l)

  -- the k-th state sends the k-th packet of the plan
  packet-sent : (k : ℕ) → k < total board m kind → {s : Session} → s ≡ state_at board m kind k
      → ◌≡◌ {A = Sent} (record { session = s; packet = packet_out board image m kind s.phase })
      (record { session = state_at board m kind k; packet = get_or (plan board image m kind) k [] })
  packet-sent k l e =
      ap (λ (s : Session). record { session = s; packet = packet_out board image m kind s.phase }) e
      ∙ ap (λ (p : List ℕ). record { session = state_at board m kind k; packet = p })
      (sym (plan-at board image m kind k [] l))

  -- the greeting brings the first packet of the plan, each ACK the next, and the last none
  pub step-greeting : step_of board image m room (at_greeting board m kind) Event.Greeting
      ≡ given (record { session = state_at board m kind 0; packet = get_or (plan board image m kind) 0 [] })
  step-greeting =
      step-taken board image m room (at_greeting board m kind) Event.Greeting right refl
      (waiting-fits board m long some kind)
      ∙ ap given (packet-sent 0 (total-some board m long some kind) (greeting-state board m long some kind))

  pub step-ack : (k : ℕ) → k + 1 < total board m kind
      → step_of board image m room (state_at board m kind k) Event.Ack
      ≡ given (record {
        session = state_at board m kind (k + 1);
        packet = get_or (plan board image m kind) (k + 1) [];
      })
  step-ack k l =
      step-state k Event.Ack (omega arith)
      ∙ ap given (packet-sent (k + 1) l (ack-next board m long some kind k l))

  pub step-last : (k : ℕ) → k + 1 ≡ total board m kind
      → step_of board image m room (state_at board m kind k) Event.Ack
      ≡ given (record { session = as_asked board m kind; packet = [] })
  step-last k l =
      step-state k Event.Ack (omega arith)
      ∙ ap (λ (s : Session). given (record { session = s; packet = packet_out board image m kind s.phase }))
      (ack-last board m long some kind k l)

-- ---- the greeting of another board

-- a host that hears it ends with 42, before any packet is sent
pub other-ends : (a b : Board) → (a ≡ b → ⊥) → (image m : List ℕ) (room : ℕ) (kind : RunKind)
    → right_sizes (pages_of a) (length image) (length m) room ≡ true → 0 < named_count (pages_of a) m
    → step_by image m room (at_greeting (pages_of a) m kind) false (greeting_of (pages_of b))
    ≡ given (record {
      session = session_with (pages_of a) m kind (Phase.Ended Outcome.NoGreeting) 0;
      packet = [];
    })
unfolding course.took_of
other-ends a b other image m room kind right some =
    let long = (sizes-right (pages_of a) (length image) (length m) room right).1 in
    rw (board-back a, other-board a b other)
    (step-taken (pages_of a) image m room (at_greeting (pages_of a) m kind) Event.Other right refl
    (waiting-fits (pages_of a) m long some kind))
