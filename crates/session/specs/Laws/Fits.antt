-- Laws of 46: what it is that a session fits a file.
use Rattle.std.specs.Prelude.{ℕ, ◌≤◌, ◌<◌, ◌^◌, true, List, ◌≡◌, refl, length, Option, Some, None}
use Rattle.std.proofs.Common.{arith, eqb-true}
use Rattle.basis.specs.Board.{pages_of}
use Rattle.basis.specs.Laws.Boards.{pages-few}
use Rattle.basis.specs.declared.board.Board.{Board}
use Rattle.course.specs.Course as course
use Rattle.course.specs.Laws.Course.{fitting}
use Rattle.order.specs.Laws.Totals.{total-most}
use Rattle.basis.specs.Laws.Choice.{decide}
use Rattle.basis.specs.Units.{map_bytes}
use Rattle.basis.specs.declared.kind.RunKind.{RunKind}
use Rattle.events.specs.Endings.{goes_on, asked}
use Rattle.events.specs.Laws.Endings.{ends_by}
use Rattle.events.specs.declared.event.Event.{Event}
use Rattle.order.specs.Laws.Steps.{stands-start, stands-below, first-start, follow-start}
use Rattle.order.specs.Plan.{total}
use Rattle.order.specs.declared.step.Step.{Step}
use Rattle.order.specs.Steps.{follow_of}
use Rattle.runs.specs.Pieces.{named_count}
use Rattle.session.specs.Phases.{after_of, awaits_of, on_start, reached_of}
use Rattle.session.specs.Session.{Session, quick, took_of, came_at, fits_of}
use Rattle.session.specs.declared.phase.Phase.{Phase}

-- ---- the phases to which events lead

module _ (board : ℕ) (m : List ℕ) (long : length m ≡ map_bytes board) (kind : RunKind) (k : ℕ) where
  -- no more packets are acknowledged than there are
  pub came-most : (ph : Phase) → came_at board m kind ph k ≡ true → k ≤ total board m kind
  came-most Phase.Greeting h = omega (arith, eqb-true k 0 h)
  came-most (Phase.Out s) h = omega (arith, stands-below board m long kind s k h)
  came-most (Phase.Ended o) h =
      ends_by (asked kind) o (total board m kind) k h (λ p q. omega arith) (λ l f. omega arith)

  -- the cursor stands at a start, and where it moves on it does so again
  pub came-start : (ph : Phase) → came_at board m kind ph k ≡ true → on_start board m ph ≡ true
  came-start Phase.Greeting h = refl
  came-start (Phase.Out s) h = stands-start board m long kind s k h
  came-start (Phase.Ended o) h = refl

  after-start : 0 < named_count board m → (ph : Phase) → came_at board m kind ph k ≡ true
      → on_start board m (after_of board m kind ph) ≡ true
  after-start some Phase.Greeting h = first-start board m long some kind
  after-start some (Phase.Out s) h = go (follow_of board m kind s) refl
    where
      go : (f : Option Step) → follow_of board m kind s ≡ f → on_start board m (reached_of kind f) ≡ true
      go (Some t) e = follow-start board m long some kind s t k h e
      go None e = refl
  after-start some (Phase.Ended o) h = refl

-- after any event the cursor stands at a start
pub took-start : (board : ℕ) (m : List ℕ) → length m ≡ map_bytes board → (s : Session) (e : Event)
    → fits_of board m s ≡ true → on_start board m (took_of board m s e).phase ≡ true
unfolding course.took_of
took-start board m long s e h =
    let f = fitting quick board m s h in
    decide (goes_on (awaits_of s.phase) e)
    (λ t. rw t (after-start board m long s.kind s.acknowledged f.some s.phase f.came-to))
    (λ t. rw t)

-- ---- a session that fits its board's file

module _ (b : Board) (m : List ℕ) (s : Session) (long : length m ≡ map_bytes (pages_of b))
    (h : fits_of (pages_of b) m s ≡ true) where
  -- its cursor stands at a start, before and after an event
  pub fits-ready : on_start (pages_of b) m s.phase ≡ true
  fits-ready =
      came-start (pages_of b) m long s.kind s.acknowledged s.phase (fitting quick (pages_of b) m s h).came-to

  -- and there is room for one acknowledgement more
  pub fits-few : s.acknowledged < 2 ^ 31
  fits-few =
      let f = fitting quick (pages_of b) m s h in
      omega (
        arith,
        came-most (pages_of b) m long s.kind s.acknowledged s.phase f.came-to,
        total-most (pages_of b) m s.kind,
        pages-few b,
      )

pub took-ready : (b : Board) (m : List ℕ) (s : Session) (e : Event) → length m ≡ map_bytes (pages_of b)
    → fits_of (pages_of b) m s ≡ true → on_start (pages_of b) m (took_of (pages_of b) m s e).phase ≡ true
took-ready b m s e long h = took-start (pages_of b) m long s e h
