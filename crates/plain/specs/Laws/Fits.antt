-- Laws of 46: what a plain session that fits a file has left.
use Rattle.std.specs.Prelude.{ℕ, ◌+◌, ◌≤◌, ◌<◌, ◌^◌, Bool, true, false, List, ◌≡◌, refl, eqb, ltb, length}
use Rattle.std.proofs.Common.{ap, ◌∙◌, arith, eqb-true, ltb-true}
use Rattle.basis.specs.Board.{pages_of}
use Rattle.basis.specs.Choice.{both}
use Rattle.basis.specs.Laws.Boards.{pages-few}
use Rattle.basis.specs.Laws.Choice.{decide, both-no}
use Rattle.basis.specs.Units.{map_bytes}
use Rattle.basis.specs.declared.board.Board.{Board}
use Rattle.basis.specs.declared.kind.RunKind.{RunKind}
use Rattle.course.specs.Course as course
use Rattle.course.specs.Laws.Course.{fitting}
use Rattle.events.specs.Endings.{goes_on, acknowledges, asked}
use Rattle.events.specs.Laws.Endings.{ends_by}
use Rattle.events.specs.declared.event.Event.{Event}
use Rattle.order.specs.Laws.Totals.{total-most}
use Rattle.order.specs.Plan.{total}
use Rattle.plain.specs.Plain.{Plain, by_number, took_of, fits_of}
use Rattle.plain.specs.Stages.{awaits_of, packet_left, came_at}
use Rattle.plain.specs.declared.stage.Stage.{Stage}
use Rattle.runs.specs.Pieces.{named_count}

-- one at a stage to which no events lead fits no file
both-none : (a : Bool) {b : Bool} → b ≡ false → both a b ≡ false
both-none a e = ap (both a) e ∙ both-no a

pub unreached : (board : ℕ) (m : List ℕ) (p : Plain)
    → came_at p.kind p.total p.phase p.acknowledged ≡ false → fits_of board m p ≡ false
unfolding course.fits_of course.came_of
unreached board m p e =
    both-none (eqb p.board board)
    (both-none (ltb 0 (named_count board m))
    (both-none (eqb p.named (named_count board m))
    (both-none (eqb p.total (total board m p.kind)) e)))

-- no more packets are acknowledged than there are
pub came-most : (kind : RunKind) (n : ℕ) (s : Stage) (k : ℕ) → came_at kind n s k ≡ true → k ≤ n
came-most kind n Stage.Waiting k h = omega (arith, eqb-true k 0 h)
came-most kind n Stage.UnderWay k h = omega (arith, ltb-true k n h)
came-most kind n (Stage.Ended o) k h =
    ends_by (asked kind) o n k h (λ p q. omega arith) (λ l f. omega arith)

-- one that is under way has a packet left; after any event too
pub came-left : (kind : RunKind) (n : ℕ) (s : Stage) (k : ℕ) → came_at kind n s k ≡ true
    → packet_left n s k ≡ true
came-left kind n Stage.Waiting k h = refl
came-left kind n Stage.UnderWay k h = h
came-left kind n (Stage.Ended o) k h = refl

pub took-left : (board : ℕ) (m : List ℕ) (p : Plain) (e : Event)
    → packet_left p.total (took_of board m p e).phase (took_of board m p e).acknowledged ≡ true
unfolding course.took_of
took-left board m p e =
    let w = awaits_of p.phase in
    decide (goes_on w e)
    (λ t. rw t (decide (ltb (p.acknowledged + acknowledges w) p.total) (λ d. rw d d) (λ d. rw d)))
    (λ t. rw t)

-- ---- a session that fits its board's file

module _ (b : Board) (m : List ℕ) (p : Plain) where
  -- it has a packet left where it is under way, before and after an event
  pub fits-ready : length m ≡ map_bytes (pages_of b) → fits_of (pages_of b) m p ≡ true
      → packet_left (total (pages_of b) m p.kind) p.phase p.acknowledged ≡ true
  fits-ready long h =
      let f = fitting by_number (pages_of b) m p h in
      rw (← f.total-is) (came-left p.kind p.total p.phase p.acknowledged f.came-to)

  -- and there is room for one acknowledgement more
  pub fits-few : length m ≡ map_bytes (pages_of b) → fits_of (pages_of b) m p ≡ true → p.acknowledged < 2 ^ 31
  fits-few long h =
      let f = fitting by_number (pages_of b) m p h in
      let k = came-most p.kind p.total p.phase p.acknowledged f.came-to in
      omega (arith, k, total-most (pages_of b) m p.kind, f.total-is, pages-few b)

  pub took-ready : (e : Event) → length m ≡ map_bytes (pages_of b) → fits_of (pages_of b) m p ≡ true
      → (let t = took_of (pages_of b) m p e in
      packet_left (total (pages_of b) m p.kind) t.phase t.acknowledged ≡ true)
  took-ready e long h =
      let f = fitting by_number (pages_of b) m p h in rw (← f.total-is) (took-left (pages_of b) m p e)
