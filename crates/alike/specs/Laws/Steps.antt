-- The plain session and the quick one are alike, step by step: for every record of a plain session, made up
-- or not, every file and every event.
use Rattle.std.specs.Prelude.{ℕ, ◌+◌, ◌<◌, Bool, true, false, not, List, [], ◌≡◌, refl, eqb, ltb, length, Option, Some, None}
use Rattle.std.proofs.Common.{sym, subst, ◌∙◌, arith, eqb-true, lt-ltb, ltb-true, ltb-false}
use Rattle.std.proofs.Math.Path.{ap}
use Rattle.std.proofs.lemmas.Bool.{eqb-false}
use Rattle.alike.specs.Alike.{plain_log, phase_of, quick_of, as_quick}
use Rattle.basis.specs.Board.{pages_of, board_of}
use Rattle.basis.specs.Choice.{both}
use Rattle.basis.specs.Laws.Choice.{decide, true-false}
use Rattle.basis.specs.Laws.Refusals.{stop}
use Rattle.basis.specs.Refusals.{given, on_board}
use Rattle.basis.specs.Units.{map_bytes}
use Rattle.basis.specs.declared.board.Board.{Board}
use Rattle.basis.specs.declared.kind.RunKind.{RunKind}
use Rattle.course.specs.Course as course
use Rattle.course.specs.Laws.Course as laws
use Rattle.events.specs.Endings.{goes_on, acknowledges}
use Rattle.events.specs.Events.{classify_of}
use Rattle.events.specs.declared.ending.Awaited.{Awaited}
use Rattle.events.specs.declared.event.Event.{Event}
use Rattle.order.specs.Laws.Plan.{plan-at}
use Rattle.order.specs.Laws.Sizes.{sizes-right}
use Rattle.order.specs.Laws.Steps.{stands-below, at-stands, first-at, follow-at}
use Rattle.order.specs.Laws.Totals.{total-some}
use Rattle.order.specs.Plan.{total}
use Rattle.order.specs.Sizes.{right_sizes}
use Rattle.order.specs.Steps.{step_at, stands_at}
use Rattle.plain.specs.Laws.Fits as fits
use Rattle.plain.specs.Plain as plain
use Rattle.plain.specs.Stages as stages
use Rattle.plain.specs.Plain.{Plain, by_number}
use Rattle.plain.specs.declared.stage.Stage.{Stage}
use Rattle.runs.specs.Pieces.{named_count}
use Rattle.service_log.specs.Laws.Sessions.{write-alike}
use Rattle.service_log.specs.Log.{logged_outcome_of, outcome_on, counts_by, write_of}
use Rattle.session.specs.Laws.Exact.{fits-series}
use Rattle.session.specs.Phases as phases
use Rattle.session.specs.Session as quick
use Rattle.session.specs.declared.phase.Phase.{Phase}
use Rattle.session.specs.Session.{Session}

-- ---- the start

pub same_start : (board : ℕ) (image m : List ℕ) (room : ℕ) (kind : RunKind)
    → quick.started board image m room kind ≡ as_quick m (plain.started board image m room kind)
same_start board image m room kind =
    decide (right_sizes board (length image) (length m) room)
    (λ r. decide (eqb (named_count board m) 0)
    (λ z. let e = eqb-true (named_count board m) 0 z in
    laws.start-empty quick.quick board image m room kind r e
    ∙ sym (ap (as_quick m) (laws.start-empty by_number board image m room kind r e)))
    (λ z. let n = eqb-false (named_count board m) 0 z in
    laws.start-given quick.quick board image m room kind r n
    ∙ sym (ap (as_quick m) (laws.start-given by_number board image m room kind r n))))
    (λ r. laws.start-size quick.quick board image m room kind r
    ∙ sym (ap (as_quick m) (laws.start-size by_number board image m room kind r)))

-- ---- 44: both have ended, or neither

pub ended_same : (board : ℕ) (m : List ℕ) (s : Stage) (k : ℕ)
    → phases.ended (phase_of board m s k) ≡ stages.ended s
ended_same board m Stage.Waiting k = refl
ended_same board m Stage.UnderWay k = refl
ended_same board m (Stage.Ended o) k = refl

-- ---- 46: both fit a file, or neither

-- the step after k acknowledgements stands in the file while one is left
left-stands : (board : ℕ) (m : List ℕ) → length m ≡ map_bytes board → (kind : RunKind) (k : ℕ)
    → stands_at board m kind (step_at board m k) k ≡ ltb k (total board m kind)
left-stands board m long kind k =
    decide (ltb k (total board m kind))
    (λ d. at-stands board m kind k (ltb-true _ _ d) ∙ sym d)
    (λ d. decide (stands_at board m kind (step_at board m k) k)
    (λ h. let l = stands-below board m long kind (step_at board m k) k h in
    absurd (omega (arith, l, ltb-false k (total board m kind) d)))
    (λ h. h ∙ sym d))

came_same : (board : ℕ) (m : List ℕ) → length m ≡ map_bytes board → (kind : RunKind) (s : Stage) (k : ℕ)
    → quick.came_at board m kind (phase_of board m s k) k ≡ stages.came_at kind (total board m kind) s k
came_same board m long kind Stage.Waiting k = refl
came_same board m long kind Stage.UnderWay k = left-stands board m long kind k
came_same board m long kind (Stage.Ended o) k = refl

-- two tests in a row, of which the second counts only where the first holds
both-with : (b : Bool) {x y : Bool} → (b ≡ true → x ≡ y) → both b x ≡ both b y
both-with true f = f refl
both-with false f = refl

pub same-fits : (board : ℕ) (m : List ℕ) → length m ≡ map_bytes board → (p : Plain)
    → quick.fits_of board m (quick_of m p) ≡ plain.fits_of board m p
unfolding course.fits_of course.came_of
same-fits board m long p =
    both-with (eqb p.board board)
    (λ b. both-with (ltb 0 (named_count board m))
    (λ z. both-with (eqb p.named (named_count board m))
    (λ n. both-with (eqb p.total (total board m p.kind))
    (λ t. ap (λ (x : ℕ). quick.came_at board m p.kind (phase_of x m p.phase p.acknowledged)
    p.acknowledged) (eqb-true p.board board b)
    ∙ came_same board m long p.kind p.phase p.acknowledged
    ∙ ap (λ (x : ℕ). stages.came_at p.kind x p.phase p.acknowledged)
    (sym (eqb-true p.total (total board m p.kind) t))))))

-- so a plain session that is not 46 stands where a start and events over the file lead the quick one
pub came-by : (board : ℕ) (m : List ℕ) → length m ≡ map_bytes board → (p : Plain)
    → plain.fits_of board m p ≡ true
    → (es : List Event) × (quick_of m p ≡ quick.series board m (quick.at_greeting board m p.kind) es)
came-by board m long p h = fits-series board m long (quick_of m p) (same-fits board m long p ∙ h)

-- ---- an event that is taken: the quick session goes where the plain one does

awaits-same : (board : ℕ) (m : List ℕ) (s : Stage) (k : ℕ)
    → phases.awaits_of (phase_of board m s k) ≡ stages.awaits_of s
awaits-same board m Stage.Waiting k = refl
awaits-same board m Stage.UnderWay k = refl
awaits-same board m (Stage.Ended o) k = refl

module _ (board : ℕ) (m : List ℕ) (long : length m ≡ map_bytes board) (some : 0 < named_count board m)
    (kind : RunKind) where
  -- where the cursor stands with n acknowledged is where the number n tells
  reached-same : (n : ℕ) → phases.phase_at board m kind n
      ≡ phase_of board m (stages.stage_at kind (total board m kind) n) n
  reached-same n = decide (ltb n (total board m kind)) (λ d. rw d) (λ d. rw d)

  -- the cursor that moves on stands at the packet of the next number
  after_same : (s : Stage) (k : ℕ) → stages.ended s ≡ false
      → stages.came_at kind (total board m kind) s k ≡ true
      → (let n = k + acknowledges (stages.awaits_of s) in
      phases.after_of board m kind (phase_of board m s k)
      ≡ phase_of board m (stages.stage_at kind (total board m kind) n) n)
  after_same Stage.Waiting k f h =
      let z : 0 ≡ k + 0 = omega (arith, eqb-true k 0 h) in
      let l = lt-ltb 0 (total board m kind) (total-some board m long some kind) in
      ap Phase.Out (first-at board m long some kind) ∙ first l
      ∙ ap (λ (n : ℕ). phase_of board m (stages.stage_at kind (total board m kind) n) n) z
    where
      first : ltb 0 (total board m kind) ≡ true
          → Phase.Out (step_at board m 0) ≡ phase_of board m (stages.stage_at kind (total board m kind) 0) 0
      first d = rw d
  after_same Stage.UnderWay k f h =
      ap (phases.reached_of kind) (follow-at board m long some kind k (ltb-true _ _ h)) ∙ reached-same (k + 1)
  after_same (Stage.Ended o) k f h = absurd (true-false f)

  -- with a packet left, both have the same one out
  packet-same : (image : List ℕ) (s : Stage) (k : ℕ) → stages.packet_left (total board m kind) s k ≡ true
      → phases.packet_out board image m kind (phase_of board m s k) ≡ plain.packet_out board image m kind s k
  packet-same image Stage.Waiting k h = refl
  packet-same image Stage.UnderWay k h = sym (plan-at board image m kind k [] (ltb-true _ _ h))
  packet-same image (Stage.Ended o) k h = refl

-- a plain session that fits its board's file and has not ended
module _ (m : List ℕ) (p : Plain) (long : length m ≡ map_bytes p.board)
    (f : laws.Fitting by_number p.board m p) (on : stages.ended p.phase ≡ false) (e : Event) where
  took-same : quick.took_of p.board m (quick_of m p) e ≡ quick_of m (plain.took_of p.board m p e)
  unfolding course.took_of
  took-same =
      ap (λ (w : Awaited). quick.heard_by p.board m s w e)
      (awaits-same p.board m p.phase p.acknowledged)
      ∙ decide (goes_on w e) (λ t. rw t (ap (λ (x : Phase). quick.moved_of s x (acknowledges w)) moves))
      (λ t. rw t)
    where
      s : Session
      s = quick_of m p

      w : Awaited
      w = stages.awaits_of p.phase

      n : ℕ
      n = p.acknowledged + acknowledges w

      moves : phases.after_of p.board m p.kind (phase_of p.board m p.phase p.acknowledged)
          ≡ phase_of p.board m (stages.stage_at p.kind p.total n) n
      moves =
          after_same p.board m long f.some p.kind p.phase p.acknowledged on
          (sym (ap (λ (x : ℕ). stages.came_at p.kind x p.phase p.acknowledged) f.total-is)
          ∙ f.came-to)
          ∙ ap (λ (x : ℕ). phase_of p.board m (stages.stage_at p.kind x n) n) (sym f.total-is)

  board-kept : (plain.took_of p.board m p e).board ≡ p.board
  unfolding course.took_of
  board-kept = decide (goes_on (stages.awaits_of p.phase) e) (λ t. rw t) (λ t. rw t)

  sent-same : (image : List ℕ) → quick.sent_of p.board image m (quick_of m p) e
      ≡ record {
        session = quick_of m (plain.took_of p.board m p e);
        packet = (plain.sent_of p.board image m p e).packet;
      }
  sent-same image =
      ap (λ (x : Session). record {
        session = x;
        packet = phases.packet_out p.board image m p.kind x.phase;
      }) took-same
      ∙ ap (λ (w : List ℕ). record { session = quick_of m (plain.took_of p.board m p e); packet = w })
      (ap (λ (b : ℕ).
      phases.packet_out p.board image m p.kind (phase_of b m t.phase t.acknowledged))
      board-kept
      ∙ packet-same p.board m long f.some p.kind image t.phase t.acknowledged
      (sym (ap (λ (x : ℕ). stages.packet_left x t.phase t.acknowledged) f.total-is)
      ∙ fits.took-left p.board m p e))
    where
      t : Plain
      t = plain.took_of p.board m p e

-- ---- a step

module _ (board : ℕ) (image m : List ℕ) (room : ℕ) (p : Plain) (e : Event) where
  -- one that fits, on its own board
  taken-same : length m ≡ map_bytes board → stages.ended p.phase ≡ false → plain.fits_of board m p ≡ true
      → quick.sent_of board image m (quick_of m p) e
      ≡ record {
        session = quick_of m (plain.took_of board m p e);
        packet = (plain.sent_of board image m p e).packet;
      }
  taken-same long on g = go board (laws.fitting by_number board m p g).board-is long g
    where
      go : (b : ℕ) → p.board ≡ b → length m ≡ map_bytes b → plain.fits_of b m p ≡ true
          → quick.sent_of b image m (quick_of m p) e
          ≡ record {
            session = quick_of m (plain.took_of b m p e);
            packet = (plain.sent_of b image m p e).packet;
          }
      go b q =
          subst (λ (x : ℕ). length m ≡ map_bytes x → plain.fits_of x m p ≡ true
          → quick.sent_of x image m (quick_of m p) e
          ≡ record {
            session = quick_of m (plain.took_of x m p e);
            packet = (plain.sent_of x image m p e).packet;
          }) q (λ l h. sent-same m p l (laws.fitting by_number p.board m p h) on e image)

  pub same_step : quick.step_of board image m room (quick_of m p) e
      ≡ as_quick m (plain.step_of board image m room p e)
  same_step =
      decide (right_sizes board (length image) (length m) room)
      (λ r. let long = (sizes-right board (length image) (length m) room r).1 in
      decide (stages.ended p.phase)
      (λ f. laws.step-ended quick.quick board image m room s e r (over ∙ f)
      ∙ sym (ap (as_quick m) (laws.step-ended by_number board image m room p e r f)))
      (λ f. decide (plain.fits_of board m p)
      (λ g. laws.step-taken quick.quick board image m room s e r (over ∙ f) (same-fits board m long p ∙ g)
      ∙ ap given (taken-same long f g)
      ∙ sym (ap (as_quick m) (laws.step-taken by_number board image m room p e r f g)))
      (λ g. laws.step-foreign quick.quick board image m room s e r (over ∙ f) (same-fits board m long p ∙ g)
      ∙ sym (ap (as_quick m) (laws.step-foreign by_number board image m room p e r f g)))))
      (λ r. laws.step-size quick.quick board image m room s e r
      ∙ sym (ap (as_quick m) (laws.step-size by_number board image m room p e r)))
    where
      s : Session
      s = quick_of m p

      over : phases.ended s.phase ≡ stages.ended p.phase
      over = ended_same p.board m p.phase p.acknowledged

-- by the board that each carries, and whatever comes: an answer's bytes or silence
pub same-stepped : (image m : List ℕ) (room : ℕ) (p : Plain) (silent : Bool) (answer : List ℕ)
    → quick.step_by image m room (quick_of m p) silent answer
    ≡ as_quick m (plain.step_by image m room p silent answer)
same-stepped image m room p silent answer = go (board_of p.board)
  where
    go : (x : Option Board)
        → on_board x (λ (b : Board). quick.step_of (pages_of b) image m room (quick_of m p)
        (classify_of (pages_of b) silent answer))
        ≡ as_quick m (on_board x (λ (b : Board). plain.step_of (pages_of b) image m room p
        (classify_of (pages_of b) silent answer)))
    go None = refl
    go (Some b) = same_step (pages_of b) image m room p (classify_of (pages_of b) silent answer)

-- ---- marks

pub same-mark : (board : ℕ) (m : List ℕ) (p : Plain) (a : ℕ)
    → quick.proved_of board m (quick_of m p) a ≡ plain.proved_of board m p a
unfolding course.proved_of
same-mark board m p a =
    decide (eqb (length m) (map_bytes board))
    (λ d. rw (same-fits board m (eqb-true (length m) (map_bytes board) d) p))
    (λ d. stop 20 _ _ _ (ap not d) ∙ sym (stop 20 _ _ _ (ap not d)))

pub same-proved : (m : List ℕ) (p : Plain) (a : ℕ)
    → quick.proved_by m (quick_of m p) a ≡ plain.proved_by m p a
same-proved m p a = go (board_of p.board)
  where
    go : (x : Option Board) → on_board x (λ (b : Board). quick.proved_of (pages_of b) m (quick_of m p) a)
        ≡ on_board x (λ (b : Board). plain.proved_of (pages_of b) m p a)
    go None = refl
    go (Some b) = same-mark (pages_of b) m p a

-- ---- outcome and log record

pub same_outcome : (m : List ℕ) (p : Plain) → logged_outcome_of (quick_of m p) ≡ plain.outcome_by p
same_outcome m p = go (board_of p.board) p.phase
  where
    go : (x : Option Board) (s : Stage) → outcome_on x p.kind (phase_of p.board m s p.acknowledged)
        ≡ plain.outcome_on x p.kind s
    go None s = refl
    go (Some b) Stage.Waiting = refl
    go (Some b) Stage.UnderWay = refl
    go (Some b) (Stage.Ended o) = refl

pub same_log : (m : List ℕ) (room : ℕ) (p : Plain) → write_of room (quick_of m p) ≡ plain_log room p
same_log m room p =
    write-alike room (quick_of m p)
    ∙ ap (λ (o : ℕ). counts_by p.board room o p.acknowledged p.total p.named) (same_outcome m p)
