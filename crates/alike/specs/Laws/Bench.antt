-- Demand 3 for the plain session: a load on the bench is the quick one's, moment by moment, so what is proved
-- of that (`line` Laws/Demand) holds of it.
use Rattle.std.specs.Prelude.{Bool, true, false, List, [], ◌≡◌, length, get_or}
use Rattle.std.proofs.Math.Path.{refl, sym, ap}
use Rattle.std.proofs.Common.{subst, ◌∙◌, ℕ, zero, suc, ◌+◌, ◌≤◌, ◌<◌}
use Rattle.alike.specs.Alike.{phase_of, quick_of, as_quick}
use Rattle.alike.specs.Bench.{Moment, quick_moment, between, reply, steps_on, exchange_of, load_at, AllProved, Valid, Held, AsAsked, Safe}
use Rattle.alike.specs.Laws.Steps.{ended_same, same_step, same-mark}
use Rattle.basis.specs.Choice.{pick}
use Rattle.basis.specs.Laws.Choice.{decide}
use Rattle.basis.specs.Lists.{Bytes}
use Rattle.basis.specs.Refusals.{Answer, refused, given}
use Rattle.basis.specs.Units.{start_of}
use Rattle.basis.specs.declared.kind.RunKind.{RunKind}
use Rattle.events.specs.Endings.{asked}
use Rattle.events.specs.declared.ending.Outcome.{Outcome}
use Rattle.line.specs.Demand as demand
use Rattle.line.specs.Laws.Demand as laws
use Rattle.line.specs.Line as line
use Rattle.line.specs.declared.exchange.Loss.{Loss}
use Rattle.loader.specs.declared.state.Loader.{Loader}
use Rattle.order.specs.Plan.{total}
use Rattle.packet.specs.Packet.{packet_most}
use Rattle.plain.specs.Plain as plain
use Rattle.plain.specs.Stages.{ended}
use Rattle.plain.specs.declared.stage.Stage.{Stage}
use Rattle.runs.specs.Map.{named}
use Rattle.session.specs.Phases as phases
use Rattle.session.specs.Session.{Loadable}
use Rattle.session.specs.declared.phase.Phase.{Phase}

-- ---- moment by moment

steps-same : (m : List ℕ) (x : Moment) (a : Answer plain.Sent)
    → line.steps_on (quick_moment m x) (as_quick m a) ≡ quick_moment m (steps_on x a)
steps-same m x (refused n) = refl
steps-same m x (given s) = refl

exchange-same : (board : ℕ) (image m : List ℕ) (o : Loss) (x : Moment)
    → line.exchange_of board image m o (quick_moment m x) ≡ quick_moment m (exchange_of board image m o x)
unfolding line.exchange_of
exchange-same board image m o x =
    let e = line.event_from board (reply board o x) in
    ap (line.steps_on (quick_moment m (between board o x)))
    (same_step board image m packet_most x.plain e)
    ∙ steps-same m (between board o x) (plain.step_of board image m packet_most x.plain e)

-- after the end neither goes on
turn-same : (board : ℕ) (image m : List ℕ) (o : Loss) (x : Moment)
    → pick (phases.ended (quick_moment m x).session.phase) (quick_moment m x)
    (line.exchange_of board image m o (quick_moment m x))
    ≡ quick_moment m (pick (ended x.plain.phase) x (exchange_of board image m o x))
turn-same board image m o x =
    let over = ended_same x.plain.board m x.plain.phase x.plain.acknowledged in
    let y = exchange_of board image m o x in
    let z = line.exchange_of board image m o (quick_moment m x) in
    ap (λ (b : Bool). pick b (quick_moment m x) z) over
    ∙ decide (ended x.plain.phase)
    (λ t. rw t)
    (λ t. rw t (exchange-same board image m o x))

-- the stage that a phase tells
stage_of : Phase → Stage
stage_of Phase.Greeting = Stage.Waiting
stage_of (Phase.Out s) = Stage.UnderWay
stage_of (Phase.Ended o) = Stage.Ended o

stage-back : (board : ℕ) (m : List ℕ) (s : Stage) (k : ℕ) → stage_of (phase_of board m s k) ≡ s
unfolding stage_of
stage-back board m Stage.Waiting k = refl
stage-back board m Stage.UnderWay k = refl
stage-back board m (Stage.Ended o) k = refl

-- what is safe with the quick session is safe with the plain one
safe-of : (board : ℕ) (image m before : List ℕ) (kind : RunKind) (x : Moment)
    → demand.Safe board image m before kind (quick_moment m x) → Safe board image m before kind x
safe-of board image m before kind x q =
    record {
      proved-stands = λ a h. q.proved-stands a (same-mark board m x.plain a ∙ h);
      untouched-stays = q.untouched-stays;
      run-proved = λ r. all (q.run-proved r);
      valid-proved = λ v. all (q.valid-proved (phase v));
      held-proved = λ v. all (q.held-proved (phase v));
      hold-still = q.hold-still;
      hold-invalid = λ h v. q.hold-invalid h (phase v);
      held-hold = λ v. q.held-hold (phase v);
    }
  where
    all : demand.AllProved board m (quick_of m x.plain) → AllProved board m x.plain
    all h a t = sym (same-mark board m x.plain a) ∙ h a t

    phase : {o : Outcome} → x.plain.phase ≡ Stage.Ended o
        → (quick_of m x.plain).phase ≡ Phase.Ended o
    phase v = ap (λ (s : Stage). phase_of x.plain.board m s x.plain.acknowledged) v

-- ---- demand 3

-- one file with at least one named byte, one run kind; the loader with any protection and any key, any flash;
-- any losses
module _ (board : ℕ) (few : board ≤ 255) (image m before : List ℕ) (file : Loadable board image m)
    (bytes : Bytes image) (kind : RunKind) (l : Loader)
    (size : length before ≡ start_of board) (losses : ℕ → Loss) where
  -- a load on the bench is the quick one's
  pub load_same : (n : ℕ) → line.load_at board image m kind l losses before n
      ≡ quick_moment m (load_at board image m kind l losses before n)
  unfolding load_at line.moment_at
  load_same zero = refl
  load_same (suc n) =
      ap (λ (y : line.Moment). pick (phases.ended y.session.phase) y
      (line.exchange_of board image m (losses n) y)) (load_same n)
      ∙ turn-same board image m (losses n) (load_at board image m kind l losses before n)

  -- so its phase is the stage's
  ended-load : (n : ℕ) → phases.ended (line.load_at board image m kind l losses before n).session.phase
      ≡ ended (load_at board image m kind l losses before n).plain.phase
  ended-load n =
      let p = (load_at board image m kind l losses before n).plain in
      ap (λ (y : line.Moment). phases.ended y.session.phase) (load_same n)
      ∙ ended_same p.board m p.phase p.acknowledged

  stage-load : (n : ℕ) (o : Outcome)
      → (line.load_at board image m kind l losses before n).session.phase ≡ Phase.Ended o
      → (load_at board image m kind l losses before n).plain.phase ≡ Stage.Ended o
  unfolding stage_of
  stage-load n o e =
      let p = (load_at board image m kind l losses before n).plain in
      sym (stage-back p.board m p.phase p.acknowledged)
      ∙ ap stage_of (sym (ap (λ (y : line.Moment). y.session.phase) (load_same n)) ∙ e)

  -- 1. every moment is safe
  pub bench-safe : (n : ℕ) → Safe board image m before kind (load_at board image m kind l losses before n)
  bench-safe n =
      safe-of board image m before kind (load_at board image m kind l losses before n)
      (subst (demand.Safe board image m before kind) (load_same n)
      (laws.safe board few image m before file bytes kind l size losses n))

  pub bench-safe-amid : (n : ℕ) → ended (load_at board image m kind l losses before n).plain.phase ≡ false
      → Safe board image m before kind
      (between board (losses n) (load_at board image m kind l losses before n))
  bench-safe-amid n h =
      safe-of board image m before kind
      (between board (losses n) (load_at board image m kind l losses before n))
      (subst (λ (y : line.Moment). demand.Safe board image m before kind (line.between board (losses n) y))
      (load_same n)
      (laws.safe-amid board few image m before file bytes kind l size losses n (ended-load n ∙ h)))

  -- 2. with nothing lost and no protection in the way it ends as asked, and flash has every file byte
  pub bench-as-asked : ((n : ℕ) → losses n ≡ Loss.Whole) → demand.Free m l → (n : ℕ)
      → total board m kind < n
      → (AsAsked kind (load_at board image m kind l losses before n).plain)
      × ((a : ℕ) → named m a ≡ true
      → demand.Stands (load_at board image m kind l losses before n).flash image a)
  bench-as-asked whole free n b =
      let v = laws.as-asked board few image m before file bytes kind l size losses whole free n b in (
        stage-load n (asked kind) v.0,
        λ a t. sym (ap (λ (y : line.Moment). get_or y.flash a 0) (load_same n)) ∙ v.1 a t,
      )

  -- 3. if any exchange of the load brings no answer it ends with 40, and never valid nor held
  module _ (i : ℕ) (goes-on : ended (load_at board image m kind l losses before i).plain.phase ≡ false)
      (no_answer : reply board (losses i) (load_at board image m kind l losses before i) ≡ []) where
    unanswered : line.reply board (losses i) (line.load_at board image m kind l losses before i) ≡ []
    unanswered = ap (line.reply board (losses i)) (load_same i) ∙ no_answer

    pub bench-silent : (n : ℕ) → i < n
        → (load_at board image m kind l losses before n).plain.phase ≡ Stage.Ended Outcome.Silence
    bench-silent n b =
        stage-load n Outcome.Silence
        (laws.silent board few image m before file bytes kind l size losses i (ended-load i ∙ goes-on)
        unanswered n b)

    good : (n : ℕ) {o : Outcome} → (load_at board image m kind l losses before n).plain.phase ≡ Stage.Ended o
        → (line.load_at board image m kind l losses before n).session.phase ≡ Phase.Ended o
    good n v =
        let p = (load_at board image m kind l losses before n).plain in
        ap (λ (y : line.Moment). y.session.phase) (load_same n)
        ∙ ap (λ (s : Stage). phase_of p.board m s p.acknowledged) v

    pub bench-never-valid : (n : ℕ) → Valid (load_at board image m kind l losses before n).plain → ⊥
    bench-never-valid n v =
        laws.never-valid board few image m before file bytes kind l size losses i (ended-load i ∙ goes-on)
        unanswered n (good n v)

    pub bench-never-held : (n : ℕ) → Held (load_at board image m kind l losses before n).plain → ⊥
    bench-never-held n v =
        laws.never-held board few image m before file bytes kind l size losses i (ended-load i ∙ goes-on)
        unanswered n (good n v)

  -- a load ends by itself, after at most the total and one exchange more
  pub bench-finite : ended (load_at board image m kind l losses before (total board m kind + 1)).plain.phase
      ≡ true
  bench-finite =
      sym (ended-load (total board m kind + 1))
      ∙ laws.finite board few image m before file bytes kind l size losses
