-- Laws of marks: a byte is marked by the ACK to the V that carries it, and R is out only when all named
-- bytes are, where it was asked for.
use Rattle.std.proofs.lemmas.Bool.{eqb-false}
use Rattle.std.proofs.Math.Bool.{true}
use Rattle.std.specs.Prelude.{List, ◌≡◌, eqb, length, get_or}
use Rattle.std.proofs.Math.Path.{refl, sym}
use Rattle.std.proofs.Common.{ap, subst, ◌∙◌, ℕ, ◌+◌, ◌≤◌, ◌<◌, arith, eqb-true, le-leb, leb-true}
use Rattle.basis.specs.Laws.Choice.{decide, both_true, both-second, both_false}
use Rattle.basis.specs.Refusals.{given}
use Rattle.basis.specs.Units.{start_of, map_bytes}
use Rattle.basis.specs.declared.kind.RunKind.{RunKind}
use Rattle.course.specs.Laws.Course.{fitting, mark-given}
use Rattle.order.specs.Laws.Plan.{plan-at}
use Rattle.order.specs.Laws.Steps.{ranked-is, ranked-by, stands-below, stands-at, at-stands, stands-r}
use Rattle.order.specs.Marks.{marked_from, marked}
use Rattle.order.specs.Plan.{sends_r, verify_packet, plan, total, before_r, before_verify}
use Rattle.order.specs.Steps.{verify_at, stands_at, packet_of}
use Rattle.order.specs.declared.step.Step.{Step}
use Rattle.runs.specs.Laws.Files.{bytes_past}
use Rattle.runs.specs.Laws.Pieces.{piece-passes, in-piece, rank-in, rank-some, passes-below}
use Rattle.runs.specs.Laws.Runs.{count-mono}
use Rattle.runs.specs.Map.{named}
use Rattle.runs.specs.Pieces.{piece_most, piece_starts, piece_len}
use Rattle.runs.specs.Runs.{count, home}
use Rattle.session.specs.Session.{Session, quick, came_at, fits_of, proved_of, Carried}
use Rattle.session.specs.declared.phase.Phase.{Phase}

-- V has the same place whatever the run kind: these laws look at hold's plan, with which each other begins
module _ (board : ℕ) (m : List ℕ) where
  -- the ACK to it marks the byte
  pub carried-marked : (j k s a : ℕ) → Carried board m j s a → j < k → marked board m k a ≡ true
  unfolding marked stands_at
  carried-marked j k s a h l =
      let t = ranked-is (piece_starts m) (before_verify board m) s j
      (sym (ap (λ (x : Step). stands_at board m RunKind.Hold x j) h.step)
      ∙ at-stands board m RunKind.Hold j (omega (arith, h.planned))) in
      let r : marked_from board m a ≤ k = omega
      (arith, rank-in (named m) piece_most s a t.0 h.from h.below) in
      both-second _ _ (piece-passes (named m) piece_most s a h.from h.below) ∙ le-leb _ _ r

  -- a mark stays, and only what is named is marked
  pub marked-kept : (j k a : ℕ) → j ≤ k → marked board m j a ≡ true → marked board m k a ≡ true
  unfolding marked
  marked-kept j k a l h =
      let b = both_true (named m a) _ h in
      let r : marked_from board m a ≤ k = omega (arith, leb-true (marked_from board m a) j b.1) in
      both-second _ _ b.0 ∙ le-leb _ _ r

  pub marked-named : (k a : ℕ) → marked board m k a ≡ true → named m a ≡ true
  unfolding marked
  marked-named k a h = (both_true (named m a) _ h).0

module _ (board : ℕ) (m : List ℕ) (long : length m ≡ map_bytes board) where
  -- every named byte is in the piece of one V of the plan, behind every E and W
  named-carried : (a : ℕ) → named m a ≡ true
      → (j : ℕ) × (s : ℕ) × (Carried board m j s a)
      × (j + 1 ≡ marked_from board m a)
  unfolding stands_at
  named-carried a t =
      let i = in-piece (named m) piece_most (omega arith) a t in
      let s : ℕ = home (named m) piece_most a in
      let j : ℕ = before_verify board m + count (piece_starts m) s in
      let h : stands_at board m RunKind.Hold (verify_at s) j ≡ true = ranked-by (piece_starts m)
      (before_verify board m) s j i.0 refl in (
        j,
        s,
        record {
          planned = omega (arith, stands-below board m long RunKind.Hold (verify_at s) j h);
          step = sym (stands-at board m long RunKind.Hold (verify_at s) j h);
          from = i.1;
          below = i.2;
        },
        omega (arith, rank-in (named m) piece_most s a i.0 i.1 i.2),
      )

  -- a marked byte was carried by the V of an acknowledged packet
  pub marked-carried : (k a : ℕ) → marked board m k a ≡ true
      → (j : ℕ) × (s : ℕ) × (j < k) × (Carried board m j s a)
  unfolding marked
  marked-carried k a h =
      let b = both_true (named m a) _ h in
      let v = named-carried a b.0 in
      (v.0, v.1, omega (arith, v.3, leb-true (marked_from board m a) k b.1), v.2)

  -- once every V is acknowledged every named byte is marked
  pub all-marked : (k a : ℕ) → before_r board m ≤ k → marked board m k a ≡ named m a
  unfolding marked
  all-marked k a l =
      decide (named m a)
      (λ t. let b = passes-below (named m) (start_of board) (bytes_past board m long) a t in
      let r : marked_from board m a ≤ k = omega
      (arith, count-mono (piece_starts m) (start_of board) (a + 1) (omega arith)) in
      both-second _ _ t ∙ le-leb _ _ r ∙ sym t)
      (λ t. both_false _ _ t ∙ sym t)

  r-out : (s : Session) → fits_of board m s ≡ true → s.phase ≡ Phase.Out Step.Run
      → (sends_r s.kind ≡ true) × (before_r board m ≡ s.acknowledged)
  r-out s h e =
      stands-r board m s.kind s.acknowledged
      (sym (ap (λ (ph : Phase). came_at board m s.kind ph s.acknowledged) e)
      ∙ (fitting quick board m s h).came-to)

  -- so R is out only when every named byte is marked
  pub r-marked : (s : Session) (a : ℕ) → fits_of board m s ≡ true → s.phase ≡ Phase.Out Step.Run
      → marked board m s.acknowledged a ≡ named m a
  r-marked s a h e = all-marked s.acknowledged a (omega (arith, (r-out s h e).1))

  -- and only where it was asked for: a hold record in R's phase came from no start
  pub r-asked : (s : Session) → fits_of board m s ≡ true → s.phase ≡ Phase.Out Step.Run
      → sends_r s.kind ≡ true
  r-asked s h e = (r-out s h e).0

  -- in the plan's own terms
  pub named-verified : (image : List ℕ) (kind : RunKind) (a : ℕ) (d : List ℕ) → named m a ≡ true
      → (j : ℕ) × (s : ℕ) × (j < total board m kind)
      × (get_or (plan board image m kind) j d ≡ verify_packet image m s)
      × (s ≤ a) × (a < s + piece_len m s)
  named-verified image kind a d t =
      let v = named-carried a t in
      let h = v.2 in (
        v.0,
        v.1,
        omega (arith, h.planned),
        plan-at board image m kind v.0 d (omega (arith, h.planned))
            ∙ ap (packet_of board image m kind) h.step,
        h.from,
        h.below,
      )

  -- no byte is marked before the first V is acknowledged
  pub marked-late : (k a : ℕ) → marked board m k a ≡ true → before_verify board m < k
  unfolding marked
  marked-late k a h =
      let b = both_true (named m a) _ h in
      omega (
        arith,
        rank-some (named m) piece_most (omega arith) a b.0,
        leb-true (marked_from board m a) k b.1,
      )

  -- one more acknowledgement marks the piece of its V, and nothing else
  pub marked_more : {R : Type 0} (k a : ℕ) → marked board m (k + 1) a ≡ true → (marked board m k a ≡ true → R)
      → ((s : ℕ) → Carried board m k s a → R) → R
  marked_more {R} k a h old new =
      let v = marked-carried (k + 1) a h in
      decide (eqb v.0 k)
      (λ t. new v.1 (subst (λ (j : ℕ). Carried board m j v.1 a) (eqb-true v.0 k t) v.3))
      (λ t. old (carried-marked board m v.0 k v.1 a v.3 (omega (arith, v.2, eqb-false v.0 k t))))

  -- over its own file the session's `proved` says what is marked
  pub proved-is : (s : Session) (a : ℕ) → fits_of board m s ≡ true
      → proved_of board m s a ≡ given (marked board m s.acknowledged a)
  proved-is s a h = mark-given quick board m s a long h
