-- Laws of every session, whatever it keeps of its place: each row of the tables of a start, a step and a
-- mark, what is given where no row holds, and what it is that a session fits a file.
use Rattle.std.specs.Prelude.{ℕ, ◌<◌, true, false, List, [], ◌∷◌, ◌≡◌, eqb, ltb, length}
use Rattle.std.proofs.Math.Bool.{not}
use Rattle.std.proofs.Common.{ap, ◌∙◌, eq-eqb, ne_eqb, eqb-true, ltb-true, lt-ltb}
use Rattle.basis.specs.Board.{opening_byte}
use Rattle.basis.specs.Laws.Choice.{both_true}
use Rattle.basis.specs.Laws.Refusals.{skip, stop, done}
use Rattle.basis.specs.Refusals.{refused, given}
use Rattle.basis.specs.Units.{map_bytes}
use Rattle.basis.specs.declared.kind.RunKind.{RunKind}
use Rattle.course.specs.Course.{Keeping, state_with, started, over_of, heard_by, sent_of, came_of, fits_of, step_of, proved_of}
use Rattle.course.specs.declared.state.State.{State}
use Rattle.events.specs.Endings.{goes_on}
use Rattle.events.specs.declared.ending.Awaited.{Awaited}
use Rattle.events.specs.declared.event.Event.{Event}
use Rattle.order.specs.Marks.{marked}
use Rattle.order.specs.Plan.{total}
use Rattle.order.specs.Sizes.{right_sizes}
use Rattle.runs.specs.Pieces.{named_count}

module _ {P : Type 0} (by : Keeping P) where
  -- ---- the start

  module _ (board : ℕ) (image m : List ℕ) (room : ℕ) (kind : RunKind) where
    pub start-size : right_sizes board (length image) (length m) room ≡ false
        → started by board image m room kind ≡ refused 20
    unfolding started
    start-size h = stop 20 _ _ _ (ap not h)

    module _ (h : right_sizes board (length image) (length m) room ≡ true) where
      pub start-empty : named_count board m ≡ 0 → started by board image m room kind ≡ refused 32
      unfolding started
      start-empty e = skip 20 _ _ _ (ap not h) ∙ stop 32 _ _ _ (eq-eqb _ _ e)

      pub start-given : (named_count board m ≡ 0 → ⊥)
          → started by board image m room kind
          ≡ given (record { session = state_with board m kind by.waiting 0; packet = opening_byte ∷ [] })
      unfolding started
      start-given n = skip 20 _ _ _ (ap not h) ∙ skip 32 _ _ _ (ne_eqb _ _ n) ∙ done _

  -- ---- a step

  module _ (board : ℕ) (image m : List ℕ) (room : ℕ) (s : State P) (e : Event) where
    pub step-size : right_sizes board (length image) (length m) room ≡ false
        → step_of by board image m room s e ≡ refused 20
    unfolding step_of
    step-size h = stop 20 _ _ _ (ap not h)

    module _ (h : right_sizes board (length image) (length m) room ≡ true) where
      pub step-ended : by.ended s.phase ≡ true → step_of by board image m room s e ≡ refused 44
      unfolding step_of
      step-ended f = skip 20 _ _ _ (ap not h) ∙ stop 44 _ _ _ f

      module _ (f : by.ended s.phase ≡ false) where
        pub step-foreign : fits_of by board m s ≡ false → step_of by board image m room s e ≡ refused 46
        unfolding step_of
        step-foreign g = skip 20 _ _ _ (ap not h) ∙ skip 44 _ _ _ f ∙ stop 46 _ _ _ (ap not g)

        pub step-taken : fits_of by board m s ≡ true
            → step_of by board image m room s e ≡ given (sent_of by board image m s e)
        unfolding step_of
        step-taken g = skip 20 _ _ _ (ap not h) ∙ skip 44 _ _ _ f ∙ skip 46 _ _ _ (ap not g) ∙ done _

  -- an event that is not the one awaited ends the session
  pub heard-over : (board : ℕ) (m : List ℕ) (s : State P) (w : Awaited) (e : Event) → goes_on w e ≡ false
      → heard_by by board m s w e ≡ over_of by s w e
  heard-over board m s w e h = rw h

  -- ---- a mark

  module _ (board : ℕ) (m : List ℕ) (s : State P) (a : ℕ) where
    pub mark-size : (length m ≡ map_bytes board → ⊥) → proved_of by board m s a ≡ refused 20
    unfolding proved_of
    mark-size n = stop 20 _ _ _ (ap not (ne_eqb _ _ n))

    module _ (long : length m ≡ map_bytes board) where
      pub mark-foreign : fits_of by board m s ≡ false → proved_of by board m s a ≡ refused 46
      unfolding proved_of
      mark-foreign g = skip 20 _ _ _ (ap not (eq-eqb _ _ long)) ∙ stop 46 _ _ _ (ap not g)

      pub mark-given : fits_of by board m s ≡ true
          → proved_of by board m s a ≡ given (marked board m s.acknowledged a)
      unfolding proved_of
      mark-given g = skip 20 _ _ _ (ap not (eq-eqb _ _ long)) ∙ skip 46 _ _ _ (ap not g) ∙ done _

  -- ---- 46

  -- the board is the session's, the file has a named byte, the session's counts are the file's, and its place
  -- is one to which events lead
  pub record Fitting (board : ℕ) (m : List ℕ) (s : State P) : Type 0 where
    pub board-is : s.board ≡ board
    pub some : 0 < named_count board m
    pub named-is : s.named ≡ named_count board m
    pub total-is : s.total ≡ total board m s.kind
    pub came-to : by.stands board m s ≡ true

  pub fitting : (board : ℕ) (m : List ℕ) (s : State P) → fits_of by board m s ≡ true → Fitting board m s
  unfolding fits_of came_of
  fitting board m s h =
      let o = both_true (eqb s.board board) _ h in
      let a = both_true (ltb 0 (named_count board m)) _ o.1 in
      let b = both_true (eqb s.named (named_count board m)) _ a.1 in
      let d = both_true (eqb s.total (total board m s.kind)) _ b.1 in
      record {
        board-is = eqb-true _ _ o.0;
        some = ltb-true _ _ a.0;
        named-is = eqb-true _ _ b.0;
        total-is = eqb-true _ _ d.0;
        came-to = d.1;
      }

  pub fits_by : (board : ℕ) (m : List ℕ) (s : State P) → Fitting board m s → fits_of by board m s ≡ true
  unfolding fits_of came_of
  fits_by board m s f =
      rw (
        eq-eqb s.board board f.board-is,
        lt-ltb 0 (named_count board m) f.some,
        eq-eqb s.named (named_count board m) f.named-is,
        eq-eqb s.total (total board m s.kind) f.total-is,
      ) f.came-to
