-- Laws of the quick session's start and steps: what is given where no row of their tables holds.
use Rattle.std.specs.Prelude.{ℕ, Bool, true, false, List, [], ◌∷◌, ◌≡◌, length, eqb}
use Rattle.std.proofs.Common.{sym, ap, ◌∙◌, arith, eqb-true}
use Rattle.std.proofs.lemmas.Bool.{eqb-false}
use Rattle.basis.specs.Board.{opening_byte, pages_of}
use Rattle.basis.specs.Laws.Boards.{board-back}
use Rattle.basis.specs.Laws.Choice.{decide}
use Rattle.basis.specs.Laws.Refusals.{done, passed, apart, given-one}
use Rattle.basis.specs.Refusals.{given}
use Rattle.basis.specs.declared.board.Board.{Board}
use Rattle.basis.specs.declared.kind.RunKind.{RunKind}
use Rattle.course.specs.Course as course
use Rattle.course.specs.Laws.Course as laws
use Rattle.events.specs.Endings.{goes_on}
use Rattle.events.specs.Events.{classify_of}
use Rattle.events.specs.declared.event.Event.{Event}
use Rattle.order.specs.Laws.Sizes.{sizes-right}
use Rattle.order.specs.Sizes.{right_sizes}
use Rattle.runs.specs.Pieces.{named_count}
use Rattle.session.specs.Phases.{ended, awaits_of}
use Rattle.session.specs.Session.{Session, Next, quick, at_greeting, Sent, measured, started, took_of, sent_of, fits_of, step_of, step_by, proved_of, proved_by, Loadable}

module _ (board : ℕ) (image m : List ℕ) (room : ℕ) (kind : RunKind) where
  pub start-given : right_sizes board (length image) (length m) room ≡ true → (named_count board m ≡ 0 → ⊥)
      → started board image m room kind
      ≡ given (record { session = at_greeting board m kind; packet = opening_byte ∷ [] })
  start-given = laws.start-given quick board image m room kind

  -- a start that is not refused has a file that can be loaded, and
  -- gives the session that waits for the greeting
  pub record Starts (y : Next) : Type 0 where
    pub file : Loadable board image m
    pub next-is : y ≡ record { session = at_greeting board m kind; len = 1 }
    pub started-is : started board image m room kind
        ≡ given (record { session = at_greeting board m kind; packet = opening_byte ∷ [] })

  pub starting : (y : Next) → given y ≡ measured (started board image m room kind) → Starts y
  starting y e =
      decide (right_sizes board (length image) (length m) room)
      (λ r. decide (eqb (named_count board m) 0)
      (λ z. let f = laws.start-empty quick board image m room kind r (eqb-true (named_count board m) 0 z) in
      absurd (apart (sym (e ∙ ap measured f))))
      (λ z. let n = eqb-false (named_count board m) 0 z in
      let b = sizes-right board (length image) (length m) room r in
      let g = start-given r n in
      record {
        file = record { right = b.0; long = b.1; some = omega arith };
        next-is = given-one (e ∙ ap measured g);
        started-is = g;
      }))
      (λ r. absurd (apart (sym (e ∙ ap measured (laws.start-size quick board image m room kind r)))))

-- a step that is not refused
pub step-taken : (board : ℕ) (image m : List ℕ) (room : ℕ) (s : Session) (e : Event)
    → right_sizes board (length image) (length m) room ≡ true → ended s.phase ≡ false
    → fits_of board m s ≡ true
    → step_of board image m room s e ≡ given (sent_of board image m s e)
step-taken = laws.step-taken quick

-- ---- the board that a session carries

-- no event changes it, nor does a step
took-board : (board : ℕ) (m : List ℕ) (s : Session) (e : Event) → (took_of board m s e).board ≡ s.board
unfolding course.took_of
took-board board m s e = decide (goes_on (awaits_of s.phase) e) (λ t. rw t) (λ t. rw t)

pub step-board : (board : ℕ) (image m : List ℕ) (room : ℕ) (s : Session) (e : Event) (x : Sent)
    → step_of board image m room s e ≡ given x → x.session.board ≡ s.board
unfolding course.step_of
step-board board image m room s e x g =
    let p = passed 20 _ _ _ g in
    let q = passed 44 _ _ _ p.1 in
    let r = passed 46 _ _ _ q.1 in
    sym (ap (λ (y : Sent). y.session.board) (given-one (sym (done _) ∙ r.1))) ∙ took-board board m s e

-- on it, step and mark are those of that board
module _ (b : Board) (s : Session) (own : s.board ≡ pages_of b) (image m : List ℕ) where
  pub step-own : (room : ℕ) (silent : Bool) (answer : List ℕ)
      → step_by image m room s silent answer
      ≡ step_of (pages_of b) image m room s (classify_of (pages_of b) silent answer)
  step-own room silent answer = rw (own, board-back b)

  pub proved-own : (a : ℕ) → proved_by m s a ≡ proved_of (pages_of b) m s a
  proved-own a = rw (own, board-back b)
