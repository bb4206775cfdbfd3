-- What it is that the plain session and the quick one are alike.
use Rattle.std.specs.Prelude.{ℕ, Bool, List, [], ◌∷◌}
use Rattle.basis.specs.Refusals.{Answer, refused, given}
use Rattle.basis.specs.declared.kind.RunKind.{RunKind}
use Rattle.order.specs.Steps.{step_at}
use Rattle.plain.specs.Plain as plain
use Rattle.plain.specs.Plain.{Plain}
use Rattle.plain.specs.declared.stage.Stage.{Stage}
use Rattle.service_log.specs.Log.{logged_outcome_of, counts_by, write_of}
use Rattle.session.specs.Session as quick
use Rattle.session.specs.declared.phase.Phase.{Phase}
use Rattle.session.specs.Session.{Session}

-- the log record of a plain session, into a buffer of so many bytes
abbrev pub plain_log : ℕ → Plain → Answer (List ℕ)
plain_log room p = counts_by p.board room (plain.outcome_by p) p.acknowledged p.total p.named

-- the quick session where a plain one stands: its cursor is at the packet whose number is how many are
-- acknowledged
abbrev pub phase_of : ℕ → List ℕ → Stage → ℕ → Phase
phase_of board m Stage.Waiting k = Phase.Greeting
phase_of board m Stage.UnderWay k = Phase.Out (step_at board m k)
phase_of board m (Stage.Ended o) k = Phase.Ended o

abbrev pub quick_of : List ℕ → Plain → Session
quick_of m p =
    record {
      board = p.board;
      kind = p.kind;
      phase = phase_of p.board m p.phase p.acknowledged;
      acknowledged = p.acknowledged;
      total = p.total;
      named = p.named;
    }

-- the same refusal, or the same packet with the quick session where the plain one then stands
abbrev pub as_quick : List ℕ → Answer plain.Sent → Answer quick.Sent
as_quick m (refused n) = refused n
as_quick m (given x) = given (record { session = quick_of m x.session; packet = x.packet })

-- ---- a whole session, as one sees it from outside

-- what a session hears: no answer, whatever the bytes, or an answer's bytes
pub record Heard : Type 0 where
  pub silent : Bool
  pub answer : List ℕ

-- what it shows of each: the packet that it sends, how it ended (45 while it has not), how many packets are
-- acknowledged, and its log record
pub record Shown : Type 0 where
  pub packet : List ℕ
  pub outcome : ℕ
  pub acknowledged : ℕ
  pub log : Answer (List ℕ)

-- of a step: the refusal, or what is shown; and the session that goes on, which a refusal leaves as it was
module _ (log_room : ℕ) where
  abbrev pub quick_shows : Answer quick.Sent → Answer Shown
  quick_shows (refused n) = refused n
  quick_shows (given x) =
      given (record {
        packet = x.packet;
        outcome = logged_outcome_of x.session;
        acknowledged = x.session.acknowledged;
        log = write_of log_room x.session;
      })

  abbrev pub plain_shows : Answer plain.Sent → Answer Shown
  plain_shows (refused n) = refused n
  plain_shows (given x) =
      given (record {
        packet = x.packet;
        outcome = plain.outcome_by x.session;
        acknowledged = x.session.acknowledged;
        log = plain_log log_room x.session;
      })

abbrev pub quick_next : Session → Answer quick.Sent → Session
quick_next s (refused n) = s
quick_next s (given x) = x.session

abbrev pub plain_next : Plain → Answer plain.Sent → Plain
plain_next p (refused n) = p
plain_next p (given x) = x.session

-- step by step, what each shows of all that it hears over one file, into buffers of so many bytes
module _ (image m : List ℕ) (room log_room : ℕ) where
  unfoldable pub quick_talk : Session → List Heard → List (Answer Shown)
  quick_talk s [] = []
  quick_talk s (h ∷ hs) =
      let a = quick.step_by image m room s h.silent h.answer in
      quick_shows log_room a ∷ quick_talk (quick_next s a) hs

  unfoldable pub plain_talk : Plain → List Heard → List (Answer Shown)
  plain_talk p [] = []
  plain_talk p (h ∷ hs) =
      let a = plain.step_by image m room p h.silent h.answer in
      plain_shows log_room a ∷ plain_talk (plain_next p a) hs

  -- and from a start on: its own answer first; a refused start has no session
  abbrev pub quick_after : Answer quick.Sent → List Heard → List (Answer Shown)
  quick_after (refused n) hs = []
  quick_after (given x) hs = quick_talk x.session hs

  abbrev pub plain_after : Answer plain.Sent → List Heard → List (Answer Shown)
  plain_after (refused n) hs = []
  plain_after (given x) hs = plain_talk x.session hs

  abbrev pub quick_all : ℕ → RunKind → List Heard → List (Answer Shown)
  quick_all board kind hs =
      let a = quick.started board image m room kind in quick_shows log_room a ∷ quick_after a hs

  abbrev pub plain_all : ℕ → RunKind → List Heard → List (Answer Shown)
  plain_all board kind hs =
      let a = plain.started board image m room kind in plain_shows log_room a ∷ plain_after a hs
