-- The session of a load carries the load's board from the start on, so what its own `step` and `proved` say
-- is what demand 3 speaks of.
use Rattle.std.specs.Prelude.{Bool, List, ◌≡◌}
use Rattle.std.proofs.Math.Path.{refl}
use Rattle.std.proofs.Common.{◌∙◌, ℕ, zero, suc}
use Rattle.basis.specs.Board.{pages_of}
use Rattle.basis.specs.Laws.Choice.{decide}
use Rattle.basis.specs.Refusals.{Answer, refused, given}
use Rattle.basis.specs.declared.board.Board.{Board}
use Rattle.basis.specs.declared.kind.RunKind.{RunKind}
use Rattle.events.specs.Events.{classify_of}
use Rattle.line.specs.Line.{Moment, between, stepped, steps_on, event_from, reply, exchange_of, moment_at, load_at}
use Rattle.line.specs.declared.exchange.Loss.{Loss}
use Rattle.loader.specs.declared.state.Loader.{Loader}
use Rattle.packet.specs.Packet.{packet_most}
use Rattle.session.specs.Laws.Steps.{step-board, step-own, proved-own}
use Rattle.session.specs.Phases.{ended}
use Rattle.session.specs.Session.{Sent, step_of, step_by, proved_of, proved_by}

module _ (board : ℕ) (image m : List ℕ) where
  -- no exchange changes it
  exchange-board : (o : Loss) (x : Moment) → (exchange_of board image m o x).session.board ≡ x.session.board
  unfolding exchange_of
  exchange-board o x = go (stepped board image m o x) refl
    where
      go : (a : Answer Sent) → stepped board image m o x ≡ a
          → (steps_on (between board o x) a).session.board ≡ x.session.board
      go (refused n) e = refl
      go (given s) e =
          step-board board image m packet_most x.session (event_from board (reply board o x)) s e

  moment-board : (losses : ℕ → Loss) (x : Moment) (n : ℕ)
      → (moment_at board image m losses x n).session.board ≡ x.session.board
  unfolding moment_at
  moment-board losses x zero = refl
  moment-board losses x (suc n) =
      decide (ended (moment_at board image m losses x n).session.phase)
      (λ t. rw t (moment-board losses x n))
      (λ t. rw t (exchange-board (losses n) (moment_at board image m losses x n) ∙ moment-board losses x n))

-- loader, file and session of one board
module _ (b : Board) (image m before : List ℕ) (kind : RunKind) (l : Loader) (losses : ℕ → Loss) (n : ℕ) where
  abbrev now : Moment
  now = load_at (pages_of b) image m kind l losses before n

  pub carried : now.session.board ≡ pages_of b
  carried = moment-board (pages_of b) image m losses _ n

  pub carried_step : (room : ℕ) (silent : Bool) (answer : List ℕ)
      → step_by image m room now.session silent answer
      ≡ step_of (pages_of b) image m room now.session (classify_of (pages_of b) silent answer)
  carried_step = step-own b now.session carried image m

  pub carried-proved : (a : ℕ) → proved_by m now.session a ≡ proved_of (pages_of b) m now.session a
  carried-proved = proved-own b now.session carried image m
