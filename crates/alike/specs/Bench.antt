-- A loader on the bench: demand 3 for the plain session, in the words that it has for the quick one.
use Rattle.std.specs.Prelude.{ℕ, zero, suc, true, List, [], ◌∷◌, ◌≡◌}
use Rattle.alike.specs.Alike.{quick_of}
use Rattle.basis.specs.Board.{opening_byte}
use Rattle.basis.specs.Choice.{pick}
use Rattle.basis.specs.Refusals.{Answer, refused, given}
use Rattle.basis.specs.declared.kind.RunKind.{RunKind}
use Rattle.events.specs.Endings.{asked}
use Rattle.events.specs.declared.ending.Outcome.{Outcome}
use Rattle.line.specs.Demand.{Stands, Untouched}
use Rattle.line.specs.Line as line
use Rattle.line.specs.declared.exchange.Loss.{Loss}
use Rattle.loader.specs.State.{reset_of}
use Rattle.loader.specs.declared.state.Loader.{Loader}
use Rattle.packet.specs.Packet.{packet_most, command}
use Rattle.packet.specs.Table.{run_byte}
use Rattle.plain.specs.Plain.{Plain, Sent, plain_with, step_of, proved_of}
use Rattle.plain.specs.Stages.{ended}
use Rattle.plain.specs.declared.stage.Stage.{Stage}
use Rattle.runs.specs.Map.{named}

-- what stands at a moment: the loader and its flash, the plain session, and what it has sent last
pub record Moment : Type 0 where
  pub loader : Loader
  pub flash : List ℕ
  pub plain : Plain
  pub wire : List ℕ

-- the same with the quick session where the plain one stands
abbrev pub quick_moment : List ℕ → Moment → line.Moment
quick_moment m x =
    record { loader = x.loader; flash = x.flash; session = quick_of m x.plain; wire = x.wire }

-- a freshly reset loader, and a plain session just started: the opening byte is on the wire
abbrev pub begun : ℕ → List ℕ → RunKind → Loader → List ℕ → Moment
begun board m kind l f =
    record {
      loader = reset_of l;
      flash = f;
      plain = plain_with board m kind Stage.Waiting 0;
      wire = opening_byte ∷ [];
    }

-- between the loader's step and the session's
abbrev pub between : ℕ → Loss → Moment → Moment
between board o x =
    let e = line.delivered board o x.loader x.wire x.flash in
    record { loader = e.loader; flash = e.flash; plain = x.plain; wire = x.wire }

-- what the session hears: no answer is silence
abbrev pub reply : ℕ → Loss → Moment → List ℕ
reply board o x = line.arrives board o x.loader x.wire x.flash

-- one exchange: the loader's step, then the session's
abbrev pub steps_on : Moment → Answer Sent → Moment
steps_on x (refused n) = x
steps_on x (given s) = record { loader = x.loader; flash = x.flash; plain = s.session; wire = s.packet }

abbrev pub exchange_of : ℕ → List ℕ → List ℕ → Loss → Moment → Moment
exchange_of board image m o x =
    steps_on (between board o x)
    (step_of board image m packet_most x.plain (line.event_from board (reply board o x)))

-- a load: what stands after n exchanges from the start on, each with its loss; after the end there are none
unfoldable pub load_at : ℕ → List ℕ → List ℕ → RunKind → Loader → (ℕ → Loss) → List ℕ → ℕ → Moment
load_at board image m kind l losses before zero = begun board m kind l before
load_at board image m kind l losses before (suc n) =
    let x = load_at board image m kind l losses before n in
    pick (ended x.plain.phase) x (exchange_of board image m (losses n) x)

-- the byte is marked proved: the plain session's own `proved`, on its board, says so; every file byte is
abbrev pub Proved : ℕ → List ℕ → Plain → ℕ → Type 0
Proved board m p a = proved_of board m p a ≡ given true

abbrev pub AllProved : ℕ → List ℕ → Plain → Type 0
AllProved board m p = (a : ℕ) → named m a ≡ true → Proved board m p a

-- a run packet is on the wire
abbrev pub RunOut : Moment → Type 0
RunOut x = command x.wire ≡ run_byte

-- the session has ended valid; or verified and held; or as asked
abbrev pub Valid : Plain → Type 0
Valid p = p.phase ≡ Stage.Ended Outcome.Valid

abbrev pub Held : Plain → Type 0
Held p = p.phase ≡ Stage.Ended Outcome.Held

abbrev pub AsAsked : RunKind → Plain → Type 0
AsAsked kind p = p.phase ≡ Stage.Ended (asked kind)

-- the moment is safe, where flash was `before` at the start, and start was told the run kind
pub record Safe (board : ℕ) (image m before : List ℕ) (kind : RunKind) (x : Moment) : Type 0 where
  -- each byte marked proved stands in flash as in the file, pages the file does not touch are as before
  pub proved-stands : (a : ℕ) → Proved board m x.plain a → Stands x.flash image a
  pub untouched-stays : Untouched m before x.flash
  -- no run packet goes out and no session ends valid or held until every file byte is proved
  pub run-proved : RunOut x → AllProved board m x.plain
  pub valid-proved : Valid x.plain → AllProved board m x.plain
  pub held-proved : Held x.plain → AllProved board m x.plain
  -- to hold no run packet goes out at all, and the session is not valid; no other is held
  pub hold-still : kind ≡ RunKind.Hold → RunOut x → ⊥
  pub hold-invalid : kind ≡ RunKind.Hold → Valid x.plain → ⊥
  pub held-hold : Held x.plain → kind ≡ RunKind.Hold
