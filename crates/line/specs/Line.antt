-- A loader and a session on one line: what an exchange makes of them, and what stands after so many.
use Rattle.std.specs.Prelude.{ℕ, zero, suc, ◌+◌, not, List, [], ◌∷◌, ◌≡◌, eqb, length, get_or, take}
use Rattle.basis.specs.Board.{answer_most, opening_byte}
use Rattle.basis.specs.Choice.{pick, both}
use Rattle.basis.specs.Lists.{overlay}
use Rattle.basis.specs.Refusals.{Answer, refused, given, ◌when◌, first}
use Rattle.basis.specs.Units.{start_of}
use Rattle.basis.specs.declared.kind.RunKind.{RunKind}
use Rattle.events.specs.Events.{classify_of}
use Rattle.events.specs.declared.event.Event.{Event}
use Rattle.line.specs.declared.exchange.Link.{Link}
use Rattle.line.specs.declared.exchange.Loss.{Loss}
use Rattle.line.specs.declared.rehearse.Load.{Load}
use Rattle.loader.specs.Commands.{Effect, effect_after}
use Rattle.loader.specs.State.{reset_of}
use Rattle.loader.specs.Take.{take_of, answer_bytes}
use Rattle.loader.specs.declared.state.Loader.{Loader}
use Rattle.order.specs.Plan.{total}
use Rattle.order.specs.Sizes.{right_sizes}
use Rattle.runs.specs.Pieces.{named_count}
use Rattle.session.specs.Phases.{ended}
use Rattle.session.specs.Session.{Session, Sent, sent_bytes, at_greeting, step_of}
use Rattle.packet.specs.Packet.{packet_most}

-- what stands at a moment: the loader and its flash, the session, and what it has sent last
pub record Moment : Type 0 where
  pub loader : Loader
  pub flash : List ℕ
  pub session : Session
  pub wire : List ℕ

-- loader and flash, with a session and what it has sent
abbrev pub moment_with : Effect → Session → List ℕ → Moment
moment_with e s w = record { loader = e.loader; flash = e.flash; session = s; wire = w }

-- a freshly reset loader, and a session just started: the opening byte is on the wire
abbrev pub begun : ℕ → List ℕ → RunKind → Loader → List ℕ → Moment
begun board m kind l f =
    record { loader = reset_of l; flash = f; session = at_greeting board m kind; wire = opening_byte ∷ [] }

-- the loader takes what arrives; what is lost changes nothing
abbrev pub loader_takes : ℕ → Loader → List ℕ → List ℕ → Answer Effect
loader_takes board l s f = take_of board l s f answer_most

abbrev pub delivered : ℕ → Loss → Loader → List ℕ → List ℕ → Effect
delivered board Loss.Whole l s f = effect_after l f (loader_takes board l s f)
delivered board Loss.Lost l s f = record { loader = l; flash = f }
delivered board Loss.Unanswered l s f = effect_after l f (loader_takes board l s f)

-- the answer that the loader sends, and what of it arrives
abbrev pub sends : ℕ → Loss → Loader → List ℕ → List ℕ → List ℕ
sends board Loss.Whole l s f = answer_bytes board l (loader_takes board l s f)
sends board Loss.Lost l s f = []
sends board Loss.Unanswered l s f = answer_bytes board l (loader_takes board l s f)

abbrev pub arrives : ℕ → Loss → Loader → List ℕ → List ℕ → List ℕ
arrives board Loss.Whole l s f = answer_bytes board l (loader_takes board l s f)
arrives board Loss.Lost l s f = []
arrives board Loss.Unanswered l s f = []

-- between the loader's step and the session's
abbrev pub between : ℕ → Loss → Moment → Moment
between board o x = moment_with (delivered board o x.loader x.wire x.flash) x.session x.wire

-- what the session hears: no answer is silence
abbrev pub reply : ℕ → Loss → Moment → List ℕ
reply board o x = arrives board o x.loader x.wire x.flash

abbrev pub event_from : ℕ → List ℕ → Event
event_from board b = classify_of board (eqb (length b) 0) b

-- the session's step
abbrev pub stepped : ℕ → List ℕ → List ℕ → Loss → Moment → Answer Sent
stepped board image m o x = step_of board image m packet_most x.session (event_from board (reply board o x))

abbrev pub steps_on : Moment → Answer Sent → Moment
steps_on x (refused n) = x
steps_on x (given s) = record { loader = x.loader; flash = x.flash; session = s.session; wire = s.packet }

-- one exchange: the loader's step, then the session's
unfoldable pub exchange_of : ℕ → List ℕ → List ℕ → Loss → Moment → Moment
exchange_of board image m o x = steps_on (between board o x) (stepped board image m o x)

-- after n exchanges, each with its loss; after the end there are none
unfoldable pub moment_at : ℕ → List ℕ → List ℕ → (ℕ → Loss) → Moment → ℕ → Moment
moment_at board image m losses x zero = x
moment_at board image m losses x (suc n) =
    pick (ended (moment_at board image m losses x n).session.phase)
    (moment_at board image m losses x n)
    (exchange_of board image m (losses n) (moment_at board image m losses x n))

-- a load: what stands after n exchanges from the start on, with flash as it was `before`
abbrev pub load_at : ℕ → List ℕ → List ℕ → RunKind → Loader → (ℕ → Loss) → List ℕ → ℕ → Moment
load_at board image m kind l losses before n = moment_at board image m losses (begun board m kind l before) n

-- a list of losses, one byte an exchange: 0 is none, 1 the packet, all else the answer; past its end none
abbrev pub loss_of : ℕ → Loss
loss_of b = pick (eqb b 0) Loss.Whole (pick (eqb b 1) Loss.Lost Loss.Unanswered)

abbrev pub loss_at : List ℕ → ℕ → Loss
loss_at s i = loss_of (get_or s i 0)

-- what a load comes to, over a file and a flash: 20, 32 for an empty map, else the moment at its end
unfoldable pub rehearsing : ℕ → List ℕ → List ℕ → List ℕ → Moment → Answer Moment
rehearsing board image m f x =
    first
    (20 when
    not (both (eqb (length f) (start_of board)) (right_sizes board (length image) (length m) packet_most))
    ∷ 32 when eqb (named_count board m) 0 ∷ [])
    (given x)

-- a rehearsal: what stands after one exchange for the opening byte and one for each packet
unfoldable pub rehearse_of : ℕ → List ℕ → List ℕ → RunKind → Loader → (ℕ → Loss) → List ℕ → Answer Moment
rehearse_of board image m kind l losses f =
    rehearsing board image m f (load_at board image m kind l losses f (total board m kind + 1))

-- ---- what the functions are lent, and what they show

-- loader, session and packet buffer as a moment
abbrev pub moment_on : Link → List ℕ → List ℕ → Moment
moment_on e flash packet =
    record { loader = e.loader; flash = flash; session = e.session; wire = take e.len packet }

pub record Delivers (board : ℕ) (o : Loss) (l : Loader) (s f old : List ℕ) (next : Loader) (arrived : ℕ)
    (flash answer : List ℕ) : Type 0 where
  pub loader-is : next ≡ (delivered board o l s f).loader
  pub flash-is : flash ≡ (delivered board o l s f).flash
  pub arrived-is : arrived ≡ length (arrives board o l s f)
  pub answer-is : answer ≡ overlay (sends board o l s f) old

pub record Exchanges (board : ℕ) (image m : List ℕ) (o : Loss) (x : Moment) (old_packet old_answer : List ℕ)
    (r : Link)
    (flash packet answer : List ℕ) : Type 0 where
  pub loader-is : r.loader ≡ (exchange_of board image m o x).loader
  pub session-is : r.session ≡ (exchange_of board image m o x).session
  pub len_is : r.len ≡ length (exchange_of board image m o x).wire
  pub flash-is : flash ≡ (exchange_of board image m o x).flash
  pub packet-is : packet ≡ overlay (sent_bytes (stepped board image m o x)) old_packet
  pub answer-is : answer ≡ overlay (sends board o x.loader x.wire x.flash) old_answer

-- loader and session at the end of a rehearsal, and its flash
abbrev pub loaded : Answer Moment → Answer Load
loaded (refused n) = refused n
loaded (given x) = given (record { loader = x.loader; session = x.session })

abbrev pub left_flash : List ℕ → Answer Moment → List ℕ
left_flash f (refused n) = f
left_flash f (given x) = x.flash

pub record Rehearses (a : Answer Moment) (f : List ℕ) (r : Answer Load) (flash : List ℕ) : Type 0 where
  pub result-is : r ≡ loaded a
  pub flash-is : flash ≡ left_flash f a
