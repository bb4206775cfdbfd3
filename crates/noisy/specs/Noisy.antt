-- A load with rubbish between the packets: the loader stands behind a receiver that hunts for packets.
use Rattle.std.specs.Prelude.{ℕ, zero, suc, ◌+◌, ◌*◌, ◌≤◌, List, [], ◌∷◌, ◌++◌, ◌≡◌, length, get_or, take, drop}
use Rattle.basis.specs.Board.{answer_most, opening_byte}
use Rattle.basis.specs.Choice.{pick}
use Rattle.basis.specs.Refusals.{Answer, refused, given}
use Rattle.basis.specs.declared.kind.RunKind.{RunKind}
use Rattle.line.specs.Line.{Moment, event_from, rehearsing}
use Rattle.line.specs.declared.exchange.Loss.{Loss}
use Rattle.loader.specs.State.{reset_of}
use Rattle.loader.specs.declared.state.Loader.{Loader}
use Rattle.noisy.specs.declared.exchange.Link.{Link}
use Rattle.order.specs.Plan.{total}
use Rattle.packet.specs.Packet.{packet_most}
use Rattle.port.specs.Port.{All, all_of}
use Rattle.port.specs.declared.port.Port.{Port}
use Rattle.receiver.specs.Receiver.{fresh}
use Rattle.session.specs.Phases.{ended}
use Rattle.session.specs.Session.{Next, Session, Sent, at_greeting, step_of}

-- what stands at a moment: loader and receiver, the flash, the session, and what it has sent last
pub record NoisyMoment : Type 0 where
  pub port : Port
  pub flash : List ℕ
  pub session : Session
  pub wire : List ℕ

-- the same without the receiver
abbrev pub plainly : NoisyMoment → Moment
plainly x = record { loader = x.port.loader; flash = x.flash; session = x.session; wire = x.wire }

-- a freshly reset loader behind a fresh receiver, and a session just started
abbrev pub begun_noisy : ℕ → List ℕ → RunKind → Loader → List ℕ → NoisyMoment
begun_noisy board m kind l f =
    record {
      port = record { loader = reset_of l; receiver = fresh };
      flash = f;
      session = at_greeting board m kind;
      wire = opening_byte ∷ [];
    }

-- the bytes that reach the board: the rubbish, and then what the session has sent, if it is not lost
abbrev pub reaching : Loss → List ℕ → List ℕ → List ℕ
reaching Loss.Whole z w = z ++ w
reaching Loss.Lost z w = z
reaching Loss.Unanswered z w = z ++ w

-- what the board makes of them
abbrev pub board_makes : ℕ → Loss → List ℕ → NoisyMoment → All
board_makes board o z x = all_of board answer_most x.port x.flash (reaching o z x.wire)

-- what the session hears: all answers joined as one, or nothing when they are lost
abbrev pub heard_of : Loss → List ℕ → List ℕ
heard_of Loss.Whole a = a
heard_of Loss.Lost a = a
heard_of Loss.Unanswered a = []

-- between the board's part and the session's
abbrev pub noisy_between : ℕ → Loss → List ℕ → NoisyMoment → NoisyMoment
noisy_between board o z x =
    let a = board_makes board o z x in
    record { port = a.port; flash = a.flash; session = x.session; wire = x.wire }

-- the session's step: no answer is silence
abbrev pub noisy_stepped : ℕ → List ℕ → List ℕ → Loss → List ℕ → NoisyMoment → Answer Sent
noisy_stepped board image m o z x =
    step_of board image m packet_most x.session
    (event_from board (heard_of o (board_makes board o z x).answers))

abbrev pub noisy_steps_on : NoisyMoment → Answer Sent → NoisyMoment
noisy_steps_on x (refused n) = x
noisy_steps_on x (given s) =
    record { port = x.port; flash = x.flash; session = s.session; wire = s.packet }

-- one exchange with rubbish before it: the board's part, then the session's
unfoldable pub noisy_exchange_of : ℕ → List ℕ → List ℕ → Loss → List ℕ → NoisyMoment → NoisyMoment
noisy_exchange_of board image m o z x =
    noisy_steps_on (noisy_between board o z x) (noisy_stepped board image m o z x)

-- after n exchanges, each with its loss and its rubbish; after the end there are none
unfoldable pub noisy_at : ℕ → List ℕ → List ℕ → (ℕ → Loss) → (ℕ → List ℕ) → NoisyMoment → ℕ → NoisyMoment
noisy_at board image m losses z x zero = x
noisy_at board image m losses z x (suc n) =
    pick (ended (noisy_at board image m losses z x n).session.phase)
    (noisy_at board image m losses z x n)
    (noisy_exchange_of board image m (losses n) (z n) (noisy_at board image m losses z x n))

-- a load: what stands after n exchanges from the start on, with flash as it was `before`
abbrev pub noisy_load_at : ℕ → List ℕ → List ℕ → RunKind → Loader → (ℕ → Loss) → (ℕ → List ℕ) → List ℕ → ℕ
    → NoisyMoment
noisy_load_at board image m kind l losses z before n =
    noisy_at board image m losses z (begun_noisy board m kind l before) n

-- rubbish from one list: before exchange i the bytes from place i * each on, at most `each`
abbrev pub rubbish_at : List ℕ → ℕ → ℕ → List ℕ
rubbish_at s each i = take each (drop (i * each) s)

-- a rehearsal: what stands after one exchange for the opening byte and one for each packet, without the
-- receiver
unfoldable pub noisy_rehearse_of : ℕ → List ℕ → List ℕ → RunKind → Loader → (ℕ → Loss) → (ℕ → List ℕ) → List ℕ
    → Answer Moment
noisy_rehearse_of board image m kind l losses z f =
    rehearsing board image m f
    (plainly (noisy_load_at board image m kind l losses z f (total board m kind + 1)))

-- ---- what the laws speak by

-- no byte that opens the board
abbrev pub NoOpening : List ℕ → Type 0
NoOpening s = (k : ℕ) → get_or s k 0 ≡ opening_byte → ⊥

-- ---- what the functions are lent, and what they show

-- so many bytes tell every event: one more than the longest answer has
abbrev pub heard_most : ℕ
heard_most = answer_most + 1

-- port, session and packet buffer as a moment
abbrev pub noisy_on : Link → List ℕ → List ℕ → NoisyMoment
noisy_on e flash packet =
    record { port = e.port; flash = flash; session = e.session; wire = take e.len packet }

-- port and flash, and the answers joined behind what was joined before
pub record Joins (a : All) (before : List ℕ) (port : Port) (heard : ℕ) (flash joined : List ℕ) : Type 0 where
  pub port-is : port ≡ a.port
  pub flash-is : flash ≡ a.flash
  pub heard-fits : heard ≤ length joined
  pub joined_is : take heard joined ≡ take heard_most (before ++ a.answers)

-- what the board made, with those answers that the session hears
abbrev pub hearing : Loss → All → All
hearing o a = record { port = a.port; flash = a.flash; answers = heard_of o a.answers }

-- the session after its step with the length of its packet; a refused step leaves both
abbrev pub next_after : Session → ℕ → Answer Sent → Next
next_after s n (refused k) = record { session = s; len = n }
next_after s n (given x) = record { session = x.session; len = length x.packet }

pub record NoisyExchanges (board : ℕ) (image m : List ℕ) (o : Loss) (z : List ℕ) (x : NoisyMoment) (r : Link)
    (flash packet : List ℕ) : Type 0 where
  pub moment-is : noisy_on r flash packet ≡ noisy_exchange_of board image m o z x
  pub len-fits : r.len ≤ length packet
