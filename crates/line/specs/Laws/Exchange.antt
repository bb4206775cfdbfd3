-- Laws of one exchange: what the session hears, and where it stands then.
use Rattle.std.specs.Prelude.{ℕ, ◌+◌, ◌<◌, Bool, true, false, List, [], ◌∷◌, ◌≡◌, length}
use Rattle.std.proofs.Math.Path.{refl, ap}
use Rattle.std.proofs.Common.{sym, ◌∙◌, eq-eqb}
use Rattle.basis.specs.Board.{greeting_of, opening_byte, ack_byte, bel_byte}
use Rattle.basis.specs.Choice.{pick}
use Rattle.basis.specs.Laws.Choice.{true-false}
use Rattle.basis.specs.Refusals.{Answer, refused, given, bare}
use Rattle.basis.specs.declared.kind.RunKind.{RunKind}
use Rattle.events.specs.Endings.{asked, failing}
use Rattle.events.specs.Events.{is_ack, is_greeting}
use Rattle.events.specs.Laws.Events.{ack-heard, bel-heard, silence-heard}
use Rattle.events.specs.declared.ending.Outcome.{Outcome}
use Rattle.events.specs.declared.event.Event.{Event}
use Rattle.line.specs.Line.{Moment, moment_with, begun, loader_takes, delivered, arrives, reply, event_from, steps_on, between, exchange_of}
use Rattle.line.specs.declared.exchange.Loss.{Loss}
use Rattle.loader.specs.Commands.{Effect}
use Rattle.loader.specs.State.{reset_of}
use Rattle.loader.specs.Take.{waiting, quiet, tell_of, answer_bytes}
use Rattle.loader.specs.declared.state.Condition.TheVariants.{Serving}
use Rattle.loader.specs.declared.state.Loader.{Loader}
use Rattle.order.specs.Plan.{total}
use Rattle.order.specs.Sizes.{right_sizes}
use Rattle.order.specs.Steps.{packet_at}
use Rattle.session.specs.Laws.Series.{not-ack, not-greeting}
use Rattle.session.specs.Laws.States.{greeting-state, ack-next, ack-last, step-state, waiting-fits}
use Rattle.session.specs.Laws.Steps.{step-taken}
use Rattle.session.specs.Phases.{packet_out}
use Rattle.session.specs.Session.{Session, session_with, at_greeting, state_at, took_of, Loadable}
use Rattle.session.specs.declared.phase.Phase.{Phase}
use Rattle.packet.specs.Packet.{packet_most}

-- ---- what the session hears

-- no answer is silence
pub silence-is : (board : ℕ) (b : List ℕ) → b ≡ [] → event_from board b ≡ Event.Silence
silence-is board b e = ap (event_from board) e ∙ silence-heard board []

refusal-heard : (board n : ℕ) → is_ack (event_from board (tell_of board false (refused n))) ≡ false
refusal-heard board n = go (quiet n)
  where
    go : (q : Bool) → is_ack (event_from board (pick q [] (bel_byte ∷ []))) ≡ false
    go true = ap is_ack (silence-heard board [])
    go false = ap is_ack (bel-heard board)

-- an ACK comes from a loader that has let the packet through, and nothing was lost
pub acked : (board : ℕ) (o : Loss) (l : Loader) (s f : List ℕ) → l.condition ≡ Serving
    → event_from board (arrives board o l s f) ≡ Event.Ack
    → (o ≡ Loss.Whole) × (e : Effect) × (loader_takes board l s f ≡ given e)
acked board Loss.Whole l s f c h =
    let w = ap (λ (w : Bool). event_from board (tell_of board w (bare (loader_takes board l s f))))
    (ap waiting c) in
    go (loader_takes board l s f) refl (sym (ap is_ack (sym w ∙ h)))
  where
    go : (x : Answer Effect) → loader_takes board l s f ≡ x
        → true ≡ is_ack (event_from board (tell_of board false (bare x)))
        → (Loss.Whole ≡ Loss.Whole) × (e : Effect) × (loader_takes board l s f ≡ given e)
    go (refused n) e t = absurd (true-false (t ∙ refusal-heard board n))
    go (given y) e t = (refl, y, e)
acked board Loss.Lost l s f c h = absurd (true-false (sym (ap is_ack (sym (silence-heard board []) ∙ h))))
acked board Loss.Unanswered l s f c h =
    absurd (true-false (sym (ap is_ack (sym (silence-heard board []) ∙ h))))

-- and what it lets through it acknowledges
pub let-acked : (board : ℕ) (l : Loader) (s f : List ℕ) (e : Effect) → l.condition ≡ Serving
    → loader_takes board l s f ≡ given e → event_from board (arrives board Loss.Whole l s f) ≡ Event.Ack
let-acked board l s f e c q =
    ap (λ (x : Answer Effect). event_from board (answer_bytes board l x)) q
    ∙ ap (λ (w : Bool). event_from board (pick w (greeting_of board) (ack_byte ∷ []))) (ap waiting c)
    ∙ ack-heard board

-- ---- where the session stands then

-- loader and flash when the opening byte has arrived or is lost
abbrev pub opened : ℕ → Loss → Loader → List ℕ → Effect
opened board o l f = delivered board o (reset_of l) (opening_byte ∷ []) f

-- the session has ended
abbrev pub over : ℕ → List ℕ → RunKind → Effect → Outcome → ℕ → Moment
over board m kind e u k = moment_with e (session_with board m kind (Phase.Ended u) k) []

module _ (board : ℕ) (image m : List ℕ) (kind : RunKind) where
  -- k packets are acknowledged and the next is on the wire
  abbrev pub standing : Effect → ℕ → Moment
  standing e k = moment_with e (state_at board m kind k) (packet_at board image m kind k)

  -- loader and flash when that packet has arrived or is lost
  abbrev pub served : Loss → Effect → ℕ → Effect
  served o e k = delivered board o e.loader (packet_at board image m kind k) e.flash

  -- the session has taken what it heard, and its next packet is on the wire
  abbrev went : Effect → Session → Moment
  went e s = moment_with e s (packet_out board image m kind s.phase)

module _ (board : ℕ) (image m : List ℕ) (file : Loadable board image m) (kind : RunKind) where
  right-sizes : right_sizes board (length image) (length m) packet_most ≡ true
  right-sizes = rw (eq-eqb _ _ file.right, eq-eqb _ _ file.long)

  -- a packet
  module _ (o : Loss) (e : Effect) (k : ℕ) (l : k < total board m kind) where
    abbrev here : Moment
    here = standing board image m kind e k

    abbrev heard : Event
    heard = event_from board (reply board o here)

    abbrev next : Session → Moment
    next = went board image m kind (served board image m kind o e k)

    pub taken : exchange_of board image m o here ≡ next (took_of board m (state_at board m kind k) heard)
    unfolding exchange_of
    taken =
        ap (steps_on (between board o here))
        (step-state board image m packet_most kind right-sizes file.long file.some k heard l)

    pub on-ack : k + 1 < total board m kind → heard ≡ Event.Ack
        → exchange_of board image m o here
        ≡ standing board image m kind (served board image m kind o e k) (k + 1)
    on-ack n h =
        taken ∙ ap (λ (v : Event). next (took_of board m (state_at board m kind k) v)) h
        ∙ ap next (ack-next board m file.long file.some kind k n)

    pub on-last : k + 1 ≡ total board m kind → heard ≡ Event.Ack
        → exchange_of board image m o here
        ≡ over board m kind (served board image m kind o e k) (asked kind) (total board m kind)
    on-last n h =
        taken ∙ ap (λ (v : Event). next (took_of board m (state_at board m kind k) v)) h
        ∙ ap next (ack-last board m file.long file.some kind k n)

    pub on-else : is_ack heard ≡ false
        → (u : Outcome) × (failing u k ≡ true)
        × (exchange_of board image m o here ≡ over board m kind (served board image m kind o e k) u k)
    on-else h =
        let f = not-ack board m file.long file.some kind k heard h l in
        (f.0, f.1, taken ∙ ap next f.2)

  -- the opening byte
  module _ (o : Loss) (l : Loader) (f : List ℕ) where
    abbrev start : Moment
    start = begun board m kind l f

    abbrev first-heard : Event
    first-heard = event_from board (reply board o start)

    abbrev first_next : Session → Moment
    first_next = went board image m kind (opened board o l f)

    pub taken-first : exchange_of board image m o start
        ≡ first_next (took_of board m (at_greeting board m kind) first-heard)
    unfolding exchange_of
    taken-first =
        ap (steps_on (between board o start))
        (step-taken board image m packet_most (at_greeting board m kind) first-heard right-sizes refl
        (waiting-fits board m file.long file.some kind))

    pub on-greeting : first-heard ≡ Event.Greeting
        → exchange_of board image m o start ≡ standing board image m kind (opened board o l f) 0
    on-greeting h =
        taken-first
        ∙ ap (λ (v : Event). first_next (took_of board m (at_greeting board m kind) v)) h
        ∙ ap first_next (greeting-state board m file.long file.some kind)

    pub on-silence : first-heard ≡ Event.Silence
        → (u : Outcome) × (failing u 0 ≡ true)
        × (exchange_of board image m o start ≡ over board m kind (opened board o l f) u 0)
    on-silence h =
        let g = not-greeting board m file.long file.some kind first-heard (ap is_greeting h) in
        (g.0, g.1, taken-first ∙ ap first_next g.2)
