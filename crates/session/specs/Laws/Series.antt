-- Laws of whole sessions: every series of events from a start on, over one file.
use Rattle.std.specs.Prelude.{ℕ, zero, suc, ◌+◌, ◌-◌, ◌≤◌, ◌<◌, Bool, true, false, ◌≡◌, ltb, length, replicate}
use Rattle.std.proofs.Math.Path.{refl}
use Rattle.std.proofs.Common.{sym, ap, subst, ◌∙◌, add-zero, zero-add, arith, ltb-true, ltb-false, lt-ltb, List, [], ◌∷◌, ◌++◌}
use Rattle.basis.specs.Choice.{pick}
use Rattle.basis.specs.Laws.Choice.{decide, true-false}
use Rattle.basis.specs.Units.{map_bytes}
use Rattle.basis.specs.declared.kind.RunKind.{RunKind}
use Rattle.course.specs.Course as course
use Rattle.events.specs.Endings.{failing, asked}
use Rattle.events.specs.Events.{is_greeting, is_ack}
use Rattle.events.specs.Laws.Events.{ack-or, greeting-or}
use Rattle.events.specs.declared.ending.Awaited.{Awaited}
use Rattle.events.specs.declared.ending.Outcome.{Outcome}
use Rattle.events.specs.declared.event.Event.{Event}
use Rattle.order.specs.Laws.Totals.{total-some}
use Rattle.order.specs.Plan.{total}
use Rattle.order.specs.Steps.{step_at}
use Rattle.runs.specs.Pieces.{named_count}
use Rattle.session.specs.Laws.States.{greeting-state, ack-next, ack-last}
use Rattle.session.specs.Phases.{ended, awaits_of, phase_at}
use Rattle.session.specs.Session.{Session, session_with, at_greeting, state_at, as_asked, heard_by, took_of, series, Came, waits, stands, fails, ends}
use Rattle.session.specs.declared.phase.Phase.{Phase}

-- with no event nothing changes, nor after the end
pub series-nil : (board : ℕ) (m : List ℕ) (s : Session) → series board m s [] ≡ s
unfolding series
series-nil board m s = refl

series-ended : (board : ℕ) (m : List ℕ) (s : Session) (es : List Event) → ended s.phase ≡ true
    → series board m s es ≡ s
unfolding series
series-ended board m s [] h = refl
series-ended board m s (e ∷ es) h = rw h (series-ended board m s es h)

-- silence ends a session with 40, wherever it stands
pub silence-ends : (board : ℕ) (m : List ℕ) (s : Session)
    → (took_of board m s Event.Silence).phase ≡ Phase.Ended Outcome.Silence
unfolding course.took_of
silence-ends board m s = go (awaits_of s.phase)
  where
    go : (w : Awaited) → (heard_by board m s w Event.Silence).phase ≡ Phase.Ended Outcome.Silence
    go Awaited.Greeting = refl
    go Awaited.Ack = refl

-- its counts are the file's: no total is invented
module _ (board : ℕ) (m : List ℕ) (kind : RunKind) (s : Session) where
  came-in : Came board m kind s → (ph : Phase) × (k : ℕ) × (s ≡ session_with board m kind ph k)
  came-in (waits e) = (Phase.Greeting, 0, e)
  came-in (stands k l e) = (Phase.Out (step_at board m k), k, e)
  came-in (fails o k l f e) = (Phase.Ended o, k, e)
  came-in (ends e) = (Phase.Ended (asked kind), total board m kind, e)

  pub came-total : Came board m kind s → s.total ≡ total board m kind
  came-total c = ap (λ (x : Session). x.total) (came-in c).2

  pub came-named : Came board m kind s → s.named ≡ named_count board m
  came-named c = ap (λ (x : Session). x.named) (came-in c).2

-- ended valid, or held
abbrev pub is_good : Phase → Bool
is_good Phase.Greeting = false
is_good (Phase.Out s) = false
is_good (Phase.Ended Outcome.Valid) = true
is_good (Phase.Ended Outcome.Held) = true
is_good (Phase.Ended Outcome.Silence) = false
is_good (Phase.Ended Outcome.Bel) = false
is_good (Phase.Ended Outcome.NoGreeting) = false
is_good (Phase.Ended Outcome.Other) = false

-- no failure is
pub fails-good : (o : Outcome) (k : ℕ) → failing o k ≡ true → is_good (Phase.Ended o) ≡ false
fails-good Outcome.Valid k f = absurd (true-false (sym f))
fails-good Outcome.Held k f = absurd (true-false (sym f))
fails-good Outcome.Silence k f = refl
fails-good Outcome.Bel k f = refl
fails-good Outcome.NoGreeting k f = refl
fails-good Outcome.Other k f = refl

module _ (board : ℕ) (m : List ℕ) (long : length m ≡ map_bytes board) (some : 0 < named_count board m)
    (kind : RunKind) where
  -- ---- one event

  -- there is a first packet
  planned : 0 < total board m kind
  planned = total-some board m long some kind

  -- an event that is no ACK ends the session, and neither valid nor held
  pub not-ack : (k : ℕ) (e : Event) → is_ack e ≡ false → k < total board m kind
      → (o : Outcome) × (failing o k ≡ true)
      × (took_of board m (state_at board m kind k) e ≡ session_with board m kind (Phase.Ended o) k)
  unfolding course.took_of
  not-ack k Event.Greeting h l = (Outcome.Other, refl, rw add-zero)
  not-ack k Event.Ack h l = absurd (true-false h)
  not-ack k Event.Bel h l = (Outcome.Bel, refl, rw add-zero)
  not-ack k Event.Other h l = (Outcome.Other, refl, rw add-zero)
  not-ack k Event.Silence h l = (Outcome.Silence, refl, rw add-zero)

  ack-came : (k : ℕ) → k < total board m kind
      → Came board m kind (took_of board m (state_at board m kind k) Event.Ack)
  ack-came k l =
      decide (ltb (k + 1) (total board m kind))
      (λ d. stands (k + 1) (ltb-true _ _ d) (ack-next board m long some kind k (ltb-true _ _ d)))
      (λ d. ends (ack-last board m long some kind k
      (omega (arith, ltb-false (k + 1) (total board m kind) d))))

  state-came : (k : ℕ) (e : Event) → k < total board m kind
      → Came board m kind (took_of board m (state_at board m kind k) e)
  state-came k e l =
      ack-or e
      (λ a. subst (λ (x : Event). Came board m kind (took_of board m (state_at board m kind k) x)) (sym a)
      (ack-came k l))
      (λ a. let f = not-ack k e a l in fails f.0 k l f.1 f.2)

  -- all but the greeting ends the session that waits for it
  pub not-greeting : (e : Event) → is_greeting e ≡ false
      → (o : Outcome) × (failing o 0 ≡ true)
      × (took_of board m (at_greeting board m kind) e ≡ session_with board m kind (Phase.Ended o) 0)
  unfolding course.took_of
  not-greeting Event.Greeting h = absurd (true-false h)
  not-greeting Event.Ack h = (Outcome.NoGreeting, refl, refl)
  not-greeting Event.Bel h = (Outcome.NoGreeting, refl, refl)
  not-greeting Event.Other h = (Outcome.NoGreeting, refl, refl)
  not-greeting Event.Silence h = (Outcome.Silence, refl, refl)

  first-came : (e : Event) → Came board m kind (took_of board m (at_greeting board m kind) e)
  first-came e =
      greeting-or e
      (λ a. subst (λ (x : Event). Came board m kind (took_of board m (at_greeting board m kind) x)) (sym a)
      (stands 0 planned (greeting-state board m long some kind)))
      (λ a. let f = not-greeting e a in fails f.0 0 planned f.1 f.2)

  event-came : (s : Session) (e : Event) → Came board m kind s
      → Came board m kind (pick (ended s.phase) s (took_of board m s e))
  event-came s e (waits q) = rw q (first-came e)
  event-came s e (stands k l q) = rw q (state-came k e l)
  event-came s e (fails o k l f q) = rw q (fails o k l f refl)
  event-came s e (ends q) = rw q (ends refl)

  -- ---- every series

  series-came : (es : List Event) (s : Session) → Came board m kind s
      → Came board m kind (series board m s es)
  unfolding series
  series-came [] s c = c
  series-came (e ∷ es) s c =
      series-came es (pick (ended s.phase) s (took_of board m s e)) (event-came s e c)

  pub came : (es : List Event) → Came board m kind (series board m (at_greeting board m kind) es)
  came es = series-came es (at_greeting board m kind) (waits refl)

  -- an event taken
  pub event-taken : (s : Session) (e : Event) (es : List Event) {t : Session} → ended s.phase ≡ false
      → took_of board m s e ≡ t → series board m s (e ∷ es) ≡ series board m t es
  unfolding series
  event-taken s e es h q = rw h (ap (λ (x : Session). series board m x es) q)

  pub series-ack : (k : ℕ) (es : List Event) → k + 1 < total board m kind
      → series board m (state_at board m kind k) (Event.Ack ∷ es)
      ≡ series board m (state_at board m kind (k + 1)) es
  series-ack k es l =
      event-taken (state_at board m kind k) Event.Ack es refl
      (ack-next board m long some kind k l)

  pub series-last : (k : ℕ) (es : List Event) → k + 1 ≡ total board m kind
      → series board m (state_at board m kind k) (Event.Ack ∷ es) ≡ as_asked board m kind
  series-last k es l =
      event-taken (state_at board m kind k) Event.Ack es refl
      (ack-last board m long some kind k l)
      ∙ series-ended board m (as_asked board m kind) es refl

  pub series-fails : (k : ℕ) (e : Event) (es : List Event) → is_ack e ≡ false → k < total board m kind
      → (o : Outcome) × (failing o k ≡ true)
      × (series board m (state_at board m kind k) (e ∷ es) ≡ session_with board m kind (Phase.Ended o) k)
  series-fails k e es a l =
      let f = not-ack k e a l in (
        f.0,
        f.1,
        event-taken (state_at board m kind k) e es refl f.2
            ∙ series-ended board m (session_with board m kind (Phase.Ended f.0) k) es refl,
      )

  pub series-first : (es : List Event)
      → series board m (at_greeting board m kind) (Event.Greeting ∷ es)
      ≡ series board m (state_at board m kind 0) es
  series-first es =
      event-taken (at_greeting board m kind) Event.Greeting es refl (greeting-state board m long some kind)

  -- ---- the greeting and k acknowledgements lead to the state after k

  acks-on : (n k : ℕ) → k + n < total board m kind
      → series board m (state_at board m kind k) (replicate n Event.Ack) ≡ state_at board m kind (k + n)
  acks-on zero k l = none ∙ ap (state_at board m kind) (omega arith)
    where
      none : series board m (state_at board m kind k) [] ≡ state_at board m kind k
      none = series-nil board m (state_at board m kind k)
  acks-on (suc n) k l =
      series-ack k (replicate n Event.Ack) (omega arith)
      ∙ acks-on n (k + 1) (omega arith)
      ∙ ap (state_at board m kind) (omega arith)

  pub acks-state : (k : ℕ) → k < total board m kind
      → series board m (at_greeting board m kind) (Event.Greeting ∷ replicate k Event.Ack)
      ≡ state_at board m kind k
  acks-state k l =
      series-first (replicate k Event.Ack) ∙ acks-on k 0 (omega arith)
      ∙ ap (state_at board m kind) (zero-add k)

  acks-end : (n k : ℕ) → k + suc n ≡ total board m kind
      → series board m (state_at board m kind k) (replicate (suc n) Event.Ack) ≡ as_asked board m kind
  acks-end zero k l = series-last k [] (omega arith)
  acks-end (suc n) k l =
      series-ack k (replicate (suc n) Event.Ack) (omega arith) ∙ acks-end n (k + 1) (omega arith)

  -- as many as the total end it as was asked
  pub acks-asked : (n : ℕ) → suc n ≡ total board m kind
      → series board m (at_greeting board m kind) (Event.Greeting ∷ replicate (suc n) Event.Ack)
      ≡ as_asked board m kind
  acks-asked n e = series-first (replicate (suc n) Event.Ack) ∙ acks-end n 0 (omega arith)

  -- in one: the phase after k acknowledgements
  pub acks-phase : (k : ℕ) → k ≤ total board m kind
      → series board m (at_greeting board m kind) (Event.Greeting ∷ replicate k Event.Ack)
      ≡ session_with board m kind (phase_at board m kind k) k
  acks-phase zero l = acks-state zero planned ∙ rw (lt-ltb zero (total board m kind) planned)
  acks-phase (suc n) l =
      decide (ltb (suc n) (total board m kind))
      (λ d. acks-state (suc n) (ltb-true _ _ d) ∙ rw d)
      (λ d. let e : suc n ≡ total board m kind = omega (arith, ltb-false (suc n) (total board m kind) d) in
      acks-asked n e ∙ rw d (ap (session_with board m kind (Phase.Ended (asked kind))) (sym e)))

  -- ---- a verdict within the total and one event more

  is-over : {s : Session} {o : Outcome} {k : ℕ} → s ≡ session_with board m kind (Phase.Ended o) k
      → ended s.phase ≡ true
  is-over e = ap (λ (x : Session). ended x.phase) e

  within : (n k : ℕ) (es : List Event) → k + suc n ≡ total board m kind → suc n ≤ length es
      → ended (series board m (state_at board m kind k) es).phase ≡ true
  within n k [] l b = absurd (omega arith)
  within zero k (e ∷ es) l b =
      ack-or e
      (λ a. rw a (is-over (series-last k es (omega arith))))
      (λ a. is-over (series-fails k e es a (omega arith)).2)
  within (suc n) k (e ∷ es) l b =
      ack-or e
      (λ a. rw a (ap (λ (s : Session). ended s.phase) (series-ack k es (omega arith))
      ∙ within n (k + 1) es (omega arith) (omega arith)))
      (λ a. is-over (series-fails k e es a (omega arith)).2)

  pub first-fails : (e : Event) (es : List Event) → is_greeting e ≡ false
      → (o : Outcome) × (failing o 0 ≡ true)
      × (series board m (at_greeting board m kind) (e ∷ es) ≡ session_with board m kind (Phase.Ended o) 0)
  first-fails e es a =
      let f = not-greeting e a in (
        f.0,
        f.1,
        event-taken (at_greeting board m kind) e es refl f.2
            ∙ series-ended board m (session_with board m kind (Phase.Ended f.0) 0) es refl,
      )

  pub verdict : (es : List Event) → total board m kind + 1 ≤ length es
      → ended (series board m (at_greeting board m kind) es).phase ≡ true
  verdict [] b = absurd (omega arith)
  verdict (e ∷ es) b =
      greeting-or e
      (λ a. rw a (ap (λ (s : Session). ended s.phase) (series-first es)
      ∙ within (total board m kind - 1) 0 es (omega (arith, planned)) (omega (arith, planned))))
      (λ a. is-over (first-fails e es a).2)

  -- ---- valid or held only as was asked, and after every acknowledgement

  pub good-asked : (es : List Event) → is_good (series board m (at_greeting board m kind) es).phase ≡ true
      → series board m (at_greeting board m kind) es ≡ as_asked board m kind
  good-asked es v = go (came es)
    where
      s : Session
      s = series board m (at_greeting board m kind) es

      bad : {t : Session} → s ≡ t → is_good t.phase ≡ false → s ≡ as_asked board m kind
      bad e h = absurd (true-false (sym v ∙ ap (λ (x : Session). is_good x.phase) e ∙ h))

      go : Came board m kind s → s ≡ as_asked board m kind
      go (waits e) = bad e refl
      go (stands k l e) = bad e refl
      go (fails o k l f e) = bad e (fails-good o k f)
      go (ends e) = e

  not_good : {s : Session} {o : Outcome} {k : ℕ} → failing o k ≡ true
      → s ≡ session_with board m kind (Phase.Ended o) k → is_good s.phase ≡ false
  not_good {s} {o} {k} f e = ap (λ (x : Session). is_good x.phase) e ∙ fails-good o k f

  not_yet : (k : ℕ) → is_good (series board m (state_at board m kind k) []).phase ≡ false
  not_yet k = ap (λ (x : Session). is_good x.phase) (series-nil board m (state_at board m kind k))

  good-on : (n k : ℕ) (es : List Event) → k + suc n ≡ total board m kind
      → is_good (series board m (state_at board m kind k) es).phase ≡ true
      → (rest : List Event) × (es ≡ replicate (suc n) Event.Ack ++ rest)
  good-on n k [] l v = absurd (true-false (sym v ∙ not_yet k))
  good-on zero k (e ∷ es) l v =
      ack-or e
      (λ a. (es, ap (λ (x : Event). x ∷ es) a))
      (λ a. let f = series-fails k e es a (omega arith) in
      absurd (true-false (sym v ∙ not_good f.1 f.2)))
  good-on (suc n) k (e ∷ es) l v =
      ack-or e
      (λ a. let r = good-on n (k + 1) es (omega arith)
      (sym (ap (λ (s : Session). is_good s.phase) (series-ack k es (omega arith))) ∙ rw a at v) in
      (r.0, rw a (ap (λ (x : List Event). Event.Ack ∷ x) r.1)))
      (λ a. let f = series-fails k e es a (omega arith) in
      absurd (true-false (sym v ∙ not_good f.1 f.2)))

  pub good-only : (es : List Event) → is_good (series board m (at_greeting board m kind) es).phase ≡ true
      → (rest : List Event) × (es ≡ Event.Greeting ∷ replicate (total board m kind) Event.Ack ++ rest)
  good-only [] v =
      absurd (true-false
      (sym v ∙ ap (λ (x : Session). is_good x.phase) (series-nil board m (at_greeting board m kind))))
  good-only (e ∷ es) v =
      greeting-or e
      (λ a. let r = good-on (total board m kind - 1) 0 es (omega (arith, planned))
      (sym (ap (λ (s : Session). is_good s.phase) (series-first es)) ∙ rw a at v) in
      let n : suc (total board m kind - 1) ≡ total board m kind = omega (arith, planned) in (
        r.0,
        rw a (ap (λ (x : List Event). Event.Greeting ∷ x)
            (r.1 ∙ ap (λ (j : ℕ). replicate j Event.Ack ++ r.0) n)),
      ))
      (λ a. let f = first-fails e es a in absurd (true-false (sym v ∙ not_good f.1 f.2)))
