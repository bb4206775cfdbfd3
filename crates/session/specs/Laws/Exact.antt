-- 46 is exact: a session fits a file exactly where a start and events over that file lead to it.
-- So `proved` says yes only where such events have acknowledged the V that holds the byte.
use Rattle.std.specs.Prelude.{true, false, ◌≡◌, eqb, length, replicate}
use Rattle.std.proofs.Math.Path.{refl, ap, subst}
use Rattle.std.proofs.Common.{sym, ◌∙◌, add-zero, eq-eqb, eqb-true, ℕ, zero, suc, ◌+◌, ◌-◌, ◌≤◌, ◌<◌, List, [], ◌∷◌, ◌++◌, arith}
use Rattle.std.proofs.lemmas.Bool.{eqb-false, not-false}
use Rattle.basis.specs.Choice.{pick}
use Rattle.basis.specs.Laws.Choice.{decide, true-false}
use Rattle.basis.specs.Laws.Refusals.{passed, given-one}
use Rattle.basis.specs.Refusals.{given}
use Rattle.basis.specs.Units.{map_bytes}
use Rattle.basis.specs.declared.kind.RunKind.{RunKind}
use Rattle.course.specs.Course as course
use Rattle.course.specs.Laws.Course.{Fitting, fitting, fits_by}
use Rattle.events.specs.Endings.{failing, ends_at, asked}
use Rattle.events.specs.Laws.Endings.{outcome-one, ends_asked, ends_by, fails-ends}
use Rattle.events.specs.Laws.Events.{ack-or, greeting-or}
use Rattle.events.specs.declared.ending.Outcome.{Outcome}
use Rattle.events.specs.declared.event.Event.{Event}
use Rattle.order.specs.Laws.Steps.{stands-below, stands-at}
use Rattle.order.specs.Laws.Totals.{total-some}
use Rattle.order.specs.Marks.{marked}
use Rattle.order.specs.Plan.{total}
use Rattle.order.specs.Sizes.{right_sizes}
use Rattle.order.specs.Steps.{step_at}
use Rattle.runs.specs.Pieces.{named_count}
use Rattle.session.specs.Laws.Marks.{marked-carried, proved-is}
use Rattle.session.specs.Laws.Series.{came, acks-state, acks-asked, event-taken, series-nil, series-ack, series-last, series-first, series-fails, first-fails}
use Rattle.session.specs.Laws.States.{ack-next, greeting-state, waiting-fits, state-fits}
use Rattle.session.specs.Laws.Steps.{step-taken}
use Rattle.session.specs.Phases.{ended}
use Rattle.session.specs.Session.{Session, quick, session_with, at_greeting, state_at, took_of, sent_of, came_at, fits_of, step_of, series, proved_of, Came, waits, stands, fails, ends, Acknowledged, Shown}
use Rattle.session.specs.declared.phase.Phase.{Phase}

-- one series behind another
series-append : (board : ℕ) (m : List ℕ) (s : Session) (es ds : List Event)
    → series board m s (es ++ ds) ≡ series board m (series board m s es) ds
unfolding series
series-append board m s [] ds = refl
series-append board m s (e ∷ es) ds =
    series-append board m (pick (ended s.phase) s (took_of board m s e)) es ds

-- ---- what events lead to fits

module _ (board : ℕ) (m : List ℕ) (long : length m ≡ map_bytes board) (some : 0 < named_count board m)
    (kind : RunKind) where
  pub ended-fits : (o : Outcome) (k : ℕ) → ends_at (asked kind) (total board m kind) o k ≡ true
      → fits_of board m (session_with board m kind (Phase.Ended o) k) ≡ true
  ended-fits o k h =
      fits_by quick board m (session_with board m kind (Phase.Ended o) k)
      (record { board-is = refl; some = some; named-is = refl; total-is = refl; came-to = h })

  pub came-fits : (s : Session) → Came board m kind s → fits_of board m s ≡ true
  came-fits s (waits e) = rw e (waiting-fits board m long some kind)
  came-fits s (stands k l e) = rw e (state-fits board m long some kind k l)
  came-fits s (fails o k l f e) =
      rw e (ended-fits o k (fails-ends kind o k f (total board m kind) l))
  came-fits s (ends e) =
      rw e (ended-fits (asked kind) (total board m kind)
      (ends_asked (asked kind) (asked kind) (total board m kind) (total board m kind) refl
      ∙ eq-eqb (total board m kind) (total board m kind) refl))

  pub series-fits : (es : List Event) → fits_of board m (series board m (at_greeting board m kind) es) ≡ true
  series-fits es = came-fits _ (came board m long some kind es)

  -- so along a series each event is a step that is not refused, and it leads to the series' next session
  pub series-steps : (image : List ℕ) (room : ℕ) (es : List Event) (e : Event)
      → right_sizes board (length image) (length m) room ≡ true
      → (let s = series board m (at_greeting board m kind) es in ended s.phase ≡ false
      → (step_of board image m room s e ≡ given (sent_of board image m s e))
      × ((sent_of board image m s e).session ≡ series board m (at_greeting board m kind) (es ++ (e ∷ []))))
  series-steps image room es e right goes-on = (
    step-taken board image m room _ e right goes-on (series-fits es),
    sym (series-append board m (at_greeting board m kind) es (e ∷ [])
        ∙ event-taken board m long some kind _ e [] goes-on refl ∙ series-nil board m _),
  )

-- ---- and nothing else does

pub fits-came : (board : ℕ) (m : List ℕ) → length m ≡ map_bytes board → (s : Session)
    → fits_of board m s ≡ true
    → (0 < named_count board m) × Came board m s.kind s
fits-came board m long s h = (f.some, go s.phase refl)
  where
    f : Fitting quick board m s
    f = fitting quick board m s h

    k : ℕ
    k = s.acknowledged

    counts : (ph : Phase) (j : ℕ) → s.phase ≡ ph → k ≡ j → s ≡ session_with board m s.kind ph j
    counts ph j p q =
        λ i. record {
          board = f.board-is i;
          kind = s.kind;
          phase = p i;
          acknowledged = q i;
          total = f.total-is i;
          named = f.named-is i;
        }

    came-in : (ph : Phase) → s.phase ≡ ph → came_at board m s.kind ph k ≡ true
    came-in ph e = sym (ap (λ (x : Phase). came_at board m s.kind x k) e) ∙ f.came-to

    go : (ph : Phase) → s.phase ≡ ph → Came board m s.kind s
    go Phase.Greeting e =
        waits (counts Phase.Greeting 0 e (eqb-true k 0 (came-in Phase.Greeting e)))
    go (Phase.Out x) e =
        let t = came-in (Phase.Out x) e in
        stands k (stands-below board m long s.kind x k t)
        (counts (Phase.Out (step_at board m k)) k
        (e ∙ ap Phase.Out (stands-at board m long s.kind x k t)) refl)
    go (Phase.Ended o) e =
        ends_by (asked s.kind) o (total board m s.kind) k (came-in (Phase.Ended o) e)
        (λ p q. ends (counts (Phase.Ended (asked s.kind)) (total board m s.kind)
        (e ∙ ap Phase.Ended (outcome-one o (asked s.kind) p)) q))
        (λ l t. fails o k l t (counts (Phase.Ended o) k e refl))

-- ---- the events

module _ (board : ℕ) (m : List ℕ) (long : length m ≡ map_bytes board) (some : 0 < named_count board m)
    (kind : RunKind) where
  -- the greeting, k acknowledgements and one event more
  acks-then : (k : ℕ) (e : Event) (o : Outcome) → k < total board m kind
      → took_of board m (state_at board m kind k) e ≡ session_with board m kind (Phase.Ended o) k
      → (es : List Event)
      × (session_with board m kind (Phase.Ended o) k ≡ series board m (at_greeting board m kind) es)
  acks-then k e o l q = (
    (Event.Greeting ∷ replicate k Event.Ack) ++ (e ∷ []),
    sym (series-append board m (at_greeting board m kind) (Event.Greeting ∷ replicate k Event.Ack) (e ∷ [])
        ∙ ap (λ (s : Session). series board m s (e ∷ [])) (acks-state board m long some kind k l)
        ∙ event-taken board m long some kind (state_at board m kind k) e [] refl q
        ∙ series-nil board m _),
  )

  failed-series : (o : Outcome) (k : ℕ) → k < total board m kind → failing o k ≡ true
      → (es : List Event)
      × (session_with board m kind (Phase.Ended o) k ≡ series board m (at_greeting board m kind) es)
  unfolding course.took_of series
  failed-series Outcome.Valid k l f = absurd (true-false (sym f))
  failed-series Outcome.Held k l f = absurd (true-false (sym f))
  failed-series Outcome.Silence k l f =
      acks-then k Event.Silence Outcome.Silence l (rw add-zero)
  failed-series Outcome.Bel k l f = acks-then k Event.Bel Outcome.Bel l (rw add-zero)
  failed-series Outcome.NoGreeting k l f =
      (Event.Other ∷ [], ap (session_with board m kind (Phase.Ended Outcome.NoGreeting)) (eqb-true k 0 f))
  failed-series Outcome.Other k l f =
      acks-then k Event.Other Outcome.Other l (rw add-zero)

  came-series : (s : Session) → Came board m kind s
      → (es : List Event) × (s ≡ series board m (at_greeting board m kind) es)
  came-series s (waits e) = ([], e ∙ sym (series-nil board m (at_greeting board m kind)))
  came-series s (stands k l e) =
      (Event.Greeting ∷ replicate k Event.Ack, e ∙ sym (acks-state board m long some kind k l))
  came-series s (fails o k l f e) = let r = failed-series o k l f in (r.0, e ∙ r.1)
  came-series s (ends e) =
      let n : suc (total board m kind - 1) ≡ total board m kind = omega
      (arith, total-some board m long some kind) in (
        Event.Greeting ∷ replicate (suc (total board m kind - 1)) Event.Ack,
        e ∙ sym (acks-asked board m long some kind (total board m kind - 1) n),
      )

  -- ---- of k acknowledgements each came while its packet was out

  -- where a series from s on is cut, the packet after j acknowledgements is out, and ACK comes next
  Cut : Session → List Event → ℕ → Type 0
  Cut s es j =
      (before : List Event) × (rest : List Event) × (es ≡ before ++ (Event.Ack ∷ rest))
      × (series board m s before ≡ state_at board m kind j)

  later : (s t : Session) (e : Event) (es : List Event) (j : ℕ) → ended s.phase ≡ false
      → took_of board m s e ≡ t → Cut t es j → Cut s (e ∷ es) j
  unfolding Cut
  later s t e es j o q c = (
    e ∷ c.0,
    c.1,
    ap (λ (x : List Event). e ∷ x) c.2,
    event-taken board m long some kind s e c.0 o q ∙ c.3,
  )

  -- the event is the ACK to that packet, or one before it; no other event adds to the count
  Counted : ℕ → List Event → ℕ → Type 0
  Counted k es j = j < (series board m (state_at board m kind k) es).acknowledged

  cut-event : (k : ℕ) (e : Event) (es : List Event) (j : ℕ) → k < total board m kind → k ≤ j
      → Counted k (e ∷ es) j
      → ((j ≡ k → ⊥) → Counted k (Event.Ack ∷ es) j → Cut (state_at board m kind k) (Event.Ack ∷ es) j)
      → Cut (state_at board m kind k) (e ∷ es) j
  unfolding Cut Counted
  cut-event k e es j l a b on =
      ack-or e
      (λ q. decide (eqb j k)
      (λ t. (
        [],
        es,
        ap (λ (x : Event). x ∷ es) q,
        series-nil board m (state_at board m kind k) ∙ ap (state_at board m kind) (sym (eqb-true j k t)),
      ))
      (λ t. subst (λ (x : Event). Cut (state_at board m kind k) (x ∷ es) j) (sym q)
      (on (eqb-false j k t) (subst (λ (x : Event). Counted k (x ∷ es) j) q b))))
      (λ q. let f = series-fails board m long some kind k e es q l in
      absurd (omega (arith, ap (λ (s : Session). s.acknowledged) f.2)))

  cut_on : (n k : ℕ) (es : List Event) (j : ℕ) → k + suc n ≡ total board m kind → k ≤ j → Counted k es j
      → Cut (state_at board m kind k) es j
  unfolding Counted
  cut_on n k [] j l a b =
      absurd (omega
      (arith, ap (λ (s : Session). s.acknowledged) (series-nil board m (state_at board m kind k))))
  cut_on zero k (e ∷ es) j l a b =
      cut-event k e es j (omega arith) a b
      (λ t u. absurd (omega (
        arith,
        ap (λ (s : Session). s.acknowledged) (series-last board m long some kind k es (omega arith)),
      )))
  cut_on (suc n) k (e ∷ es) j l a b =
      cut-event k e es j (omega arith) a b
      (λ t u. later (state_at board m kind k) (state_at board m kind (k + 1)) Event.Ack es j
      refl
      (ack-next board m long some kind k (omega arith))
      (cut_on n (k + 1) es j (omega arith) (omega arith)
      (subst (λ (s : Session). j < s.acknowledged)
      (series-ack board m long some kind k es (omega arith)) u)))

  cut_at : (es : List Event) (j : ℕ) → j < (series board m (at_greeting board m kind) es).acknowledged
      → Cut (at_greeting board m kind) es j
  unfolding Counted
  cut_at [] j b =
      absurd (omega
      (arith, ap (λ (s : Session). s.acknowledged) (series-nil board m (at_greeting board m kind))))
  cut_at (e ∷ es) j b =
      greeting-or e
      (λ q. subst (λ (x : Event). Cut (at_greeting board m kind) (x ∷ es) j) (sym q)
      (later (at_greeting board m kind) (state_at board m kind 0) Event.Greeting es j refl
      (greeting-state board m long some kind)
      (cut_on (total board m kind - 1) 0 es j (omega (arith, total-some board m long some kind)) (omega arith)
      (counted
      (subst (λ (x : Event). j < (series board m (at_greeting board m kind) (x ∷ es)).acknowledged) q b)))))
      (λ q. let f = first-fails board m long some kind e es q in
      absurd (omega (arith, ap (λ (s : Session). s.acknowledged) f.2)))
    where
      counted : j < (series board m (at_greeting board m kind) (Event.Greeting ∷ es)).acknowledged
          → Counted 0 es j
      counted = subst (λ (s : Session). j < s.acknowledged) (series-first board m long some kind es)

  -- in whatever way a session came about, the V of each byte that it has marked was acknowledged
  pub series-acknowledged : (es : List Event) (a : ℕ)
      → marked board m (series board m (at_greeting board m kind) es).acknowledged a ≡ true
      → Acknowledged board m kind es a
  unfolding Cut
  series-acknowledged es a h =
      let v = marked-carried board m long _ a h in
      let c = cut_at es v.0 v.2 in
      record {
        before = c.0;
        rest = c.1;
        piece = v.1;
        cut = c.2;
        out = ap (λ (s : Session). s.phase) c.3 ∙ ap Phase.Out v.3.step;
        from = v.3.from;
        below = v.3.below;
      }

-- some events over the file lead to a session that fits it
pub fits-series : (board : ℕ) (m : List ℕ) → length m ≡ map_bytes board → (s : Session)
    → fits_of board m s ≡ true
    → (es : List Event) × (s ≡ series board m (at_greeting board m s.kind) es)
fits-series board m long s h =
    let c = fits-came board m long s h in came-series board m long c.0 s.kind s c.1

-- ---- whatever record and map: what `proved` calls proved was shown

pub proved-shown : (board : ℕ) (m : List ℕ) (s : Session) (a : ℕ) → proved_of board m s a ≡ given true
    → Shown board m s a
unfolding course.proved_of
proved-shown board m s a h =
    let p = passed 20 _ _ _ h in
    let q = passed 46 _ _ _ p.1 in
    let long = eqb-true (length m) (map_bytes board) (not-false _ p.0) in
    let f = not-false _ q.0 in
    let e = fits-series board m long s f in
    record {
      events = e.0;
      lead-here = e.1;
      acknowledged = λ es d. series-acknowledged board m long (fitting quick board m s f).some s.kind es a
          (ap (λ (x : Session). marked board m x.acknowledged a) (sym d)
          ∙ given-one (sym (proved-is board m long s a f) ∙ h));
    }
