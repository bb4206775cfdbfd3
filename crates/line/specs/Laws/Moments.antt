-- The moments of a load, one after another: that each is safe, that the load ends, what silence does, and
-- that it ends as was asked.
use Rattle.std.specs.Prelude.{ℕ, zero, suc, ◌+◌, ◌-◌, ◌≤◌, ◌<◌, Bool, true, false, List, [], ◌∷◌, ◌≡◌, ltb, length}
use Rattle.std.proofs.Math.Path.{refl}
use Rattle.std.proofs.Common.{sym, ap, subst, ◌∙◌, arith, ltb-true, ltb-false}
use Rattle.basis.specs.Board.{opening_byte}
use Rattle.basis.specs.Choice.{pick}
use Rattle.basis.specs.Laws.Choice.{decide, true-false}
use Rattle.basis.specs.Laws.Refusals.{given-one}
use Rattle.basis.specs.Lists.{Bytes}
use Rattle.basis.specs.Refusals.{Answer, given}
use Rattle.basis.specs.Units.{page_of, start_of, map_bytes}
use Rattle.basis.specs.declared.kind.RunKind.{RunKind}
use Rattle.events.specs.Endings.{paper_outcome, asked, ends_at}
use Rattle.events.specs.Laws.Endings.{outcome-one, ends_by}
use Rattle.events.specs.Laws.Events.{greeting-heard}
use Rattle.events.specs.declared.ending.Outcome.{Outcome}
use Rattle.events.specs.declared.event.Event.{Event}
use Rattle.line.specs.Demand.{AllProved, RunOut, AsAsked, Safe, Free}
use Rattle.line.specs.Laws.Exchange.{silence-is, let-acked, opened, standing, served, taken, on-ack, on-last, taken-first, on-greeting}
use Rattle.line.specs.Laws.Liveness.{Grows, Lets, lets}
use Rattle.line.specs.Laws.Safety.{serving, serving-serves, board-greets}
use Rattle.line.specs.Laws.Stages.{Holds, Stage, starts, stands, ends, stage, served-holds, opening-holds, first-flash}
use Rattle.line.specs.Laws.Turns.{turns-stay, turn-follows, turns-done, turns-again}
use Rattle.line.specs.Line.{Moment, moment_with, begun, loader_takes, between, reply, event_from, exchange_of, moment_at, load_at}
use Rattle.line.specs.declared.exchange.Loss.{Loss}
use Rattle.loader.specs.Commands.{Effect, effect_after}
use Rattle.loader.specs.State.{reset_of}
use Rattle.loader.specs.Take.{answer_bytes}
use Rattle.loader.specs.declared.state.Loader.{Loader}
use Rattle.order.specs.Laws.Kinds.{r-most}
use Rattle.order.specs.Laws.Out.{Out, erases, writes, verifies, runs, out-after}
use Rattle.order.specs.Laws.Starts.{some-page}
use Rattle.order.specs.Laws.Totals.{total-some}
use Rattle.order.specs.Marks.{marked}
use Rattle.order.specs.Plan.{sends_r, piece_bytes, total, before_r}
use Rattle.order.specs.Steps.{packet_at}
use Rattle.packet.specs.Laws.Packet.{packet-command}
use Rattle.packet.specs.Packet.{command}
use Rattle.packet.specs.Table.{erase_byte, write_byte, verify_byte, run_byte}
use Rattle.runs.specs.Laws.Pages.{named-touched}
use Rattle.runs.specs.Laws.Pieces.{rank-some}
use Rattle.runs.specs.Map.{named}
use Rattle.runs.specs.Pages.{touched}
use Rattle.runs.specs.Pieces.{piece_most, run_len}
use Rattle.session.specs.Laws.Exact.{ended-fits}
use Rattle.session.specs.Laws.Marks.{proved-is, all-marked}
use Rattle.session.specs.Laws.Series.{silence-ends, is_good, fails-good}
use Rattle.session.specs.Laws.States.{waiting-fits, state-fits}
use Rattle.session.specs.Phases.{ended}
use Rattle.session.specs.Session.{Session, at_greeting, state_at, fits_of, took_of, Loadable}
use Rattle.session.specs.declared.phase.Phase.{Phase}

-- ---- the moments of any start

module _ (board : ℕ) (image m : List ℕ) (losses : ℕ → Loss) (x : Moment) where
  abbrev at : ℕ → Moment
  at = moment_at board image m losses x

  abbrev over : Moment → Bool
  over y = ended y.session.phase

  abbrev turn : ℕ → Moment → Moment
  turn n = exchange_of board image m (losses n)

  next : (n : ℕ) → at (suc n) ≡ pick (over (at n)) (at n) (turn n (at n))
  unfolding moment_at
  next n = refl

  -- after the end nothing changes
  pub stays : (i n : ℕ) → i ≤ n → ended (at i).session.phase ≡ true → at n ≡ at i
  stays = turns-stay over turn at next

  -- while the session goes on the next exchange takes place
  pub follows : (n : ℕ) → ended (at n).session.phase ≡ false
      → at (suc n) ≡ exchange_of board image m (losses n) (at n)
  follows = turn-follows over turn at next

  -- both of a moment that stands after i exchanges
  pub done : (k i : ℕ) (y : Moment) → y ≡ at i → i ≤ k → ended y.session.phase ≡ true → at k ≡ y
  done = turns-done over turn at next

  pub again : (i : ℕ) (y : Moment) (o : Loss) → y ≡ at i → ended y.session.phase ≡ false → o ≡ losses i
      → exchange_of board image m o y ≡ at (i + 1)
  again i y o e t q =
      ap (λ (w : Loss). exchange_of board image m w y) q ∙ turns-again over turn at next i y e t

-- ---- what flash holds makes a moment safe, if R and the verdict come late enough, and as was asked

-- of a moment with k packets acknowledged: R is out and the session has ended well only once every V is among
-- them; R where the run kind sends it, and the ending that was asked for
record Late (board : ℕ) (m : List ℕ) (kind : RunKind) (k : ℕ) (x : Moment) : Type 0 where
  pub run-late : RunOut x → (before_r board m ≤ k) × (sends_r kind ≡ true)
  pub end-late : (u : Outcome) → is_good (Phase.Ended u) ≡ true → x.session.phase ≡ Phase.Ended u
      → (before_r board m ≤ k) × (u ≡ asked kind)

holds-safe : (board : ℕ) (image m before : List ℕ) (long : length m ≡ map_bytes board) (kind : RunKind)
    (k : ℕ)
    (x : Moment) → x.session.acknowledged ≡ k → fits_of board m x.session ≡ true
    → Holds board image m before k x.flash → Late board m kind k x → Safe board image m before kind x
holds-safe board image m before long kind k x c fits h late =
    record {
      proved-stands = λ a p. h.marked-stands a
          (sym (is a) ∙ given-one (sym (proved-is board m long x.session a fits) ∙ p));
      untouched-stays = h.untouched;
      run-proved = λ r. all (late.run-late r).0;
      valid-proved = λ v. all (late.end-late Outcome.Valid refl v).0;
      held-proved = λ v. all (late.end-late Outcome.Held refl v).0;
      hold-still = λ e r. true-false (sym (late.run-late r).1 ∙ ap sends_r e);
      hold-invalid = λ e v. unlike ((late.end-late Outcome.Valid refl v).1 ∙ ap asked e);
      held-hold = λ v. hold kind (late.end-late Outcome.Held refl v).1;
    }
  where
    is : (a : ℕ) → marked board m x.session.acknowledged a ≡ marked board m k a
    is a = ap (λ (j : ℕ). marked board m j a) c

    all : before_r board m ≤ k → AllProved board m x.session
    all b a t =
        proved-is board m long x.session a fits ∙ ap given (is a ∙ all-marked board m long k a b ∙ t)

    unlike : Outcome.Valid ≡ Outcome.Held → ⊥
    unlike e = omega (arith, ap paper_outcome e)

    hold : (kind : RunKind) → Outcome.Held ≡ asked kind → kind ≡ RunKind.Hold
    hold RunKind.Reset e = absurd (unlike (sym e))
    hold RunKind.Jump e = absurd (unlike (sym e))
    hold RunKind.Hold e = refl

-- on the wire R comes after every V, where it is sent
packet-late : (board : ℕ) (image m : List ℕ) (long : length m ≡ map_bytes board) (kind : RunKind) (k : ℕ)
    → k < total board m kind → command (packet_at board image m kind k) ≡ run_byte
    → (before_r board m ≤ k) × (sends_r kind ≡ true)
packet-late board image m long kind k b = go (out-after board m long kind k b)
  where
    go : Out board m kind k → command (packet_at board image m kind k) ≡ run_byte
        → (before_r board m ≤ k) × (sends_r kind ≡ true)
    go (erases q e r c) h =
        absurd (omega
        (arith, sym (packet-command erase_byte (start_of q) (run_len board m q ∷ [])) ∙ (rw e at h)))
    go (writes a j e r t c) h =
        absurd (omega (arith, sym (packet-command write_byte a (piece_bytes image m a)) ∙ (rw e at h)))
    go (verifies a j e r t c) h =
        absurd (omega (arith, sym (packet-command verify_byte a (piece_bytes image m a)) ∙ (rw e at h)))
    go (runs e t s) h = (omega arith, s)

-- a session that goes on has not ended
going_on : {R : Type 0} (s : Session) (u : Outcome) → ended s.phase ≡ false → s.phase ≡ Phase.Ended u → R
going_on s u o v = absurd (true-false (sym (ap ended v) ∙ o))

-- one that has ended well has all acknowledged, and has ended as was asked
end-asked : (kind : RunKind) (u w : Outcome) (n k : ℕ) → ends_at (asked kind) n u k ≡ true
    → is_good (Phase.Ended w) ≡ true → Phase.Ended u ≡ Phase.Ended w → (k ≡ n) × (w ≡ asked kind)
end-asked kind u w n k v g e =
    ends_by (asked kind) u n k v (λ p q. (q, sym (same e) ∙ outcome-one u (asked kind) p))
    (λ l f. absurd (true-false (sym g ∙ sym (ap is_good e) ∙ fails-good u k f)))
  where
    outcome : Phase → Outcome
    outcome Phase.Greeting = Outcome.Valid
    outcome (Phase.Out s) = Outcome.Valid
    outcome (Phase.Ended o) = o

    same : Phase.Ended u ≡ Phase.Ended w → u ≡ w
    same e = ap outcome e

-- a moment whose session has ended does not go on
not-open : {R : Type 0} {x y : Moment} → x ≡ y → ended y.session.phase ≡ true
    → ended x.session.phase ≡ false → R
not-open q d t = absurd (true-false (sym d ∙ sym (ap (λ (z : Moment). ended z.session.phase) q) ∙ t))

module _ (board : ℕ) (few : board ≤ 255) (image m before : List ℕ) (file : Loadable board image m)
    (kind : RunKind) (l : Loader) (size : length before ≡ start_of board) where
  -- the opening byte is out, before and after the loader has taken it
  first-safe : (e : Effect) → e.flash ≡ before
      → Safe board image m before kind (moment_with e (at_greeting board m kind) (opening_byte ∷ []))
  first-safe e q =
      holds-safe board image m before file.long kind 0 _ refl
      (waiting-fits board m file.long file.some kind)
      (opening-holds board image m before file.long e.flash q size)
      (record {
        run-late = λ r. absurd (omega arith);
        end-late = λ u g. going_on (at_greeting board m kind) u refl;
      })

  next-safe : (k : ℕ) → k < total board m kind → (e : Effect) → Holds board image m before k e.flash
      → Safe board image m before kind (standing board image m kind e k)
  next-safe k b e h =
      holds-safe board image m before file.long kind k _ refl
      (state-fits board m file.long file.some kind k b) h
      (record {
        run-late = packet-late board image m file.long kind k b;
        end-late = λ u g. going_on (state_at board m kind k) u refl;
      })

  pub stage-safe : (n : ℕ) (x : Moment) → Stage board image m before kind l n x
      → Safe board image m before kind x
  stage-safe n x (starts z q) = rw q (first-safe (record { loader = reset_of l; flash = before }) refl)
  stage-safe n x (stands e k z b s h q) = rw q (next-safe k b e h)
  stage-safe n x (ends e u k h v q) =
      rw q (holds-safe board image m before file.long kind k _ refl
      (ended-fits board m file.long file.some kind u k v) h
      (record {
        run-late = λ r. absurd (omega arith);
        end-late = λ w g t. let a = end-asked kind u w (total board m kind) k v g t in (omega arith, a.1);
      }))

  pub amid-safe : (o : Loss) (n : ℕ) (x : Moment) → Stage board image m before kind l n x
      → ended x.session.phase ≡ false → Safe board image m before kind (between board o x)
  amid-safe o n x (starts z q) t =
      rw q (first-safe (opened board o l before) (first-flash board o l before size))
  amid-safe o n x (stands e k z b s h q) t =
      rw q (next-safe k b (served board image m kind o e k)
      (served-holds board few image m before file kind e.loader (rw s (serving-serves l)) o
      e.flash k h b))
  amid-safe o n x (ends e u k h v q) t = not-open q refl t

-- ---- the end

module _ (board : ℕ) (few : board ≤ 255) (image m before : List ℕ) (file : Loadable board image m)
    (bytes : Bytes image) (kind : RunKind) (l : Loader)
    (size : length before ≡ start_of board) (losses : ℕ → Loss) where
  abbrev load : ℕ → Moment
  load = load_at board image m kind l losses before

  abbrev start : Moment
  start = begun board m kind l before

  -- a load ends by itself, after at most the total and one exchange more
  pub going : (n : ℕ) → ended (load n).session.phase ≡ false → n ≤ total board m kind
  going n t = go (load n) (stage board few image m before file bytes kind l size losses n) t
    where
      go : (x : Moment) → Stage board image m before kind l n x → ended x.session.phase ≡ false
          → n ≤ total board m kind
      go x (starts z q) t = omega arith
      go x (stands e k z b s h q) t = omega arith
      go x (ends e u k h v q) t = not-open q refl t

  -- an exchange that brings no answer ends the session with 40
  hushed : (o : Loss) (n : ℕ) (x : Moment) → Stage board image m before kind l n x
      → ended x.session.phase ≡ false → reply board o x ≡ []
      → (exchange_of board image m o x).session.phase ≡ Phase.Ended Outcome.Silence
  hushed o n x (starts z q) t r =
      ap (λ (y : Moment). (exchange_of board image m o y).session.phase) q
      ∙ ap (λ (y : Moment). y.session.phase) (taken-first board image m file kind o l before)
      ∙ ap (λ (v : Event). (took_of board m (at_greeting board m kind) v).phase)
      (silence-is board _ (sym (ap (reply board o) q) ∙ r))
      ∙ silence-ends board m (at_greeting board m kind)
  hushed o n x (stands e k z b s h q) t r =
      ap (λ (y : Moment). (exchange_of board image m o y).session.phase) q
      ∙ ap (λ (y : Moment). y.session.phase) (taken board image m file kind o e k b)
      ∙ ap (λ (v : Event). (took_of board m (state_at board m kind k) v).phase)
      (silence-is board _ (sym (ap (reply board o) q) ∙ r))
      ∙ silence-ends board m (state_at board m kind k)
  hushed o n x (ends e u k h v q) t r = not-open q refl t

  -- so it stands ended with 40 from then on, and was valid or held at no time
  module _ (i : ℕ) (goes-on : ended (load i).session.phase ≡ false)
      (no_answer : reply board (losses i) (load i) ≡ []) where
    pub silent : (n : ℕ) → i < n → (load n).session.phase ≡ Phase.Ended Outcome.Silence
    silent n b =
        let e : (load (suc i)).session.phase ≡ Phase.Ended Outcome.Silence
        = ap (λ (x : Moment). x.session.phase) (follows board image m losses start i goes-on)
        ∙ hushed (losses i) i (load i) (stage board few image m before file bytes kind l size losses i)
        goes-on no_answer in
        ap (λ (x : Moment). x.session.phase) (stays board image m losses start (suc i) n b (ap ended e)) ∙ e

    pub never-good : (u : Outcome) → is_good (Phase.Ended u) ≡ true → (n : ℕ)
        → (load n).session.phase ≡ Phase.Ended u → ⊥
    never-good u g n v =
        decide (ltb i n)
        (λ t. true-false (sym g ∙ sym (ap is_good (sym (silent n (ltb-true i n t)) ∙ v))))
        (λ t. let e = stays board image m losses start n i (ltb-false i n t) (ap ended v) in
        true-false (sym (ap ended v) ∙ sym (ap (λ (x : Moment). ended x.session.phase) e) ∙ goes-on))

  -- ---- nothing lost, no touched page in a protected group, no read protection
  module _ (whole : (n : ℕ) → losses n ≡ Loss.Whole) (free : Free m l) where
    -- flash before the first packet: no run is erased and no piece written
    first-grows : Grows board image m 0 before
    first-grows =
        record {
          size = size;
          written = λ a t b. absurd (omega (arith, rank-some (named m) piece_most (omega arith) a t));
          blank = λ a t b c.
              let r = rank-some (touched m) board (some-page board m file.some) (page_of a)
              (named-touched m a t) in
              absurd (omega arith);
        }

    -- loader and flash that serve, with k packets acknowledged
    abbrev serves-at : List ℕ → Effect
    serves-at f = record { loader = serving l; flash = f }

    -- after k + 1 exchanges k packets are acknowledged
    record Alive (k : ℕ) (x : Moment) : Type 0 where
      pub flash : List ℕ
      pub grows : Grows board image m k flash
      pub moment-is : x ≡ standing board image m kind (serves-at flash) k

    open_at : (k : ℕ) (x : Moment) → Alive k x → ended x.session.phase ≡ false
    open_at k x c = ap (λ (y : Moment). ended y.session.phase) c.moment-is

    module _ (k : ℕ) (b : k < total board m kind) (f : List ℕ) (grows : Grows board image m k f) where
      -- the packet that is out is let through
      passing : (e : Effect) × Lets board image m (serving l) (packet_at board image m kind k) f k e
      passing =
          lets board few image m file bytes kind (serving l) (serving-serves l)
          (record { unprotected = free.unprotected; readable = free.readable }) f k grows
          (out-after board m file.long kind k b)

      served-is : served board image m kind Loss.Whole (serves-at f) k ≡ passing.0
      served-is = ap (λ (x : Answer Effect). effect_after (serving l) f x) passing.1.let-is

      hears : event_from board (reply board Loss.Whole (standing board image m kind (serves-at f) k))
          ≡ Event.Ack
      hears = let-acked board (serving l) _ f passing.0 refl passing.1.let-is

    -- the exchange that follows
    exchanged : (k : ℕ) (c : Alive k (load (suc k)))
        → load (suc (suc k))
        ≡ exchange_of board image m Loss.Whole (standing board image m kind (serves-at c.flash) k)
    exchanged k c =
        follows board image m losses start (suc k) (open_at k (load (suc k)) c)
        ∙ ap (λ (o : Loss). exchange_of board image m o (load (suc k))) (whole (suc k))
        ∙ ap (exchange_of board image m Loss.Whole) c.moment-is

    begins : load 0 ≡ start
    unfolding moment_at
    begins = refl

    alive : (k : ℕ) → k < total board m kind → Alive k (load (suc k))
    alive zero b =
        record {
          flash = before;
          grows = first-grows;
          moment-is =
              follows board image m losses start 0 (ap (λ (x : Moment). ended x.session.phase) begins)
              ∙ ap (λ (o : Loss). exchange_of board image m o (load 0)) (whole 0)
              ∙ ap (exchange_of board image m Loss.Whole) begins
              ∙ on-greeting board image m file kind Loss.Whole l before
              (ap (λ (x : Answer Effect). event_from board (answer_bytes board (reset_of l) x)) greets
              ∙ greeting-heard board)
              ∙ ap (λ (x : Answer Effect). standing board image m kind (effect_after (reset_of l) before x) 0)
              greets;
        }
      where
        greets : loader_takes board (reset_of l) (opening_byte ∷ []) before ≡ given (serves-at before)
        greets = board-greets board l before size
    alive (suc k) b =
        let c = alive k (omega arith) in
        let d : k < total board m kind = omega arith in
        let e : Effect = (passing k d c.flash c.grows).0 in
        let p = (passing k d c.flash c.grows).1 in
        let s : e.loader ≡ serving l = p.loader-is (omega (arith, r-most kind)) in
        let j : k + 1 ≡ suc k = omega arith in
        record {
          flash = e.flash;
          grows = subst (λ (i : ℕ). Grows board image m i e.flash) j p.grows;
          moment-is = exchanged k c
              ∙ on-ack board image m file kind Loss.Whole (serves-at c.flash) k d (omega arith)
              (hears k d c.flash c.grows)
              ∙ ap (λ (x : Effect). standing board image m kind x (k + 1))
              (served-is k d c.flash c.grows)
              ∙ ap (standing board image m kind e) j
              ∙ ap (λ (x : Loader). standing board image m kind (record { loader = x; flash = e.flash })
              (suc k))
              s;
        }

    -- after the last ACK it has ended as was asked, and stays so
    pub ends_asked : (n : ℕ) → total board m kind < n → AsAsked kind (load n).session
    ends_asked n b =
        ap (λ (x : Moment). x.session.phase)
        (stays board image m losses start (suc (suc last)) n (omega (arith, last-is)) (ap ended ended-asked))
        ∙ ended-asked
      where
        last : ℕ
        last = total board m kind - 1

        last-is : last + 1 ≡ total board m kind
        last-is = omega (arith, total-some board m file.long file.some kind)

        ended-asked : AsAsked kind (load (suc (suc last))).session
        ended-asked =
            let d : last < total board m kind = omega (arith, last-is) in
            let c = alive last d in
            ap (λ (x : Moment). x.session.phase)
            (exchanged last c
            ∙ on-last board image m file kind Loss.Whole (serves-at c.flash) last d last-is
            (hears last d c.flash c.grows))
