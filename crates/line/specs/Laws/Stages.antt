-- Every moment of a load over a line that may lose anything: where the session stands, and what flash holds.
use Rattle.std.specs.Prelude.{true, false, List, [], ◌∷◌, map, ◌≡◌, ltb, length, get_or}
use Rattle.std.proofs.Math.Path.{refl}
use Rattle.std.proofs.Common.{sym, ap, subst, ◌∙◌, arith, eq-eqb, ltb-true, ltb-false, ℕ, zero, suc, ◌+◌, ◌≤◌, ◌<◌}
use Rattle.basis.specs.Board.{opening_byte}
use Rattle.basis.specs.Choice.{pick}
use Rattle.basis.specs.Laws.Choice.{decide}
use Rattle.basis.specs.Lists.{Bytes}
use Rattle.basis.specs.Refusals.{Answer, given, first}
use Rattle.basis.specs.Units.{start_of, map_bytes}
use Rattle.basis.specs.declared.kind.RunKind.{RunKind}
use Rattle.events.specs.Endings.{ends_at, asked}
use Rattle.events.specs.Events.{is_ack}
use Rattle.events.specs.Laws.Endings.{ends_asked, fails-ends}
use Rattle.events.specs.Laws.Events.{greeting-heard, ack-or}
use Rattle.events.specs.declared.ending.Outcome.{Outcome}
use Rattle.events.specs.declared.event.Event.{Event}
use Rattle.image.specs.Laws.Flash.{length-erase, length-store}
use Rattle.line.specs.Demand.{Untouched}
use Rattle.line.specs.Laws.Exchange.{silence-is, acked, opened, over, standing, served, on-ack, on-last, on-else, on-greeting, on-silence}
use Rattle.line.specs.Laws.Safety.{Serves, serving, serving-serves, board-greets, erase-untouched, store-untouched, served-by, takes-erase, takes_write, takes-verify, takes_run, verified}
use Rattle.line.specs.Line.{Moment, begun, loader_takes, delivered, reply, event_from, exchange_of, moment_at, load_at}
use Rattle.line.specs.declared.exchange.Loss.{Loss}
use Rattle.loader.specs.Commands.{Effect, effect_after, verify_rows, running}
use Rattle.loader.specs.Laws.Commands.{either_way, judged-does}
use Rattle.loader.specs.Laws.Host.{kept}
use Rattle.loader.specs.State.{reset_of}
use Rattle.loader.specs.Take.{answer_bytes}
use Rattle.loader.specs.declared.state.Loader.{Loader}
use Rattle.order.specs.Laws.Kinds.{r-most}
use Rattle.order.specs.Laws.Out.{Out, erases, writes, verifies, runs, out-after}
use Rattle.order.specs.Laws.Starts.{piece-carried}
use Rattle.order.specs.Laws.Totals.{total-some}
use Rattle.order.specs.Marks.{marked}
use Rattle.order.specs.Plan.{total, piece_bytes, verify_packet, before_verify, before_r}
use Rattle.order.specs.Steps.{packet_of, verify_at, place_of, packet_at}
use Rattle.packet.specs.Turn.{turned_of}
use Rattle.runs.specs.Pieces.{run_len}
use Rattle.session.specs.Laws.Marks.{marked-late, marked_more, all-marked}
use Rattle.session.specs.Phases.{ended}
use Rattle.session.specs.Session.{Loadable}
use Rattle.order.specs.declared.step.Step.{Step}

module _ (board : ℕ) (image m before : List ℕ) where
  -- flash after k acknowledgements: its size, the pages that are not touched, and the bytes that are marked
  pub record Holds (k : ℕ) (f : List ℕ) : Type 0 where
    pub size : length f ≡ start_of board
    pub untouched : Untouched m before f
    pub marked-stands : (a : ℕ) → marked board m k a ≡ true → get_or f a 0 ≡ get_or image a 0

  -- after n exchanges: the opening byte is out; or n - 1 packets are acknowledged and the next is out; or the
  -- session has ended
  pub data Stage (kind : RunKind) (l : Loader) (n : ℕ) (x : Moment) : Type 0 where
    starts : n ≡ 0 → x ≡ begun board m kind l before → Stage kind l n x
    stands : (e : Effect) (k : ℕ) → n ≡ k + 1 → k < total board m kind → e.loader ≡ serving l
        → Holds k e.flash → x ≡ standing board image m kind e k → Stage kind l n x
    ends : (e : Effect) (u : Outcome) (k : ℕ) → Holds k e.flash
        → ends_at (asked kind) (total board m kind) u k ≡ true → x ≡ over board m kind e u k
        → Stage kind l n x

-- ---- before the first V

module _ (board : ℕ) (image m before : List ℕ) (long : length m ≡ map_bytes board) where
  -- before the first V is acknowledged no byte is marked
  early : {k : ℕ} {f : List ℕ} → k ≤ before_verify board m → length f ≡ start_of board
      → Untouched m before f
      → Holds board image m before k f
  early {k} l s u =
      record {
        size = s;
        untouched = u;
        marked-stands = λ a h. absurd (omega (arith, marked-late board m long k a h));
      }

  pub opening-holds : (f : List ℕ) → f ≡ before → length before ≡ start_of board
      → Holds board image m before 0 f
  opening-holds f e s = early (omega arith) (ap length e ∙ s) (λ a t. ap (λ (x : List ℕ). get_or x a 0) e)

-- the opening byte leaves flash as it was
pub first-flash : (board : ℕ) (o : Loss) (l : Loader) (f : List ℕ) → length f ≡ start_of board
    → (opened board o l f).flash ≡ f
first-flash board o l f size =
    served-by board (λ (x : Effect). x.flash ≡ f) o (reset_of l) (opening_byte ∷ []) f refl
    (ap (λ (x : Answer Effect). (effect_after (reset_of l) f x).flash) (board-greets board l f size))

-- ---- the loader's step keeps what flash holds

-- the place that a V is at
place : (board : ℕ) (a b : ℕ) → verify_at a ≡ verify_at b → a ≡ b
unfolding place_of
place board a b e = ap (place_of board) e

module _ (board : ℕ) (few : board ≤ 255) (image m before : List ℕ) (file : Loadable board image m)
    (kind : RunKind) (l : Loader) (serves : Serves l) (o : Loss) (f : List ℕ) (k : ℕ)
    (h : Holds board image m before k f) where
  abbrev arriving : Effect
  arriving = effect_after l f (loader_takes board l (packet_at board image m kind k) f)

  arrived : Out board m kind k → Holds board image m before k arriving.flash
  arrived (erases q e r b) =
      rw (e, takes-erase board few image m file l serves f h.size q r.begins)
      (either_way (λ (x : Effect). Holds board image m before k x.flash) l f _ _ h
      (early board image m before file.long (omega arith)
      (length-erase f (start_of q) (start_of (run_len board m q)) ∙ h.size)
      (erase-untouched board m before f q h.untouched)))
  arrived (writes a j e r t b) =
      rw (e, takes_write board few image m file l serves f h.size a r.begins)
      (either_way (λ (x : Effect). Holds board image m before k x.flash) l f _ _ h
      (early board image m before file.long (omega arith)
      (length-store f a (piece_bytes image m a) ∙ h.size)
      (store-untouched board m before f (piece_bytes image m a) a
      (piece-carried board m file.long image a file.right r.begins).0
      h.untouched)))
  arrived (verifies a j e r t b) =
      rw (e, takes-verify board few image m file l serves f h.size a r.begins, kept l f _) h
  arrived (runs e t s) =
      rw (e, (takes_run board few image m file l serves f h.size kind s).2, kept l f (running l _)) h

  pub served-holds : k < total board m kind
      → Holds board image m before k (delivered board o l (packet_at board image m kind k) f).flash
  served-holds b =
      served-by board (λ (x : Effect). Holds board image m before k x.flash) o l
      (packet_at board image m kind k) f h
      (arrived (out-after board m file.long kind k b))

  -- until R it keeps the loader too
  served-loader : k < before_r board m → Out board m kind k
      → (delivered board o l (packet_at board image m kind k) f).loader ≡ l
  served-loader b t =
      served-by board (λ (x : Effect). x.loader ≡ l) o l (packet_at board image m kind k) f refl (go t)
    where
      go : Out board m kind k → arriving.loader ≡ l
      go (erases q e r b) =
          rw (e, takes-erase board few image m file l serves f h.size q r.begins)
          (either_way (λ (x : Effect). x.loader ≡ l) l f _ _ refl refl)
      go (writes a j e r t b) =
          rw (e, takes_write board few image m file l serves f h.size a r.begins)
          (either_way (λ (x : Effect). x.loader ≡ l) l f _ _ refl refl)
      go (verifies a j e r t b) =
          rw (e, takes-verify board few image m file l serves f h.size a r.begins)
          (sym (judged-does l f _ refl).loader-is)
      go (runs e t s) = absurd (omega arith)

  -- an ACK marks the bytes that an accepted V has shown to stand
  acked-holds : Bytes image → k < total board m kind → (e : Effect)
      → loader_takes board l (packet_at board image m kind k) f ≡ given e
      → Holds board image m before (k + 1) (delivered board o l (packet_at board image m kind k) f).flash
  acked-holds bytes b e q = go (out-after board m file.long kind k b)
    where
      g : List ℕ
      g = (delivered board o l (packet_at board image m kind k) f).flash

      hg : Holds board image m before k g
      hg = served-holds b

      go : Out board m kind k → Holds board image m before (k + 1) g
      go (erases p t r c) = early board image m before file.long (omega arith) hg.size hg.untouched
      go (writes s j t r u c) =
          early board image m before file.long (omega arith) hg.size hg.untouched
      go (verifies s j t r u c) =
          record {
            size = hg.size;
            untouched = hg.untouched;
            marked-stands = λ a n. marked_more board m file.long k a n (hg.marked-stands a)
                (λ z v. let y : s ≡ z = place board s z (sym t ∙ v.step) in
                ap (λ (x : List ℕ). get_or x a 0) same
                ∙ verified board few image m file l serves f h.size bytes s r.begins e let_through a
                (rw y v.from) (rw y v.below));
          }
        where
          let_through : loader_takes board l (verify_packet image m s) f ≡ given e
          let_through =
              ap (λ (x : Step). loader_takes board l (packet_of board image m kind x) f) (sym t) ∙ q

          same : g ≡ f
          same =
              served-by board (λ (x : Effect). x.flash ≡ f) o l (packet_at board image m kind k) f refl
              (rw (t, takes-verify board few image m file l serves f h.size s r.begins)
              (kept l f (first (verify_rows board l s (map turned_of (piece_bytes image m s)) f) (given l))))
      go (runs t u s) =
          record {
            size = hg.size;
            untouched = hg.untouched;
            marked-stands = λ a n. hg.marked-stands a
                (all-marked board m file.long k a (omega arith)
                ∙ sym (all-marked board m file.long (k + 1) a (omega arith)) ∙ n);
          }

-- ---- one exchange leads from stage to stage

module _ (board : ℕ) (few : board ≤ 255) (image m before : List ℕ) (file : Loadable board image m)
    (bytes : Bytes image) (kind : RunKind) (l : Loader)
    (size : length before ≡ start_of board) where
  abbrev At : ℕ → Moment → Type 0
  At = Stage board image m before kind l

  abbrev start : Moment
  start = begun board m kind l before

  -- there is a first packet
  planned : 0 < total board m kind
  planned = total-some board m file.long file.some kind

  silent-stage : (o : Loss) → event_from board (reply board o start) ≡ Event.Silence
      → At 1 (exchange_of board image m o start)
  silent-stage o h =
      let s = on-silence board image m file kind o l before h in
      ends (opened board o l before) s.0 0
      (opening-holds board image m before file.long _ (first-flash board o l before size) size)
      (fails-ends kind s.0 0 s.1 (total board m kind) planned) s.2

  first-stage : (o : Loss) → At 1 (exchange_of board image m o start)
  first-stage Loss.Whole =
      let g = board-greets board l before size in
      stands (opened board Loss.Whole l before) 0 refl planned
      (ap (λ (x : Answer Effect). (effect_after (reset_of l) before x).loader) g)
      (opening-holds board image m before file.long _ (first-flash board Loss.Whole l before size) size)
      (on-greeting board image m file kind Loss.Whole l before
      (ap (λ (x : Answer Effect). event_from board (answer_bytes board (reset_of l) x)) g
      ∙ greeting-heard board))
  first-stage Loss.Lost = silent-stage Loss.Lost (silence-is board [] refl)
  first-stage Loss.Unanswered = silent-stage Loss.Unanswered (silence-is board [] refl)

  -- ACK goes on or ends as was asked, all else ends
  next-stage : (o : Loss) (e : Effect) (k : ℕ) → k < total board m kind → e.loader ≡ serving l
      → Holds board image m before k e.flash
      → At (suc (k + 1)) (exchange_of board image m o (standing board image m kind e k))
  next-stage o e k b s h = ack-or (event_from board (reply board o here)) on-it off-it
    where
      here : Moment
      here = standing board image m kind e k

      serves : Serves e.loader
      serves = rw s (serving-serves l)

      off-it : is_ack (event_from board (reply board o here)) ≡ false
          → At (suc (k + 1)) (exchange_of board image m o here)
      off-it t =
          let r = on-else board image m file kind o e k b t in
          ends _ r.0 k
          (served-holds board few image m before file kind e.loader serves o e.flash k h b)
          (fails-ends kind r.0 k r.1 (total board m kind) b) r.2

      on-it : event_from board (reply board o here) ≡ Event.Ack
          → At (suc (k + 1)) (exchange_of board image m o here)
      on-it t =
          let c : (o ≡ Loss.Whole) × (x : Effect)
          × (loader_takes board e.loader (packet_at board image m kind k) e.flash ≡ given x)
          = acked board o e.loader _ e.flash serves.condition-is t in
          let g = acked-holds board few image m before file kind e.loader serves o e.flash k h bytes b
          c.1 c.2 in
          let x = served board image m kind o e k in
          decide (ltb (k + 1) (total board m kind))
          (λ d. let n = ltb-true (k + 1) (total board m kind) d in
          stands x (k + 1) (omega arith) n
          (served-loader board few image m before file kind e.loader serves o e.flash k h
          (omega (arith, r-most kind)) (out-after board m file.long kind k b) ∙ s) g
          (on-ack board image m file kind o e k b n t))
          (λ d. let n : k + 1 ≡ total board m kind = omega
          (arith, ltb-false (k + 1) (total board m kind) d) in
          ends x (asked kind) (total board m kind)
          (subst (λ (j : ℕ). Holds board image m before j x.flash) n g)
          (ends_asked (asked kind) (asked kind) (total board m kind) (total board m kind) refl
          ∙ eq-eqb (total board m kind) (total board m kind) refl)
          (on-last board image m file kind o e k b n t))

  -- after any number of exchanges
  pub stage : (losses : ℕ → Loss) (n : ℕ) → At n (load_at board image m kind l losses before n)
  unfolding moment_at
  stage losses zero = starts refl refl
  stage losses (suc n) = go (load_at board image m kind l losses before n) (stage losses n)
    where
      go : (x : Moment) → At n x
          → At (suc n) (pick (ended x.session.phase) x (exchange_of board image m (losses n) x))
      go x (starts z q) = rw (q, z) (first-stage (losses 0))
      go x (stands e k z b s h q) = rw (q, z) (next-stage (losses (k + 1)) e k b s h)
      go x (ends e u k h v q) = rw q (ends e u k h v refl)
