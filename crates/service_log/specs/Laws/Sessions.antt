-- A session is written as its outcome and counts are, what is written reads back, a record that reads as
-- valid or held says that all is acknowledged, and the log of a session tells its file's own counts.
use Rattle.std.specs.Prelude.{ℕ, ◌+◌, ◌*◌, ◌^◌, ◌≤◌, ◌<◌, true, false, not, ◌≡◌, eqb, ltb, Option, Some, None}
use Rattle.std.proofs.Math.Path.{refl, sym, ap}
use Rattle.std.proofs.Common.{◌∙◌, arith, eq-eqb, ne_eqb, eqb-true, ltb-true, lt-ltb, le-ltb, leb-true, le-leb, List, [], ◌∷◌, ◌++◌, append_assoc, append-nil}
use Rattle.std.proofs.lemmas.Bool.{not-false}
use Rattle.std.proofs.Math.ListN.{length, length-append}
use Rattle.basis.specs.Board.{pages_of, board_of, version_of, count_bytes, log_length, board_logged}
use Rattle.basis.specs.Choice.{pick, both}
use Rattle.basis.specs.Laws.Boards.{board-by, board-back, logged-back, counts-fit, counts-hold}
use Rattle.basis.specs.Laws.Choice.{decide, both_true, both-second, either-none, true-false}
use Rattle.basis.specs.Laws.Refusals.{passed, done, given-one, apart}
use Rattle.basis.specs.Lists.{pair_at}
use Rattle.basis.specs.Refusals.{refused, given, on_board}
use Rattle.basis.specs.Units.{start_of, map_bytes}
use Rattle.basis.specs.declared.board.Board.{Board}
use Rattle.basis.specs.declared.kind.RunKind.{RunKind}
use Rattle.events.specs.Endings.{paper_outcome, asked, ending_for, failing}
use Rattle.events.specs.Laws.Endings.{fails-suits, asked-good, asked-suits}
use Rattle.events.specs.declared.ending.Outcome.{Outcome}
use Rattle.events.specs.declared.event.Event.{Event}
use Rattle.order.specs.Laws.Kinds.{r-one}
use Rattle.order.specs.Laws.Totals.{total-most, packets-least, named-fits}
use Rattle.order.specs.Plan.{sends_r, total}
use Rattle.runs.specs.Pieces.{named_count}
use Rattle.session.specs.Laws.Series.{came}
use Rattle.session.specs.Phases.{ended}
use Rattle.session.specs.Session.{Session, session_with, Came, waits, stands, fails, ends, at_greeting, series}
use Rattle.session.specs.declared.phase.Phase.{Phase}
use Rattle.service_log.specs.Big.{big_of, big_at, fits_in}
use Rattle.service_log.specs.Laws.Big.{big-length, big-back}
use Rattle.service_log.specs.Laws.FalseRecords.{false-unknown, false-good, true-greeted, false-ungreeted}
use Rattle.service_log.specs.Laws.Log.{record-length, counts-wide, counts-false, counts-given, write-unfinished, write-counts, read-by, read-given}
use Rattle.service_log.specs.Log.{record_size, good, known, few, is_false_of, outcome_of, outcome_on, logged_outcome_of, counts_fit, record_bytes, counts_on, counts_by, write_on, write_of, record_at, read_on, read_by, read_of}
use Rattle.service_log.specs.declared.read.Record.{Record}

-- ---- a session is written as its outcome and counts are

-- an outcome that no record has is refused, whatever the counts
counts-unknown : (b : Board) (room o k t n : ℕ) → known o ≡ false → counts_on b room o k t n ≡ refused 45
counts-unknown b room o k t n e =
    decide (counts_fit (count_bytes b) k t n)
    (λ f. counts-false b room o k t n f (sym (false-unknown (pages_of b) o k t n e)))
    (counts-wide b room o k t n)

-- and an unfinished session has none that a record has
unfinished-unknown : (kind : RunKind) (p : Phase) → ended p ≡ false → known (outcome_of kind p) ≡ false
unfinished-unknown kind Phase.Greeting e = refl
unfinished-unknown kind (Phase.Out s) e = refl
unfinished-unknown kind (Phase.Ended o) e = absurd (true-false e)

-- by its outcome, whatever its phase
write-by : (b : Board) (room : ℕ) (s : Session)
    → write_on b room s ≡ counts_on b room (outcome_of s.kind s.phase) s.acknowledged s.total s.named
write-by b room s =
    decide (ended s.phase) (write-counts b room s)
    (λ e. write-unfinished b room s e
    ∙ sym (counts-unknown b room _ _ _ _ (unfinished-unknown s.kind s.phase e)))

-- told as an outcome, or as none
pub write-none : (b : Board) (room : ℕ) (s : Session) → 45 ≡ outcome_of s.kind s.phase
    → write_on b room s ≡ refused 45
write-none b room s e =
    write-by b room s ∙ counts-unknown b room _ _ _ _ (rw (← e) refl)

pub write-some : (b : Board) (room : ℕ) (s : Session) (n : ℕ) → n ≡ outcome_of s.kind s.phase
    → write_on b room s ≡ counts_on b room n s.acknowledged s.total s.named
write-some b room s n e = rw e (write-by b room s)

-- and whatever its board
pub write-alike : (room : ℕ) (s : Session)
    → write_of room s
    ≡ counts_by s.board room (logged_outcome_of s) s.acknowledged s.total s.named
write-alike room s = go (board_of s.board)
  where
    go : (x : Option Board)
        → on_board x (λ (b : Board). write_on b room s)
        ≡ on_board x (λ (b : Board). counts_on b room (outcome_on x s.kind s.phase) s.acknowledged
        s.total s.named)
    go None = refl
    go (Some b) = write-by b room s

-- ---- what is written reads back

abbrev pub said : Board → ℕ → ℕ → ℕ → ℕ → Record
said b o k t n = record { version = version_of b; outcome = o; acknowledged = k; total = t; bytes = n }

module _ (b : Board) (o k t n : ℕ) where
  -- the four bytes before the counts, and how many bytes each count has
  abbrev front : List ℕ
  front = big_of 2 (log_length b) ++ (version_of b ∷ o ∷ [])

  abbrev w : ℕ
  w = count_bytes b

  -- its length field tells its board
  record-board : board_logged (pair_at (record_bytes b o k t n) 0) ≡ Some b
  unfolding record_bytes big_of
  record-board =
      let fit = counts-fit b in
      let e : pair_at (record_bytes b o k t n) 0 ≡ log_length b = omega (arith, fit.0, fit.1) in
      ap board_logged e ∙ logged-back b

  -- each count stands in its place
  acknowledged-back : k < 256 ^ w → k ≡ big_at w (record_bytes b o k t n) 4
  unfolding record_bytes big_of
  acknowledged-back l =
      sym (ap (λ (s : List ℕ). big_at w s 4) (append_assoc (front ++ big_of w k) (big_of w t) (big_of w n))
      ∙ big-back w k front (big_of w t ++ big_of w n) 4 refl l)

  total-back : t < 256 ^ w → t ≡ big_at w (record_bytes b o k t n) (4 + w)
  unfolding record_bytes big_of
  total-back l =
      let p : length (front ++ big_of w k) ≡ 4 + w = simp length-append (omega (arith, big-length w k)) in
      sym (big-back w t (front ++ big_of w k) (big_of w n) (4 + w) p l)

  bytes_back : n < 256 ^ w → n ≡ big_at w (record_bytes b o k t n) (4 + 2 * w)
  unfolding record_bytes big_of
  bytes_back l =
      let p : length (front ++ big_of w k ++ big_of w t) ≡ 4 + 2 * w =
      simp length-append (omega (arith, big-length w k, big-length w t)) in
      sym (ap (λ (s : List ℕ). big_at w s (4 + 2 * w)) (sym (append-nil (record_bytes b o k t n)))
      ∙ big-back w n (front ++ big_of w k ++ big_of w t) [] (4 + 2 * w) p l)

  pub read_back : counts_fit w k t n ≡ true → is_false_of (pages_of b) o k t n ≡ false
      → read_of (record_bytes b o k t n) ≡ given (said b o k t n)
  unfolding record_bytes big_of
  read_back f e =
      let fit = counts-fit b in
      let p = both_true (fits_in w k) (both (fits_in w t) (fits_in w n)) f in
      let q = both_true (fits_in w t) (fits_in w n) p.1 in
      let long = record-length b o k t n in
      read-by (record_bytes b o k t n) (omega (arith, fit.0))
      ∙ ap (λ (x : Option Board). read_by x (record_bytes b o k t n)) record-board
      ∙ read-given b (record_bytes b o k t n) long refl refl
      (acknowledged-back (ltb-true k (256 ^ w) p.0)) (total-back (ltb-true t (256 ^ w) q.0))
      (bytes_back (ltb-true n (256 ^ w) q.1)) e

-- on a board
on-reads : (b : Board) (room o k t n : ℕ) (w : List ℕ) → counts_on b room o k t n ≡ given w
    → read_of w ≡ given (said b o k t n)
unfolding counts_on
on-reads b room o k t n w e =
    let p₁ = passed _ _ _ _ e in
    let p₂ = passed _ _ _ _ p₁.1 in
    let p₃ = passed _ _ _ _ p₂.1 in
    let g = given-one (sym (done _) ∙ p₃.1) in
    ap read_of (sym g) ∙ read_back b o k t n (not-false _ p₁.0) p₂.0

-- counts that are written have a board, and read back with its version and their own outcome
pub counts-read : (board room o k t n : ℕ) (w : List ℕ) → counts_by board room o k t n ≡ given w
    → (b : Board) × (board ≡ pages_of b) × (read_of w ≡ given (said b o k t n))
counts-read board room o k t n w e = go (board_of board) refl e
  where
    go : (x : Option Board) → board_of board ≡ x
        → on_board x (λ (b : Board). counts_on b room o k t n) ≡ given w
        → (b : Board) × (board ≡ pages_of b) × (read_of w ≡ given (said b o k t n))
    go None q e = absurd (apart e)
    go (Some b) q e = (b, sym (board-by pages_of board b q), on-reads b room o k t n w e)

-- so a session that is written reads back with its board's version, its outcome and its counts
pub written-reads : (room : ℕ) (s : Session) (w : List ℕ) → write_of room s ≡ given w
    → (b : Board) × (s.board ≡ pages_of b)
    × (read_of w ≡ given (said b (logged_outcome_of s) s.acknowledged s.total s.named))
written-reads room s w e =
    counts-read s.board room (logged_outcome_of s) s.acknowledged s.total s.named w
    (sym (write-alike room s) ∙ e)

-- ---- a record that reads as valid or held says that all is acknowledged, and no other does

-- what the tests before the last say of a record that is not false
whole : (board o k t n : ℕ) → is_false_of board o k t n ≡ false
    → pick (good o) (not (eqb k t)) (eqb k t) ≡ false
unfolding is_false_of
whole board o k t n e =
    let z = either-none (not (known o)) _ e in
    let a = either-none (few o t) _ z.1 in
    let b = either-none (eqb n 0) _ a.1 in
    let c = either-none (ltb (start_of board) n) _ b.1 in
    let d = either-none (ltb t k) _ c.1 in
    decide (good o) (λ g. rw g (rw g at d.1))
    (λ g. rw g (either-none (eqb k t) _ (rw g at d.1)).0)

-- what a reader was given is not false, on the board that its length tells
read-true : (x : Option Board) (s : List ℕ) (r : Record) → read_by x s ≡ given r
    → (b : Board) × (is_false_of (pages_of b) r.outcome r.acknowledged r.total r.bytes ≡ false)
unfolding read_on
read-true None s r e = absurd (apart e)
read-true (Some b) s r e =
    let p₁ = passed _ _ _ _ e in
    let p₂ = passed _ _ _ _ p₁.1 in
    let p₃ = passed _ _ _ _ p₂.1 in
    let g : record_at (count_bytes b) s ≡ r = given-one (sym (done _) ∙ p₃.1) in (
      b,
      sym (ap (λ (x : Record). is_false_of (pages_of b) x.outcome x.acknowledged x.total x.bytes) g)
          ∙ p₃.0,
    )

module _ (s : List ℕ) (r : Record) (e : read_of s ≡ given r) where
  decided : pick (good r.outcome) (not (eqb r.acknowledged r.total))
      (eqb r.acknowledged r.total) ≡ false
  unfolding read_of
  decided =
      let t = read-true (board_logged (pair_at s 0)) s r (sym (done _) ∙ (passed _ _ _ _ e).1) in
      whole (pages_of t.0) r.outcome r.acknowledged r.total r.bytes t.1

  pub read-good : r.outcome ≤ 1 → r.acknowledged ≡ r.total
  read-good l = eqb-true _ _ (not-false _ (rw (le-leb r.outcome 1 l) at decided))

  pub read_whole : r.acknowledged ≡ r.total → r.outcome ≤ 1
  read_whole q =
      decide (good r.outcome) (λ g. leb-true r.outcome 1 g)
      (λ g. absurd (true-false (sym (eq-eqb r.acknowledged r.total q) ∙ rw g at decided)))

-- ---- a session that came from a start by events over its file

module _ (board : ℕ) (m : List ℕ) (long : length m ≡ map_bytes board) (some : 0 < named_count board m)
    (kind : RunKind) where
  -- no session has too small a total
  total-least : 3 ≤ total board m kind
  total-least = omega (arith, packets-least board m long some)

  enough : (o : ℕ) → 1 < o → few o (total board m kind) ≡ false
  enough o l =
      rw (le-ltb (total board m kind) 3 total-least, ne_eqb o 0 (λ e. omega arith))

  asked-enough : few (paper_outcome (asked kind)) (total board m kind) ≡ false
  asked-enough = rw (le-ltb (total board m kind) 3 total-least) (go kind)
    where
      -- with R there are four at least
      four : (kind : RunKind) → sends_r kind ≡ true → eqb (total board m kind) 3 ≡ false
      four kind t =
          ne_eqb (total board m kind) 3
          (λ e. omega (arith, packets-least board m long some, r-one kind t))

      go : (kind : RunKind) → both (eqb (paper_outcome (asked kind)) 0) (eqb (total board m kind) 3) ≡ false
      go RunKind.Reset = four RunKind.Reset refl
      go RunKind.Jump = four RunKind.Jump refl
      go RunKind.Hold = refl

  failed : (o k : ℕ) → k < total board m kind → known o ≡ true → 1 < o → (o ≡ 42 → ⊥)
      → is_false_of board o k (total board m kind) (named_count board m) ≡ false
  failed o k l q z w =
      sym (true-greeted board o k (total board m kind) (named_count board m) q (enough o z)
      (λ e. omega arith) (named-fits board m) (omega arith) z (λ e. omega arith) w)

  failed-true : (o : Outcome) (k : ℕ) → k < total board m kind → failing o k ≡ true
      → is_false_of board (paper_outcome o) k (total board m kind) (named_count board m) ≡ false
  failed-true Outcome.Valid k l f = absurd (true-false (sym f))
  failed-true Outcome.Held k l f = absurd (true-false (sym f))
  failed-true Outcome.Silence k l f = failed 40 k l refl (omega arith) (λ e. omega arith)
  failed-true Outcome.Bel k l f = failed 41 k l refl (omega arith) (λ e. omega arith)
  failed-true Outcome.NoGreeting k l f =
      let z : k ≡ 0 = eqb-true k 0 f in
      sym (false-ungreeted board 42 k (total board m kind) (named_count board m) refl
      (enough 42 (omega arith)) (λ e. omega arith) (named-fits board m) (omega arith) (omega arith)
      (λ e. omega arith) refl) ∙ le-ltb 0 k (omega arith)
  failed-true Outcome.Other k l f = failed 43 k l refl (omega arith) (λ e. omega arith)

  asked-known : known (paper_outcome (asked kind)) ≡ true
  asked-known = rw (le-leb (paper_outcome (asked kind)) 1 (asked-good kind))

  asked-true : is_false_of board (paper_outcome (asked kind)) (total board m kind) (total board m kind)
      (named_count board m) ≡ false
  asked-true =
      sym (false-good board (paper_outcome (asked kind)) (total board m kind) (total board m kind)
      (named_count board m) asked-known asked-enough (λ e. omega arith) (named-fits board m) (omega arith)
      (asked-good kind))
      ∙ ap not (eq-eqb (total board m kind) (total board m kind) refl)

-- once ended it is never refused 45: its total is e + 2w + 1, or e + 2w to hold, its bytes the named count
module _ (b : Board) (m : List ℕ) (long : length m ≡ map_bytes (pages_of b))
    (some : 0 < named_count (pages_of b) m) (kind : RunKind) (room : ℕ) (l : record_size b ≤ room) where
  abbrev board : ℕ
  board = pages_of b

  -- a file's counts fit its board's count bytes
  file-fits : (k : ℕ) → k ≤ total board m kind
      → counts_fit (count_bytes b) k (total board m kind) (named_count board m) ≡ true
  file-fits k l =
      let most = counts-hold b in
      let t = total-most board m kind in
      let n = named-fits board m in
      both-second _ _ (lt-ltb k _ (omega arith))
      ∙ both-second _ _ (lt-ltb (total board m kind) _ (omega arith))
      ∙ lt-ltb (named_count board m) _ (omega arith)

  ended-logged : (o : Outcome) (k : ℕ) → k ≤ total board m kind → ending_for kind o ≡ true
      → is_false_of board (paper_outcome o) k (total board m kind) (named_count board m) ≡ false
      → (let s = session_with board m kind (Phase.Ended o) k in
      write_of room s
      ≡ given (record_bytes b (logged_outcome_of s) k (total board m kind) (named_count board m)))
  ended-logged o k q t e =
      let s = session_with board m kind (Phase.Ended o) k in
      write-alike room s
      ∙ rw (board-back b, t)
      (counts-given b room (paper_outcome o) k (total board m kind) (named_count board m)
      (file-fits k q) e l)

  pub came-logged : (s : Session) → Came board m kind s → ended s.phase ≡ true
      → write_of room s
      ≡ given (record_bytes b (logged_outcome_of s) s.acknowledged (total board m kind) (named_count board m))
  came-logged s (waits e) h = absurd (true-false (sym h ∙ ap (λ (x : Session). ended x.phase) e))
  came-logged s (stands k b e) h =
      absurd (true-false (sym h ∙ ap (λ (x : Session). ended x.phase) e))
  came-logged s (fails o k q f e) h =
      rw e (ended-logged o k (omega arith) (fails-suits kind o k f)
      (failed-true board m long some kind o k q f))
  came-logged s (ends e) h =
      rw e (ended-logged (asked kind) (total board m kind) (omega arith) (asked-suits kind)
      (asked-true board m long some kind))

  -- so it is of every series of events
  pub series-logged : (es : List Event)
      → (let s = series board m (at_greeting board m kind) es in ended s.phase ≡ true
      → write_of room s
      ≡ given (record_bytes b (logged_outcome_of s) s.acknowledged (total board m kind)
      (named_count board m)))
  series-logged es = came-logged _ (came board m long some kind es)
