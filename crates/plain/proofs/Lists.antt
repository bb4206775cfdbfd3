-- What the three walks tell of the list: where each kind of packet ends, and the step that is due.
use Rattle.std.specs.Prelude.{leb}
use Rattle.std.proofs.Common.{ℕ, ◌+◌, ◌-◌, ◌≤◌, ◌<◌, Bool, true, false, List, ◌≡◌, sym, ap, ◌∙◌, zero-add, arith, lt-ltb, le-ltb}
use Rattle.basis.specs.Laws.Choice.{decide, true-false}
use Rattle.basis.specs.Units.{start_of}
use Rattle.order.specs.Plan.{before_verify, before_r}
use Rattle.order.specs.Steps.{erase_at, write_at, verify_at, step_at}
use Rattle.order.specs.declared.step.Step.{Step}
use Rattle.order.specs.Laws.Marks.{mark-unnamed, mark-past, mark-by}
use Rattle.order.specs.Marks.{marked}
use Rattle.plain.specs.Laws.List.{walk-number, walk-most, walk-place, walk_none, walk-again, count-again}
use Rattle.runs.specs.Laws.Pages.{touched-some}
use Rattle.runs.specs.Laws.Pieces.{starts-fail}
use Rattle.runs.specs.Laws.Runs.{count-zero, count-le, count-skip, rank_below}
use Rattle.basis.specs.Laws.Boards.{pages-few, pages-some}
use Rattle.plain.specs.List.{walk_at}
use Rattle.plain.specs.declared.list.Walk.{Walk}
use Rattle.runs.specs.Map.{named}
use Rattle.runs.specs.Pages.{touched}
use Rattle.runs.specs.Pieces.{piece_most, run_count, named_count}
use Rattle.runs.specs.Runs.{count, starts}

module _ (board : ℕ) (m : List ℕ) (due : ℕ) where
  -- ---- where the walks end

  pub erases-end : 0 < board → {e : Walk} → e ≡ walk_at (touched m) board 0 due board
      → e.number ≡ run_count board m
  erases-end some h = omega (arith, walk-number (touched m) board 0 due some board h)

  pub writes-end : {k : ℕ} {w : Walk} → k ≡ run_count board m
      → w ≡ walk_at (named m) piece_most k due (start_of board) → w.number ≡ before_verify board m
  writes-end {k} b h =
      omega (arith, walk-number (named m) piece_most k due (omega arith) (start_of board) h)

  pub verifies-end : {k : ℕ} {v : Walk} → k ≡ before_verify board m
      → v ≡ walk_at (named m) piece_most k due (start_of board) → v.number ≡ before_r board m
  verifies-end {k} b h =
      omega (arith, walk-number (named m) piece_most k due (omega arith) (start_of board) h)

  -- the walk up to a named byte numbers the V of its piece
  pub marked-at : {k : ℕ} {v : Walk} (a : ℕ) → k ≡ before_verify board m
      → v ≡ walk_at (named m) piece_most k due (a + 1) → named m a ≡ true
      → leb v.number due ≡ marked board m due a
  marked-at {k} {v} a b h t =
      let n = walk-number _ _ _ _ (omega arith) _ h in mark-by _ _ _ _ t {n = v.number} (omega (arith, n, b))

  -- ---- the step that is due

  pub at-erase : 0 < board → {e : Walk} → e ≡ walk_at (touched m) board 0 due board → due < e.number
      → erase_at e.place ≡ step_at board m due
  unfolding step_at
  at-erase some h l =
      let a : due < run_count board m = omega (arith, erases-end some h) in
      rw (lt-ltb due (run_count board m) a)
      (ap erase_at (walk-place (touched m) board 0 due some board h due (omega arith)))

  pub at-write : {k : ℕ} {w : Walk} → k ≡ run_count board m
      → w ≡ walk_at (named m) piece_most k due (start_of board) → k ≤ due → due < w.number
      → write_at w.place ≡ step_at board m due
  unfolding step_at
  at-write {k} b h g l =
      let a : run_count board m ≤ due = omega arith in
      let d : due < before_verify board m = omega (arith, writes-end b h) in
      rw (le-ltb due (run_count board m) a, lt-ltb due (before_verify board m) d)
      (ap write_at
      (walk-place (named m) piece_most k due (omega arith) (start_of board) h (due - run_count board m)
      (omega arith)))

  pub at-verify : {k : ℕ} {v : Walk} → k ≡ before_verify board m
      → v ≡ walk_at (named m) piece_most k due (start_of board) → k ≤ due → due < v.number
      → verify_at v.place ≡ step_at board m due
  unfolding step_at
  at-verify {k} b h g l =
      let a : run_count board m ≤ due = omega arith in
      let c : before_verify board m ≤ due = omega arith in
      let d : due < before_r board m = omega (arith, verifies-end b h) in
      rw (
        le-ltb due (run_count board m) a,
        le-ltb due (before_verify board m) c,
        lt-ltb due (before_r board m) d,
      )
      (ap verify_at
      (walk-place (named m) piece_most k due (omega arith) (start_of board) h (due - before_verify board m)
      (omega arith)))

  pub at-run : {n : ℕ} → n ≡ before_r board m → n ≤ due → Step.Run ≡ step_at board m due
  unfolding step_at
  at-run b g =
      let a : run_count board m ≤ due = omega arith in
      let c : before_verify board m ≤ due = omega arith in
      let d : before_r board m ≤ due = omega arith in
      rw (
        le-ltb due (run_count board m) a,
        le-ltb due (before_verify board m) c,
        le-ltb due (before_r board m) d,
      )

-- a file that names no byte has no packet but R
module _ (board : ℕ) (m : List ℕ) (none : named_count board m ≡ 0) where
  unnamed : (a : ℕ) → a < start_of board → named m a ≡ false
  unnamed a l =
      decide (named m a) (λ t. absurd (omega (arith, rank_below (named m) (start_of board) a l t))) (λ t. t)

  untouched : (q : ℕ) → q < board → touched m q ≡ false
  untouched q l =
      decide (touched m q)
      (λ t. let s = touched-some m q t in
      absurd (true-false (sym s.1 ∙ unnamed s.0 (omega (arith, s.3)))))
      (λ t. t)

  none-starts : (p : ℕ → Bool) (cap n : ℕ) → ((i : ℕ) → i < n → p i ≡ false) → count (starts p cap) n ≡ 0
  none-starts p cap n h =
      rw zero-add at (count-skip (starts p cap) 0 n (λ i g l. starts-fail p cap i (h i (omega arith))))
      ∙ count-zero (starts p cap)

  unlisted : before_r board m ≡ 0
  unlisted =
      omega (
        arith,
        none-starts (named m) piece_most (start_of board) unnamed,
        none-starts (touched m) board board untouched,
      )

pub load-none : (board : ℕ) (m : List ℕ) {n : ℕ} → n ≡ named_count board m → n ≡ 0 → 0 ≡ before_r board m
load-none board m e z = sym (unlisted board m (sym e ∙ z))

pub ruleset walks = (walk_none, walk-again, walk-most, pages-few)

pub ruleset counts = (count-zero, count-again, count-le, pages-few)

pub ruleset marks = (mark-unnamed, mark-past, marked-at, writes-end, erases-end, pages-few, pages-some)

pub ruleset loads = (load-none)

pub ruleset lists = (
  at-erase,
  at-write,
  at-verify,
  at-run,
  erases-end,
  writes-end,
  verifies-end,
  pages-few,
  pages-some,
)
