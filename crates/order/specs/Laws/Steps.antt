-- Laws of steps: those that stand in a file are the ones after its acknowledgements; each leads to the next.
use Rattle.std.specs.Prelude.{ℕ, ◌+◌, ◌-◌, ◌≤◌, ◌<◌, Bool, true, false, List, ◌≡◌, eqb, ltb, length, Option, Some, None}
use Rattle.std.proofs.Math.Path.{refl, sym, ap}
use Rattle.std.proofs.Common.{subst, ◌∙◌, arith, eq-eqb, eqb-true, ltb-true, ltb-false, lt-ltb, le-ltb}
use Rattle.basis.specs.Laws.Choice.{decide, both_true, true-false}
use Rattle.basis.specs.Units.{start_of, map_bytes}
use Rattle.basis.specs.declared.kind.RunKind.{RunKind}
use Rattle.runs.specs.Laws.Files.{bytes_past, pages-past}
use Rattle.runs.specs.Laws.Pieces.{starts-below, first-starts, first-rank, follow-starts, follow-rank}
use Rattle.runs.specs.Laws.Runs.{count-mono, rank_below, select-at, select-kth}
use Rattle.runs.specs.Map.{named}
use Rattle.runs.specs.Pages.{touched}
use Rattle.runs.specs.Pieces.{piece_most, piece_starts, run_starts, run_count, piece_count, named_count}
use Rattle.runs.specs.Runs.{count, starts, next, select, follow}
use Rattle.order.specs.Laws.Kinds.{r-one, r-none, r-sent}
use Rattle.order.specs.Laws.Starts.{some-page, run-below, piece-below, first-piece-below, first-run-below}
use Rattle.order.specs.Steps.{erase_at, write_at, verify_at, step_at, following_at, lowest_piece, next_run, next_piece, first_of, behind_last, follow_of, at_start, ranked, stands_at}
use Rattle.order.specs.Plan.{sends_r, total, before_r, before_verify}
use Rattle.order.specs.declared.step.Step.{Step}

-- ---- ranks

module _ (q : ℕ → Bool) (base a k : ℕ) where
  pub ranked-is : ranked q base a k ≡ true → (q a ≡ true) × (base + count q a ≡ k)
  ranked-is h = let b = both_true (q a) (eqb (base + count q a) k) h in (b.0, eqb-true _ _ b.1)

  pub ranked-by : q a ≡ true → base + count q a ≡ k → ranked q base a k ≡ true
  ranked-by t e = rw t (eq-eqb _ _ e)

-- the first piece has rank 0, the one after a piece the next, and behind the last piece all are counted
module _ (p : ℕ → Bool) (cap n : ℕ) (past : (a : ℕ) → n ≤ a → p a ≡ false) (base : ℕ) where
  first-ranked : next p 0 n < n → ranked (starts p cap) base (next p 0 n) base ≡ true
  first-ranked l =
      ranked-by (starts p cap) base _ base (first-starts p cap n past l)
      (omega (arith, first-rank p cap n past))

  module _ (z : 0 < cap) (s k : ℕ) (h : ranked (starts p cap) base s k ≡ true) where
    follow-ranked : follow p cap n s < n → ranked (starts p cap) base (follow p cap n s) (k + 1) ≡ true
    follow-ranked l =
        let t = ranked-is (starts p cap) base s k h in
        ranked-by (starts p cap) base _ (k + 1) (follow-starts p cap n past z s t.0 l)
        (omega (arith, follow-rank p cap n past z s t.0))

    follow-last : n ≤ follow p cap n s → base + count (starts p cap) n ≡ k + 1
    follow-last l =
        let t = ranked-is (starts p cap) base s k h in
        let b = rank_below (starts p cap) n s (starts-below p cap n past s t.0) t.0 in
        omega (arith, follow-rank p cap n past z s t.0, count-mono (starts p cap) (follow p cap n s) n l)

-- ---- steps that stand in the file

module _ (board : ℕ) (m : List ℕ) (long : length m ≡ map_bytes board) where
  pub run-rank : (q k : ℕ) → ranked (run_starts board m) 0 q k ≡ true → k < run_count board m
  run-rank q k h =
      let t = ranked-is (run_starts board m) 0 q k h in
      omega (arith, rank_below (run_starts board m) board q (run-below board m long q t.0) t.0)

  pub piece-rank : (base a k : ℕ) → ranked (piece_starts m) base a k ≡ true → k < base + piece_count board m
  piece-rank base a k h =
      let t = ranked-is (piece_starts m) base a k h in
      omega (arith, rank_below (piece_starts m) (start_of board) a (piece-below board m long a t.0) t.0)

-- R is out exactly after all else is acknowledged, where it is sent
pub stands-r : (board : ℕ) (m : List ℕ) (kind : RunKind) (k : ℕ) → stands_at board m kind Step.Run k ≡ true
    → (sends_r kind ≡ true) × (before_r board m ≡ k)
unfolding stands_at
stands-r board m kind k h =
    let b = both_true (sends_r kind) (eqb (before_r board m) k) h in (b.0, eqb-true _ _ b.1)

module _ (board : ℕ) (m : List ℕ) (long : length m ≡ map_bytes board) (kind : RunKind) where
  -- fewer packets are acknowledged than there are
  pub stands-below : (s : Step) (k : ℕ) → stands_at board m kind s k ≡ true → k < total board m kind
  unfolding stands_at
  stands-below (Step.Erase p) k h = omega (arith, run-rank board m long p.0 k h)
  stands-below (Step.Write a) k h = omega (arith, piece-rank board m long (run_count board m) a.0 k h)
  stands-below (Step.Verify a) k h = omega (arith, piece-rank board m long (before_verify board m) a.0 k h)
  stands-below Step.Run k h =
      let r = stands-r board m kind k h in omega (arith, r.1, r-one kind r.0)

  -- the cursor stands at a start
  pub stands-start : (s : Step) (k : ℕ) → stands_at board m kind s k ≡ true → at_start board m s ≡ true
  unfolding stands_at
  stands-start (Step.Erase p) k h = (ranked-is (run_starts board m) 0 p.0 k h).0
  stands-start (Step.Write a) k h = (ranked-is (piece_starts m) (run_count board m) a.0 k h).0
  stands-start (Step.Verify a) k h = (ranked-is (piece_starts m) (before_verify board m) a.0 k h).0
  stands-start Step.Run k h = refl

  -- a step that stands after k acknowledgements is the one after k
  pub stands-at : (s : Step) (k : ℕ) → stands_at board m kind s k ≡ true → s ≡ step_at board m k
  unfolding step_at stands_at
  stands-at (Step.Erase p) k h =
      let t = ranked-is (run_starts board m) 0 p.0 k h in
      let c : count (run_starts board m) p.0 ≡ k = omega arith in
      rw (lt-ltb _ _ (run-rank board m long p.0 k h))
      (ap erase_at (sym
      (select-at (run_starts board m) board p.0 (run-below board m long p.0 t.0) t.0)
      ∙ ap (λ (x : ℕ). select (run_starts board m) x board) c))
  stands-at (Step.Write a) k h =
      let t = ranked-is (piece_starts m) (run_count board m) a.0 k h in
      let c : count (piece_starts m) a.0 ≡ k - run_count board m = omega arith in
      let d : run_count board m ≤ k = omega arith in
      rw (le-ltb _ _ d, lt-ltb _ _ (piece-rank board m long (run_count board m) a.0 k h))
      (ap write_at (sym
      (select-at (piece_starts m) (start_of board) a.0 (piece-below board m long a.0 t.0) t.0)
      ∙ ap (λ (x : ℕ). select (piece_starts m) x (start_of board)) c))
  stands-at (Step.Verify a) k h =
      let t = ranked-is (piece_starts m) (before_verify board m) a.0 k h in
      let c : count (piece_starts m) a.0 ≡ k - before_verify board m = omega arith in
      let b : k < before_r board m = omega
      (arith, piece-rank board m long (before_verify board m) a.0 k h) in
      let d : run_count board m ≤ k = omega arith in
      let f : before_verify board m ≤ k = omega arith in
      rw (le-ltb _ _ d, le-ltb _ _ f, lt-ltb _ _ b)
      (ap verify_at
      (sym (select-at (piece_starts m) (start_of board) a.0 (piece-below board m long a.0 t.0) t.0)
      ∙ ap (λ (x : ℕ). select (piece_starts m) x (start_of board)) c))
  stands-at Step.Run k h =
      let e : before_r board m ≡ k = (stands-r board m kind k h).1 in
      let d : run_count board m ≤ k = omega arith in
      let f : before_verify board m ≤ k = omega arith in
      let b : before_r board m ≤ k = omega arith in
      rw (le-ltb _ _ d, le-ltb _ _ f, le-ltb _ _ b)

-- and the step after k stands after k
pub at-stands : (board : ℕ) (m : List ℕ) (kind : RunKind) (k : ℕ) → k < total board m kind
    → stands_at board m kind (step_at board m k) k ≡ true
unfolding step_at stands_at
at-stands board m kind k l =
    decide (ltb k (run_count board m))
    (λ d. let s = select-kth (run_starts board m) board k (ltb-true _ _ d) in
    rw d (ranked-by (run_starts board m) 0 _ k s.passes (omega (arith, s.rank))))
    (λ d. decide (ltb k (before_verify board m))
    (λ f. let g : run_count board m ≤ k = ltb-false _ _ d in
    let s = select-kth (piece_starts m) (start_of board) (k - run_count board m)
    (omega (arith, ltb-true k (before_verify board m) f)) in
    rw (d, f) (ranked-by (piece_starts m) (run_count board m) _ k s.passes (omega (arith, s.rank))))
    (λ f. decide (ltb k (before_r board m))
    (λ b. let g : before_verify board m ≤ k = ltb-false _ _ f in
    let s = select-kth (piece_starts m) (start_of board) (k - before_verify board m)
    (omega (arith, ltb-true k (before_r board m) b)) in
    rw (d, f, b) (ranked-by (piece_starts m) (before_verify board m) _ k s.passes (omega (arith, s.rank))))
    (λ b. let g : before_r board m ≤ k = ltb-false _ _ b in
    let t = r-sent kind (omega arith) in
    rw (d, f, b, t) (eq-eqb (before_r board m) k (omega (arith, r-one kind t))))))

-- ---- what is left after k acknowledgements

step_or : Step → Option Step → Step
step_or s (Some t) = t
step_or s None = s

is_step : Option Step → Bool
is_step (Some s) = true
is_step None = false

module _ (board : ℕ) (m : List ℕ) (kind : RunKind) (k : ℕ) where
  -- the step then, while not all are acknowledged
  pub left_step : (s : Step) → following_at board m kind k ≡ Some s
      → (k < total board m kind) × (s ≡ step_at board m k)
  unfolding step_or is_step
  left_step s e =
      decide (ltb k (total board m kind))
      (λ d. (ltb-true _ _ d, sym (ap (step_or s) (rw d at e))))
      (λ d. absurd (true-false (sym (ap is_step (rw d at e)))))

  -- and else nothing
  pub left_end : following_at board m kind k ≡ None → total board m kind ≤ k
  unfolding is_step
  left_end e =
      decide (ltb k (total board m kind))
      (λ d. absurd (true-false (ap is_step (rw d at e)))) (λ d. ltb-false _ _ d)

-- ---- from step to step

-- what is left after k acknowledgements: a step that stands there, or nothing where all are acknowledged
abbrev left_at : ℕ → List ℕ → RunKind → Option Step → ℕ → Bool
left_at board m kind (Some s) k = stands_at board m kind s k
left_at board m kind None k = eqb (total board m kind) k

left-at : (board : ℕ) (m : List ℕ) → length m ≡ map_bytes board → (kind : RunKind) (f : Option Step) (k : ℕ)
    → left_at board m kind f k ≡ true → f ≡ following_at board m kind k
left-at board m long kind (Some s) k h =
    rw (lt-ltb k (total board m kind) (stands-below board m long kind s k h))
    (ap Some (stands-at board m long kind s k h))
left-at board m long kind None k h =
    let l : total board m kind ≤ k = omega (arith, eqb-true (total board m kind) k h) in
    rw (le-ltb k (total board m kind) l)

module _ (board : ℕ) (m : List ℕ) (long : length m ≡ map_bytes board) (some : 0 < named_count board m)
    (kind : RunKind) where
  first-piece-ranked : (base : ℕ) → ranked (piece_starts m) base (lowest_piece board m) base ≡ true
  first-piece-ranked base =
      first-ranked (named m) piece_most (start_of board) (bytes_past board m long) base
      (first-piece-below board m long some)

  pub first-stands : stands_at board m kind (first_of board m) 0 ≡ true
  unfolding stands_at
  first-stands =
      first-ranked (touched m) board board (pages-past board m long) 0 (first-run-below board m long some)

  erase-stands : (q k : ℕ) → stands_at board m kind (erase_at q) k ≡ true
      → left_at board m kind (follow_of board m kind (erase_at q)) (k + 1) ≡ true
  unfolding follow_of stands_at
  erase-stands q k h =
      decide (ltb (next_run board m q) board)
      (λ d. rw d (follow-ranked (touched m) board board (pages-past board m long) 0
      (some-page board m some) q k h (ltb-true _ _ d)))
      (λ d. rw d
      (subst (λ (j : ℕ). ranked (piece_starts m) (run_count board m) (lowest_piece board m) j ≡ true)
      (omega (
        arith,
        follow-last (touched m) board board (pages-past board m long) 0 (some-page board m some) q k h
            (ltb-false _ _ d),
      ))
      (first-piece-ranked (run_count board m))))

  write-stands : (a k : ℕ) → stands_at board m kind (write_at a) k ≡ true
      → left_at board m kind (follow_of board m kind (write_at a)) (k + 1) ≡ true
  unfolding follow_of stands_at
  write-stands a k h =
      decide (ltb (next_piece board m a) (start_of board))
      (λ d. rw d (follow-ranked (named m) piece_most (start_of board) (bytes_past board m long)
      (run_count board m) (omega arith) a k h (ltb-true _ _ d)))
      (λ d. rw d (subst
      (λ (j : ℕ). ranked (piece_starts m) (before_verify board m) (lowest_piece board m) j ≡ true)
      (follow-last (named m) piece_most (start_of board) (bytes_past board m long) (run_count board m)
      (omega arith) a k h (ltb-false _ _ d))
      (first-piece-ranked (before_verify board m))))

  -- behind the last V stands R, or nothing where it is not sent
  behind-stands : (k : ℕ) → before_r board m ≡ k → left_at board m kind (behind_last kind) k ≡ true
  unfolding stands_at
  behind-stands k e =
      decide (sends_r kind)
      (λ t. rw (t, t) (eq-eqb (before_r board m) k e))
      (λ t. rw t (eq-eqb (total board m kind) k (omega (arith, r-none kind t))))

  verify-stands : (a k : ℕ) → stands_at board m kind (verify_at a) k ≡ true
      → left_at board m kind (follow_of board m kind (verify_at a)) (k + 1) ≡ true
  unfolding follow_of stands_at
  verify-stands a k h =
      decide (ltb (next_piece board m a) (start_of board))
      (λ d. rw d (follow-ranked (named m) piece_most (start_of board) (bytes_past board m long)
      (before_verify board m) (omega arith) a k h (ltb-true _ _ d)))
      (λ d. let e : before_r board m ≡ k + 1 = omega (
        arith,
        follow-last (named m) piece_most (start_of board) (bytes_past board m long) (before_verify board m)
            (omega arith) a k h (ltb-false _ _ d),
      ) in rw d (behind-stands (k + 1) e))

  run-stands : (k : ℕ) → stands_at board m kind Step.Run k ≡ true
      → left_at board m kind (follow_of board m kind Step.Run) (k + 1) ≡ true
  unfolding follow_of
  run-stands k h =
      let r = stands-r board m kind k h in
      eq-eqb (total board m kind) (k + 1) (omega (arith, r.1, r-one kind r.0))

  follow-stands : (s : Step) (k : ℕ) → stands_at board m kind s k ≡ true
      → left_at board m kind (follow_of board m kind s) (k + 1) ≡ true
  follow-stands (Step.Erase p) k h = erase-stands p.0 k h
  follow-stands (Step.Write a) k h = write-stands a.0 k h
  follow-stands (Step.Verify a) k h = verify-stands a.0 k h
  follow-stands Step.Run k h = run-stands k h

  -- the first step has the first packet, and each leads to the next
  pub first-at : first_of board m ≡ step_at board m 0
  first-at = stands-at board m long kind (first_of board m) 0 first-stands

  pub follow-at : (k : ℕ) → k < total board m kind
      → follow_of board m kind (step_at board m k) ≡ following_at board m kind (k + 1)
  follow-at k l =
      left-at board m long kind (follow_of board m kind (step_at board m k)) (k + 1)
      (follow-stands (step_at board m k) k (at-stands board m kind k l))

  pub follow-next : (k : ℕ) → k + 1 < total board m kind
      → follow_of board m kind (step_at board m k) ≡ Some (step_at board m (k + 1))
  follow-next k l = follow-at k (omega arith) ∙ rw (lt-ltb (k + 1) (total board m kind) l)

  pub follow-end : (k : ℕ) → k + 1 ≡ total board m kind
      → follow_of board m kind (step_at board m k) ≡ None
  follow-end k e =
      let l : total board m kind ≤ k + 1 = omega arith in
      follow-at k (omega arith) ∙ rw (le-ltb (k + 1) (total board m kind) l)

  -- a cursor that moves on stands at a start
  pub first-start : at_start board m (first_of board m) ≡ true
  first-start = stands-start board m long kind (first_of board m) 0 first-stands

  pub follow-start : (s t : Step) (k : ℕ) → stands_at board m kind s k ≡ true
      → follow_of board m kind s ≡ Some t → at_start board m t ≡ true
  follow-start s t k h e =
      stands-start board m long kind t (k + 1)
      (sym (ap (λ (f : Option Step). left_at board m kind f (k + 1)) e) ∙ follow-stands s k h)
