-- Laws of the steps one after another: each leads to the next, and their packets are the plan.
use Rattle.std.specs.Prelude.{ℕ, zero, suc, ◌+◌, ◌-◌, ◌<◌, ◌≤◌, true, List, [], ◌∷◌, ◌≡◌, length, drop, ltb, Some, map}
use Rattle.std.proofs.Common.{refl, sym, ap, ◌∙◌, arith, add-one, lt-ltb, ltb-true, ltb-false, drop-cons, drop_of_length-le}
use Rattle.basis.specs.Laws.Choice.{decide}
use Rattle.basis.specs.Units.{map_bytes}
use Rattle.basis.specs.declared.kind.RunKind.{RunKind}
use Rattle.order.specs.Laws.Plan.{plan-length, plan-at}
use Rattle.order.specs.Laws.Steps.{ranked-is, stands-r, stands-below, stands-start, stands-at, at-stands, first-stands, first-at, follow-at}
use Rattle.order.specs.Plan.{plan, total, before_verify}
use Rattle.order.specs.Steps.{packet_of, packet_at, step_at, following_at, first_of, follow_of, at_start, stands_at}
use Rattle.order.specs.Walk.{rank_of, steps_from, steps_of, steps_left, stands_next}
use Rattle.order.specs.declared.step.Step.{Step}
use Rattle.runs.specs.Pieces.{piece_starts, run_starts, run_count, named_count}

module _ (board : ℕ) (m : List ℕ) where
  steps-none : (k : ℕ) → steps_from board m k 0 ≡ []
  unfolding steps_from
  steps-none k = refl

  steps-more : (k n : ℕ) → k < n
      → steps_from board m k (n - k) ≡ step_at board m k ∷ steps_from board m (k + 1) (n - (k + 1))
  unfolding steps_from
  steps-more k n l = let e : n - k ≡ suc (n - (k + 1)) = omega arith in rw e

  pub steps-length : (k n : ℕ) → length (steps_from board m k n) ≡ n
  unfolding steps_from
  steps-length k zero = refl
  steps-length k (suc n) = ap suc (steps-length (k + 1) n)

  -- a step stands where as many packets are before it
  ranked_of : (kind : RunKind) (s : Step) (k : ℕ) → stands_at board m kind s k ≡ true → rank_of board m s ≡ k
  unfolding stands_at
  ranked_of kind (Step.Erase p) k h = omega (arith, (ranked-is (run_starts board m) 0 p.0 k h).1)
  ranked_of kind (Step.Write a) k h = (ranked-is (piece_starts m) (run_count board m) a.0 k h).1
  ranked_of kind (Step.Verify a) k h = (ranked-is (piece_starts m) (before_verify board m) a.0 k h).1
  ranked_of kind Step.Run k h = (stands-r board m kind k h).1

  -- the steps that are left after k of them
  left_of : (kind : RunKind) (k : ℕ) → k < total board m kind
      → steps_left board m kind (Some (step_at board m k)) ≡ steps_from board m k (total board m kind - k)
  left_of kind k l =
      ap (λ (j : ℕ). steps_from board m j (total board m kind - j))
      (ranked_of kind (step_at board m k) k (at-stands board m kind k l))

  following_left : (kind : RunKind) (k : ℕ)
      → steps_left board m kind (following_at board m kind k) ≡ steps_from board m k (total board m kind - k)
  following_left kind k =
      decide (ltb k (total board m kind))
      (λ t. rw t (left_of kind k (ltb-true _ _ t)))
      (λ t. let l : total board m kind ≤ k = ltb-false _ _ t in
      let e : total board m kind - k ≡ 0 = omega arith in
      rw (t, e) (sym (steps-none k)))

  following_stands : (kind : RunKind) (k : ℕ) → stands_next board m kind (following_at board m kind k) ≡ true
  following_stands kind k =
      decide (ltb k (total board m kind))
      (λ t. let h = at-stands board m kind k (ltb-true _ _ t) in
      rw t (rw (ranked_of kind (step_at board m k) k h) h))
      (λ t. rw t)

  -- of the steps from the k-th on, the first is the k-th, and it stands at a start
  pub steps-first : (k n : ℕ) (s : Step) (l : List Step) → s ∷ l ≡ steps_from board m k (n - k)
      → (k < n) × (s ≡ step_at board m k) × (l ≡ steps_from board m (k + 1) (n - (k + 1)))
  steps-first k n s l e =
      decide (ltb k n)
      (λ t. let h : k < n = ltb-true k n t in
      let f : s ∷ l ≡ step_at board m k ∷ steps_from board m (k + 1) (n - (k + 1)) = e ∙ steps-more k n h in
      (h, cc, cc))
      (λ t. let h : n ≤ k = ltb-false k n t in
      let z : n - k ≡ 0 = omega arith in
      absurd (not-cons (e ∙ ap (steps_from board m k) z ∙ steps-none k)))
    where
      not-cons : s ∷ l ≡ [] → ⊥
      not-cons f = let g : suc (length l) ≡ 0 = ap length f in omega arith

  pub steps-end : (k n : ℕ) → [] ≡ steps_from board m k (n - k) → n ≤ k
  steps-end k n e =
      decide (ltb k n)
      (λ t. let f : 0 ≡ suc (length (steps_from board m (k + 1) (n - (k + 1)))) =
      ap length (e ∙ steps-more k n (ltb-true k n t)) in absurd (omega arith))
      (λ t. ltb-false k n t)

-- the step of a packet of the plan stands at a start
pub step-starts : (board : ℕ) (m : List ℕ) → length m ≡ map_bytes board → (kind : RunKind) (k : ℕ)
    → k < total board m kind → at_start board m (step_at board m k) ≡ true
step-starts board m long kind k l =
    stands-start board m long kind (step_at board m k) k (at-stands board m kind k l)

-- a step that stands, and what is left from it on
module _ (board : ℕ) (m : List ℕ) (long : length m ≡ map_bytes board) (kind : RunKind) (s : Step)
    (h : stands_next board m kind (Some s) ≡ true) where
  pub walk-start : at_start board m s ≡ true
  walk-start = stands-start board m long kind s (rank_of board m s) h

  module _ (some : 0 < named_count board m) where
    walk-follows : follow_of board m kind s ≡ following_at board m kind (rank_of board m s + 1)
    walk-follows =
        ap (follow_of board m kind) (stands-at board m long kind s (rank_of board m s) h)
        ∙ follow-at board m long some kind (rank_of board m s)
        (stands-below board m long kind s (rank_of board m s) h)

    pub walk-next : steps_left board m kind (Some s) ≡ s ∷ steps_left board m kind (follow_of board m kind s)
    walk-next =
        steps-more board m (rank_of board m s) (total board m kind)
        (stands-below board m long kind s (rank_of board m s) h)
        ∙ ap (λ (t : Step). t ∷ steps_from board m (rank_of board m s + 1)
        (total board m kind - (rank_of board m s + 1)))
        (sym (stands-at board m long kind s (rank_of board m s) h))
        ∙ ap (λ (l : List Step). s ∷ l)
        (sym (following_left board m kind (rank_of board m s + 1))
        ∙ ap (steps_left board m kind) (sym walk-follows))

    pub walk-stands : stands_next board m kind (follow_of board m kind s) ≡ true
    walk-stands =
        ap (stands_next board m kind) walk-follows ∙ following_stands board m kind (rank_of board m s + 1)

-- the first step stands, and all are left
module _ (board : ℕ) (m : List ℕ) (long : length m ≡ map_bytes board) (some : 0 < named_count board m)
    (kind : RunKind) where
  pub first-next : Some (first_of board m) ≡ following_at board m kind 0
  first-next =
      let l : 0 < total board m kind = stands-below board m long kind (first_of board m) 0
      (first-stands board m long some kind) in
      ap Some (first-at board m long some kind) ∙ rw (lt-ltb 0 (total board m kind) l)

  pub walk-first : stands_next board m kind (Some (first_of board m)) ≡ true
  walk-first = ap (stands_next board m kind) first-next ∙ following_stands board m kind 0

  pub walk-all : steps_left board m kind (Some (first_of board m)) ≡ steps_of board m kind
  walk-all =
      let e : total board m kind - 0 ≡ total board m kind = omega arith in
      ap (steps_left board m kind) first-next
      ∙ following_left board m kind 0
      ∙ ap (steps_from board m 0) e

-- the packets of the steps are the plan
module _ (board : ℕ) (image m : List ℕ) (kind : RunKind) where
  -- what is left of the plan after k packets begins with that of the k-th step
  pub packets-next : (k : ℕ) → k < total board m kind
      → drop k (plan board image m kind) ≡ packet_at board image m kind k ∷ drop (k + 1) (plan board image m kind)
  packets-next k l =
      let g : k < length (plan board image m kind) = omega (arith, plan-length board image m kind) in
      rw add-one
      (drop-cons (plan board image m kind) k [] g
      ∙ ap (λ (p : List ℕ). p ∷ drop (suc k) (plan board image m kind)) (plan-at board image m kind k [] l))

  -- after the last packet nothing is left
  pub packets-end : (k : ℕ) → total board m kind ≤ k → drop k (plan board image m kind) ≡ []
  packets-end k l =
      let h : length (plan board image m kind) ≤ k = omega (arith, plan-length board image m kind) in
      drop_of_length-le (plan board image m kind) h

  -- the packets of the steps that are left after k of them are what is left of the plan
  pub packets-from : (n k : ℕ) → k + n ≡ total board m kind
      → map (packet_of board image m kind) (steps_from board m k n) ≡ drop k (plan board image m kind)
  unfolding steps_from
  packets-from zero k e = sym (packets-end k (omega arith))
  packets-from (suc n) k e = rw (packets-from n (k + 1) (omega arith)) (sym (packets-next k (omega arith)))

  pub steps-packets : map (packet_of board image m kind) (steps_of board m kind) ≡ plan board image m kind
  steps-packets = packets-from (total board m kind) 0 (omega arith)
