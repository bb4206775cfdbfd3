-- Laws of the plan: it has as many packets as the total, and the k-th is the one that is out after k
-- acknowledgements.
use Rattle.std.proofs.lemmas.Bool.{eqb-false}
use Rattle.std.specs.Prelude.{ℕ, zero, suc, ◌+◌, ◌-◌, ◌≤◌, ◌<◌, Bool, List, [], ◌∷◌, ◌++◌, map, ◌≡◌, refl, eqb, ltb, length, get_or}
use Rattle.std.proofs.Common.{sym, ap, ◌∙◌, length-append, get_or-append-add, arith, eqb-true, ltb-true, ltb-false}
use Rattle.std.proofs.lemmas.List.{length-map}
use Rattle.std.proofs.Math.ListN.{get_or-append}
use Rattle.std.proofs.Math.Seq.{get_or-append_seam}
use Rattle.basis.specs.Choice.{pick}
use Rattle.basis.specs.Laws.Choice.{decide}
use Rattle.basis.specs.Units.{start_of}
use Rattle.basis.specs.declared.kind.RunKind.{RunKind}
use Rattle.runs.specs.Laws.Runs.{count-zero, count_yes, count_no}
use Rattle.runs.specs.Pieces.{piece_starts, run_starts, run_count, piece_count}
use Rattle.runs.specs.Runs.{count, select}
use Rattle.order.specs.Laws.Kinds.{r-most, r-sent}
use Rattle.order.specs.Steps.{step_at, packet_at}
use Rattle.order.specs.Plan.{sends_r, erase_packet, write_packet, verify_packet, run_packet, places, plan, before_verify, before_r, r_count, total}

-- the places that pass are as many as are counted, and the k-th is the one of rank k
places-length : (p : ℕ → Bool) (n : ℕ) → length (places p n) ≡ count p n
unfolding places
places-length p zero = sym (count-zero p)
places-length p (suc n) =
    decide (p n)
    (λ t. rw t (length-append (places p n) (n ∷ []) ∙ omega (arith, places-length p n, count_yes p n t)))
    (λ t. rw t (places-length p n ∙ sym (count_no p n t)))

places-at : (p : ℕ → Bool) (n k d : ℕ) → k < count p n → get_or (places p n) k d ≡ select p k n
unfolding places select
places-at p zero k d l = absurd (omega (arith, count-zero p))
places-at p (suc n) k d l =
    decide (p n)
    (λ t. decide (eqb (count p n) k)
    (λ e. let x : k ≡ length (places p n) = sym (places-length p n ∙ eqb-true (count p n) k e) in
    rw (t, e) (rw x (get_or-append_seam (places p n) n [] d)))
    (λ e. let x : k < length (places p n) = omega
    (arith, places-length p n, count_yes p n t, eqb-false (count p n) k e) in
    rw (t, e) (get_or-append (places p n) (n ∷ []) d k x
    ∙ places-at p n k d (omega (arith, places-length p n)))))
    (λ t. rw t (places-at p n k d (omega (arith, count_no p n t))))

module _ {A : Type 0} where
  map_at : (f : ℕ → A) (l : List ℕ) (k e : ℕ) (d : A) → k < length l → get_or (map f l) k d ≡ f (get_or l k e)
  map_at f [] k e d h = absurd (omega arith)
  map_at f (x ∷ l) zero e d h = refl
  map_at f (x ∷ l) (suc k) e d h = map_at f l k e d (omega arith)

  -- in a part of a plan, and past it
  part_at : (f : ℕ → A) (p : ℕ → Bool) (n k : ℕ) (ys : List A) (d : A) → k < count p n
      → get_or (map f (places p n) ++ ys) k d ≡ f (select p k n)
  part_at f p n k ys d l =
      let y : k < length (places p n) = omega (arith, places-length p n) in
      let x : k < length (map f (places p n)) = omega (arith, length-map (places p n) f) in
      get_or-append (map f (places p n)) ys d k x
      ∙ map_at f (places p n) k 0 d y
      ∙ ap f (places-at p n k 0 l)

  part-past : (f : ℕ → A) (p : ℕ → Bool) (n k : ℕ) (ys : List A) (d : A) → count p n ≤ k
      → get_or (map f (places p n) ++ ys) k d ≡ get_or ys (k - count p n) d
  part-past f p n k ys d l =
      let x : k ≡ length (map f (places p n)) + (k - count p n) = omega
      (arith, length-map (places p n) f, places-length p n) in
      ap (λ (j : ℕ). get_or (map f (places p n) ++ ys) j d) x
      ∙ get_or-append-add (map f (places p n)) ys (k - count p n) d

-- one R at the end, or none
last-length : (kind : RunKind) → length (pick (sends_r kind) (run_packet kind ∷ []) []) ≡ r_count kind
last-length RunKind.Reset = refl
last-length RunKind.Jump = refl
last-length RunKind.Hold = refl

module _ (board : ℕ) (image m : List ℕ) (kind : RunKind) where
  -- the plan has e + 2w + 1 packets, and e + 2w to hold
  pub plan-length : length (plan board image m kind) ≡ total board m kind
  unfolding plan
  plan-length =
      simp (length-append, length-map)
      (omega (
        arith,
        places-length (run_starts board m) board,
        places-length (piece_starts m) (start_of board),
        last-length kind,
      ))

  -- the k-th, counted from 0, is out after k acknowledgements
  pub plan-at : (k : ℕ) (d : List ℕ) → k < total board m kind
      → get_or (plan board image m kind) k d ≡ packet_at board image m kind k
  unfolding step_at plan
  plan-at k d l =
      decide (ltb k (run_count board m))
      (λ a. rw a (part_at (erase_packet board m) (run_starts board m) board k _ d (ltb-true _ _ a)))
      (λ a. let ka : run_count board m ≤ k = ltb-false _ _ a in
      rw a (part-past (erase_packet board m) (run_starts board m) board k _ d ka
      ∙ decide (ltb k (before_verify board m))
      (λ b. rw b (part_at (write_packet image m) (piece_starts m) (start_of board) (k - run_count board m) _ d
      (omega (arith, ltb-true k (before_verify board m) b))))
      (λ b. let kb : piece_count board m ≤ k - run_count board m = omega
      (arith, ltb-false k (before_verify board m) b) in
      let e : k - run_count board m - piece_count board m ≡ k - before_verify board m = omega arith in
      rw b (part-past (write_packet image m) (piece_starts m) (start_of board) (k - run_count board m) _ d kb
      ∙ rw e (decide (ltb k (before_r board m))
      (λ c. rw c (part_at (verify_packet image m) (piece_starts m) (start_of board)
      (k - before_verify board m) _ d (omega (arith, ltb-true k (before_r board m) c))))
      (λ c. let kc : piece_count board m ≤ k - before_verify board m = omega
      (arith, ltb-false k (before_r board m) c) in
      let z : k - before_verify board m - piece_count board m ≡ 0 = omega (arith, r-most kind) in
      let t = r-sent kind (omega (arith, ltb-false k (before_r board m) c)) in
      rw c (part-past (verify_packet image m) (piece_starts m) (start_of board)
      (k - before_verify board m) _ d kc
      ∙ rw (z, t))))))))
