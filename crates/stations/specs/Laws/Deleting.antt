-- Deleting a number, and freeing a place: what is then free, and what is as before.
use Rattle.std.specs.Prelude.{ℕ, zero, suc, ◌+◌, ◌≤◌, ◌<◌, Bool, true, false, List, ◌≡◌, refl, length, replicate}
use Rattle.std.proofs.Common.{sym, ap, ◌∙◌, arith, ne_eqb}
use Rattle.std.proofs.Math.Decide.{ℕ_discrete}
use Rattle.basis.specs.Choice.{pick}
use Rattle.basis.specs.Laws.Choice.{decide, true-false}
use Rattle.basis.specs.Laws.Refusals.{given-one, apart}
use Rattle.basis.specs.Refusals.{refused, given}
use Rattle.stations.specs.Laws.Finding.{suits-has, NoneSuits, find_none, find-same, Once, once-fewer}
use Rattle.stations.specs.Laws.Places.{freed-place, freed-other, standing-free}
use Rattle.stations.specs.Laws.Rows.{right-size, not-past, freed-if-length, free-size, free-past, free-none, free-given, delete-size, delete-none, delete-given}
use Rattle.stations.specs.Table.{places, place_size, table_size, place_of, standing_of, standing_at, suits, suits_at, find_of, freed_at, freed_if, freed_from, delete_of, is_free, free_of}
use Rattle.stations.specs.declared.table.Sought.{Sought}
use Rattle.stations.specs.declared.table.Standing.{Standing}

-- ---- deleting

-- going through places keeps the table's length
freed-from-length : (f : ℕ) (t : List ℕ) (n i : ℕ) → length (freed_from t n i f) ≡ length t
unfolding freed_from
freed-from-length zero t n i = refl
freed-from-length (suc f) t n i = freed-from-length f (freed_if t n i) n (i + 1) ∙ freed-if-length t n i

-- a place after deleting: free where it had the number, else as before
abbrev pub kept_or : List ℕ → ℕ → ℕ → List ℕ
kept_or t n j = pick (suits_at t (Sought.Number n) j) (replicate place_size 0) (place_of t j)

-- one turn leaves its place so
freed-if-place : (t : List ℕ) (n i : ℕ) → length t ≡ table_size → i < places
    → place_of (freed_if t n i) i ≡ kept_or t n i
freed-if-place t n i e h =
    decide (suits_at t (Sought.Number n) i) (λ d. rw d (freed-place t i e h)) (λ d. rw d)

-- and every other as it was
freed-if-other : (t : List ℕ) (n i j : ℕ) → length t ≡ table_size → j < places → (j ≡ i → ⊥)
    → place_of (freed_if t n i) j ≡ place_of t j
freed-if-other t n i j e h q =
    decide (suits_at t (Sought.Number n) i) (λ d. rw d (freed-other t i j e h q)) (λ d. rw d)

-- a place before the first that is looked at is as it was
freed-from-below : (f : ℕ) (t : List ℕ) (n i j : ℕ) → length t ≡ table_size → j < places → j < i
    → place_of (freed_from t n i f) j ≡ place_of t j
unfolding freed_from
freed-from-below zero t n i j e h l = refl
freed-from-below (suc f) t n i j e h l =
    freed-from-below f (freed_if t n i) n (i + 1) j (freed-if-length t n i ∙ e) h (omega arith)
    ∙ freed-if-other t n i j e h (λ q. omega arith)

-- each that is looked at is freed where it has the number
freed-from-place : (f : ℕ) (t : List ℕ) (n i j : ℕ) → length t ≡ table_size → j < places → i ≤ j
    → j < i + f
    → place_of (freed_from t n i f) j ≡ kept_or t n j
unfolding freed_from
freed-from-place zero t n i j e h g l = absurd (omega arith)
freed-from-place (suc f) t n i j e h g l =
    go (ℕ_discrete j i) (freed-from-place f (freed_if t n i) n (i + 1) j (freed-if-length t n i ∙ e) h)
  where
    u : List ℕ
    u = freed_if t n i

    go : Dec (j ≡ i) → (i + 1 ≤ j → j < i + 1 + f → place_of (freed_from u n (i + 1) f) j ≡ kept_or u n j)
        → place_of (freed_from u n (i + 1) f) j ≡ kept_or t n j
    go (yes q) ih =
        freed-from-below f u n (i + 1) j (freed-if-length t n i ∙ e) h (omega arith)
        ∙ rw q (freed-if-place t n i e (omega arith))
    go (no q) ih =
        ih (omega arith) (omega arith)
        ∙ ap (λ (p : List ℕ). pick (suits (Sought.Number n) (standing_of p)) (replicate place_size 0) p)
        (freed-if-other t n i j e h q)

-- a number is deleted: in a table of the right size every place was gone through
record Deleted (t : List ℕ) (n : ℕ) (u : List ℕ) : Type 0 where
  pub size : length t ≡ table_size
  pub left : u ≡ freed_from t n 0 places

-- what is accepted is deleted so
delete-tells : (t : List ℕ) (n : ℕ) (u : List ℕ) → delete_of t n ≡ given u → Deleted t n u
delete-tells t n u e =
    let s = right-size t (λ q. apart (sym (delete-size t n q) ∙ e)) in
    let h = not-past _ (λ l. apart (sym (delete-none t n s l) ∙ e)) in
    record { size = s; left = given-one (sym e ∙ delete-given t n s h) }

module _ (t : List ℕ) (n : ℕ) (u : List ℕ) (accepted : delete_of t n ≡ given u) where
  -- the table keeps its length
  pub delete-length : length u ≡ table_size
  delete-length =
      let a = delete-tells t n u accepted in
      ap length a.left ∙ freed-from-length places t n 0 ∙ a.size

  -- each place that had the number is all 0, each other has its bytes as before
  pub delete-places : (j : ℕ) → j < places → place_of u j ≡ kept_or t n j
  delete-places j h =
      let a = delete-tells t n u accepted in
      ap (λ (v : List ℕ). place_of v j) a.left
      ∙ freed-from-place places t n 0 j a.size h (omega arith) (omega arith)

  -- a place that had the number is then free
  pub delete-frees : (j : ℕ) → j < places → suits_at t (Sought.Number n) j ≡ true
      → standing_at u j ≡ Standing.Free
  delete-frees j h d =
      ap standing_of (delete-places j h ∙ ap (λ (b : Bool). pick b (replicate place_size 0) (place_of t j)) d)
      ∙ standing-free

  -- every other stands as before, a damaged one too
  pub delete-keeps : (j : ℕ) → j < places → suits_at t (Sought.Number n) j ≡ false
      → standing_at u j ≡ standing_at t j
  delete-keeps j h d =
      ap standing_of (delete-places j h ∙ ap (λ (b : Bool). pick b (replicate place_size 0) (place_of t j)) d)

  -- no place has the number any more
  none_left : NoneSuits u (Sought.Number n)
  none_left j h =
      decide (suits_at t (Sought.Number n) j)
      (λ d. ap (suits (Sought.Number n)) (delete-frees j h d))
      (λ d. ap (suits (Sought.Number n)) (delete-keeps j h d) ∙ d)

  -- it is then not found
  pub delete-gone : find_of u n ≡ refused 60
  delete-gone = find_none u n none_left

  -- every other number has what it had
  pub delete-others : (m : ℕ) → (m ≡ n → ⊥) → find_of u m ≡ find_of t m
  delete-others m q =
      find-same u t m delete-length (delete-tells t n u accepted).size
      (λ j h. decide (suits_at t (Sought.Number n) j)
      (λ d. ap (suits (Sought.Number m)) (delete-frees j h d) ∙ sym (other j d))
      (λ d. ap (suits (Sought.Number m)) (delete-keeps j h d)))
      (λ j h f. decide (suits_at t (Sought.Number n) j)
      (λ d. absurd (true-false (sym f ∙ ap (suits (Sought.Number m)) (delete-frees j h d))))
      (λ d. delete-keeps j h d))
    where
      other : (j : ℕ) → suits_at t (Sought.Number n) j ≡ true → suits_at t (Sought.Number m) j ≡ false
      other j d =
          let a = suits-has n (standing_at t j) d in
          ap (suits (Sought.Number m)) a.stands
          ∙ ne_eqb a.station.number m (λ e. q (sym e ∙ a.number))

  -- where no number was held by two places, none is
  pub delete-once : Once t → Once u
  delete-once o =
      once-fewer t u o
      (λ m j h f. decide (suits_at t (Sought.Number n) j)
      (λ d. absurd (true-false (sym f ∙ ap (suits (Sought.Number m)) (delete-frees j h d))))
      (λ d. sym (ap (suits (Sought.Number m)) (delete-keeps j h d)) ∙ f))

-- ---- freeing by place

-- a place is freed: it is one of a table of the right size
record Freed (t : List ℕ) (i : ℕ) (u : List ℕ) : Type 0 where
  pub size : length t ≡ table_size
  pub below : i < places
  pub left : u ≡ freed_at t i

-- what is accepted is freed so
free-tells : (t : List ℕ) (i : ℕ) (u : List ℕ) → free_of t i ≡ given u → Freed t i u
free-tells t i u e =
    let s = right-size t (λ q. apart (sym (free-size t i q) ∙ e)) in
    let b = not-past i (λ l. apart (sym (free-past t i s l) ∙ e)) in
    let f = decide (is_free t i) (λ q. absurd (apart (sym (free-none t i s b q) ∙ e))) (λ q. q) in
    record { size = s; below = b; left = given-one (sym e ∙ free-given t i s b f) }

module _ (t : List ℕ) (i : ℕ) (u : List ℕ) (accepted : free_of t i ≡ given u) where
  -- the place is then free
  pub free-frees : standing_at u i ≡ Standing.Free
  free-frees =
      let a = free-tells t i u accepted in
      ap (λ (v : List ℕ). standing_at v i) a.left ∙ ap standing_of (freed-place t i a.size a.below)
      ∙ standing-free

  -- every other place has its bytes as before
  pub free-rest : (j : ℕ) → j < places → (j ≡ i → ⊥) → place_of u j ≡ place_of t j
  free-rest j h n =
      let a = free-tells t i u accepted in
      ap (λ (v : List ℕ). place_of v j) a.left ∙ freed-other t i j a.size h n

  -- where no number was held by two places, none is
  pub free-once : Once t → Once u
  free-once o = once-fewer t u o (λ n j h f. go n j h f (ℕ_discrete j i))
    where
      go : (n j : ℕ) → j < places → suits_at u (Sought.Number n) j ≡ true → Dec (j ≡ i)
          → suits_at t (Sought.Number n) j ≡ true
      go n j h f (yes q) =
          absurd (true-false (sym f ∙ ap (suits (Sought.Number n)) (ap (standing_at u) q ∙ free-frees)))
      go n j h f (no q) =
          sym (ap (λ (p : List ℕ). suits (Sought.Number n) (standing_of p)) (free-rest j h q)) ∙ f
