-- Laws of lists and of lent buffers.
use Rattle.std.specs.Prelude.{◌≡◌, ℕ, zero, suc, ◌+◌, ◌-◌, ◌<◌, ◌≤◌, List, [], ◌∷◌, ◌++◌, length, take, drop, replicate, nat_lt, slice_index, slice_index_or, slice_set}
use Rattle.std.proofs.Common.{append_assoc, append-nil, sym, ◌∙◌, suc-add, not-suc-le-zero, ltb-true, ltb-false, lit<, length-append, length-take, length-drop, drop_of_length-le, length-take-le, take-suc, take_all, take_at, drop_at, drop-drop, get_or-take, get_or-drop, arith}
use Rattle.std.proofs.Math.Path.{refl}
use Rattle.std.proofs.Math.Nat.{add-zero, add-suc, add_assoc}
use Rattle.std.proofs.Math.Numerals.{add-one}
use borrow.Rule.Slice.PartMut.{put_mid}
use Rattle.std.proofs.Math.ListN.{length-set, get_or-eq_default}
use Rattle.std.proofs.Math.Seq.{drop-cons, get_or-set_same, get_or-set_other}
use Rattle.std.proofs.lemmas.List.{set_at}
use Rattle.basis.specs.Laws.Choice.{decide}
use Rattle.basis.specs.Lists.{Bytes, overlay, stored, copy_of}

module _ {A : Type 0} where
  -- the next element is written
  set_next : (w old : List A) (x : A) → 0 < length old → (k : ℕ) → length w ≡ k
      → slice_set (w ++ old) k x ≡ (w ++ (x ∷ [])) ++ drop 1 old
  set_next w [] x h k e = absurd (not-suc-le-zero h)
  set_next w (y ∷ old) x h k e = set_at w y old x k e ∙ sym (append_assoc w (x ∷ []) old)

  pub overlay-next : (w old : List A) (k : ℕ) (x : A) → length w ≡ k → k < length old
      → slice_set (overlay w old) k x ≡ overlay (w ++ (x ∷ [])) old
  overlay-next w old k x e h =
      let q : 0 < length (drop (length w) old) = simp length-drop (omega arith) in
      rw (set_next w (drop (length w) old) x q k e, drop-drop 1 (length w) old, length-append w (x ∷ []))

  -- one more of what is to be written
  pub overlay-more : (new old : List A) (i : ℕ) (d : A) → i < length new → i < length old
      → slice_set (overlay (take i new) old) i (slice_index_or new i d) ≡ overlay (take (i + 1) new) old
  overlay-more new old i d h k =
      rw (add-one, take-suc new i d)
      (overlay-next (take i new) old i (slice_index_or new i d) (length-take-le i new (omega arith)) k)

  -- a part behind what was written is lent on and written: the whole is written through
  pub overlay-part : (f s old F P : List A) (k : ℕ) → length f ≡ k → F ≡ overlay f old
      → P ≡ overlay s (take (length F - k) (drop k F))
      → put_mid k (length F - k) F P ≡ overlay (f ++ s) old
  overlay-part f s old F P k lf e_f e_p =
      let r = drop (length f) old in
      let l : length r ≤ length (f ++ r) - k = omega (arith, length-append f r) in
      let e : P ≡ overlay s r = rw (e_f, drop_at f r k lf, take_all (length (f ++ r) - k) r l) at e_p in
      rw (
        e_f,
        e,
        take_at f r k lf,
        drop_at f r k lf,
        drop_of_length-le r l,
        append-nil,
        drop-drop,
        length-append,
      )
      (sym (append_assoc f s (drop (length f + length s) old)))

-- what is proved of `stored` holds of stores, copies and erasure alike
module _ (op : ℕ → ℕ → ℕ) where
  -- what stands after the first byte
  abbrev one : List ℕ → ℕ → ℕ → List ℕ
  one old a x = slice_set old a (op (slice_index old a) x)

  pub length-stored : (old : List ℕ) (a : ℕ) (s : List ℕ) → length (stored op old a s) ≡ length old
  unfolding stored
  length-stored old a [] = refl
  length-stored old a (x ∷ s) = length-stored (one old a x) (a + 1) s ∙ simp length-set

  -- some bytes, then others
  pub stored-append : (old : List ℕ) (a : ℕ) (s t : List ℕ)
      → stored op old a (s ++ t) ≡ stored op (stored op old a s) (a + length s) t
  unfolding stored
  stored-append old a [] t = rw add-zero
  stored-append old a (x ∷ s) t = stored-append (one old a x) (a + 1) s t ∙ rw (add-one, add-suc, suc-add)

  pub stored-below : (old : List ℕ) (a : ℕ) (s : List ℕ) (j : ℕ) → j < a
      → slice_index (stored op old a s) j ≡ slice_index old j
  unfolding stored
  stored-below old a [] j h = refl
  stored-below old a (x ∷ s) j h =
      stored-below (one old a x) (a + 1) s j (omega arith) ∙ get_or-set_other old a j _ 0 (λ e. omega arith)

  pub stored-above : (old : List ℕ) (a : ℕ) (s : List ℕ) (j : ℕ) → a + length s ≤ j
      → slice_index (stored op old a s) j ≡ slice_index old j
  unfolding stored
  stored-above old a [] j h = refl
  stored-above old a (x ∷ s) j h =
      stored-above (one old a x) (a + 1) s j (omega arith) ∙ get_or-set_other old a j _ 0 (λ e. omega arith)

  pub stored_at : (old : List ℕ) (a : ℕ) (s : List ℕ) (k : ℕ) → k < length s → a + length s ≤ length old
      → slice_index (stored op old a s) (a + k) ≡ op (slice_index old (a + k)) (slice_index s k)
  unfolding stored
  stored_at old a [] k h l = absurd (not-suc-le-zero h)
  stored_at old a (x ∷ s) zero h l =
      rw add-zero
      (stored-below (one old a x) (a + 1) s a (omega arith) ∙ get_or-set_same old a _ 0 (omega arith))
  stored_at old a (x ∷ s) (suc k) h l =
      let e : a + suc k ≡ a + 1 + k = omega arith in
      rw e
      (stored_at (one old a x) (a + 1) s k (omega arith) (simp length-set (omega arith))
      ∙ rw (get_or-set_other old a (a + 1 + k) (op (slice_index old a) x) 0 (λ q. omega arith)))

  -- one turn of a loop that stores, and its end, in the loop's own terms
  module _ (old : List ℕ) (a i : ℕ) (s : List ℕ) where
    pub stored-turn : i < length s
        → stored op (one old (a + i) (slice_index s i)) (a + (i + 1)) (drop (i + 1) s)
        ≡ stored op old (a + i) (drop i s)
    unfolding stored
    stored-turn h = rw (← add_assoc a i 1, add-one i, drop-cons s i 0)

    pub stored-ended : length s ≤ i → stored op old a (drop i s) ≡ old
    unfolding stored
    stored-ended h = rw (drop_of_length-le s h)

-- bytes copied in behind what was written are written
pub copy-overlay : (w old s : List ℕ) (k : ℕ) → length w ≡ k → k + length s ≤ length old
    → copy_of (overlay w old) k s ≡ overlay (w ++ s) old
unfolding stored
copy-overlay w old [] k e h = rw append-nil
copy-overlay w old (x ∷ s) k e h =
    rw (overlay-next w old k x e (omega arith))
    (copy-overlay (w ++ (x ∷ [])) old s (k + 1) (simp length-append (omega arith)) (omega arith)
    ∙ rw (append_assoc w (x ∷ []) s))

-- as many bytes as there are, from the start on: nothing else is left
pub copy-all : (old s : List ℕ) → length s ≡ length old → copy_of old 0 s ≡ s
copy-all old s e =
    let l : length old ≤ length s = omega arith in
    copy-overlay [] old s 0 refl (omega arith) ∙ rw (drop_of_length-le old l, append-nil)

-- a part of bytes is bytes
pub bytes_drop : (n : ℕ) (s : List ℕ) → Bytes s → Bytes (drop n s)
bytes_drop n s b k = rw get_or-drop (b (n + k))

pub bytes_take : (n : ℕ) (s : List ℕ) → Bytes s → Bytes (take n s)
bytes_take n s b k =
    decide (nat_lt k n)
    (λ t. rw (get_or-take n s k 0 (ltb-true k n t)) (b k))
    (λ t. let h : length (take n s) ≤ k = omega (arith, length-take n s, ltb-false k n t) in
    rw (get_or-eq_default (take n s) 0 h) (lit< tt))

pub zero-at : (n i : ℕ) → ◌≡◌ {A = ℕ} (slice_index (replicate n 0) i) 0
zero-at zero i = refl
zero-at (suc n) zero = refl
zero-at (suc n) (suc i) = zero-at n i
