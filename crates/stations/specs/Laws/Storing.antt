-- Storing: the place for a number, and what an accepted record changes and leaves.
use Rattle.std.specs.Prelude.{ℕ, ◌-◌, ◌≤◌, ◌<◌, true, false, List, ◌++◌, ◌⊎◌, ◌≡◌, refl, ltb, length, replicate}
use Rattle.std.proofs.Common.{inl, inr, sym, ap, subst, ◌∙◌, arith, ne_eqb, lt-ltb, ltb-true, ltb-false, eqb-true}
use Rattle.std.proofs.Math.Decide.{ℕ_discrete}
use Rattle.basis.specs.Laws.Choice.{decide, true-false}
use Rattle.basis.specs.Laws.Refusals.{given-one, apart}
use Rattle.basis.specs.Refusals.{Answer, refused, given}
use Rattle.stations.specs.Laws.Finding.{suits-has, suits-free, Lowest, NoneSuits, lowest-skips, lowest-is, lowest-none, lowest-tells, find-lowest, find-same, Once}
use Rattle.stations.specs.Laws.Places.{put-length, put-place, put_other, standing-record, damaged-station, damaged-free}
use Rattle.stations.specs.Laws.Record.{read-tells, read_length}
use Rattle.stations.specs.Laws.Rows.{right-size, not-past, store-size, store-unread, store-none, store_given}
use Rattle.stations.specs.Station.{fields_of, read_of}
use Rattle.stations.specs.Table.{places, place_size, table_size, place_of, standing_of, standing_at, suits, suits_at, lowest_of, find_of, put_at, place_for, store_of, after_store}
use Rattle.stations.specs.declared.station.Station.{Station}
use Rattle.stations.specs.declared.table.Sought.{Sought}
use Rattle.stations.specs.declared.table.Standing.{Standing}

-- ---- the place for a number

-- the place for a number: the lowest that has it, or, where none has it, the lowest free one
abbrev pub IsFor : List ℕ → ℕ → ℕ → Type 0
IsFor t n i = Lowest t (Sought.Number n) i ⊎ (NoneSuits t (Sought.Number n) × Lowest t Sought.Free i)

-- the place that is chosen for a number is the place for it
place-for : (t : List ℕ) (n : ℕ) → place_for t n < places → IsFor t n (place_for t n)
place-for t n h =
    let w = Sought.Number n in
    decide (ltb (lowest_of t w) places)
    (λ d. rw d (inl (lowest-tells t w (ltb-true (lowest_of t w) places d))))
    (λ d. let l = ltb-false (lowest_of t w) places d in
    rw d (inr ((λ j q. lowest-skips t w j (omega arith)), lowest-tells t Sought.Free (rw d at h))))

-- and nothing else is
place_is : (t : List ℕ) (n i : ℕ) → IsFor t n i → place_for t n ≡ i
place_is t n i (inl x) =
    let e = lowest-is t (Sought.Number n) i x.below x.fits x.none in
    rw (e, lt-ltb i places x.below)
place_is t n i (inr x) =
    let e = lowest-none t (Sought.Number n) x.0 in
    rw (e, lowest-is t Sought.Free i x.1.below x.1.fits x.1.none)

-- the place for a number is one of the table
for-below : (t : List ℕ) (n i : ℕ) → IsFor t n i → i < places
for-below t n i (inl x) = x.below
for-below t n i (inr x) = x.1.below

-- no lower place has the number
for-lowest : (t : List ℕ) (n i : ℕ) → IsFor t n i → (j : ℕ) → j < i
    → suits_at t (Sought.Number n) j ≡ false
for-lowest t n i (inl x) j h = x.none j h
for-lowest t n i (inr x) j h = x.0 j (omega (arith, x.1.below))

-- and no other place at all, where no number is held by two
for-only : (t : List ℕ) (n i : ℕ) → Once t → IsFor t n i → (j : ℕ) → j < places
    → suits_at t (Sought.Number n) j ≡ true
    → j ≡ i
for-only t n i o (inl x) j h e = o n j i h x.below e x.fits
for-only t n i o (inr x) j h e = absurd (true-false (sym e ∙ x.0 j h))

-- it has no other number
for-other : (t : List ℕ) (n m i : ℕ) → IsFor t n i → (m ≡ n → ⊥) → suits_at t (Sought.Number m) i ≡ false
for-other t n m i (inl x) d =
    let a = suits-has n (standing_at t i) x.fits in
    rw a.stands (ne_eqb a.station.number m (λ e. d (sym e ∙ a.number)))
for-other t n m i (inr x) d = rw (suits-free (standing_at t i) x.1.fits)

-- it is not damaged
for-sound : (t : List ℕ) (n i : ℕ) → IsFor t n i → standing_at t i ≡ Standing.Damaged → ⊥
for-sound t n i (inl x) e = damaged-station (sym e ∙ (suits-has n (standing_at t i) x.fits).stands)
for-sound t n i (inr x) e = damaged-free (sym e ∙ suits-free (standing_at t i) x.1.fits)

-- ---- what is stored, and where

-- a readable record goes to the place for its number
pub store_at : (t r : List ℕ) (s : Station) (i : ℕ) → length t ≡ table_size → read_of r ≡ given s
    → IsFor t s.number i
    → store_of t r ≡ given i
store_at t r s i e g x =
    let p = place_is t s.number i x in
    store_given t r e g (rw p (for-below t s.number i x)) ∙ ap given p

-- a table, full or not, takes a record whose number it holds
pub store-held : (t r : List ℕ) (s : Station) → length t ≡ table_size → read_of r ≡ given s
    → lowest_of t (Sought.Number s.number) < places
    → store_of t r ≡ given (lowest_of t (Sought.Number s.number))
store-held t r s e g h = store_at t r s _ e g (inl (lowest-tells t (Sought.Number s.number) h))

-- a full one takes no record of another number
pub store-full : (t r : List ℕ) (s : Station) → length t ≡ table_size → read_of r ≡ given s
    → NoneSuits t (Sought.Number s.number)
    → NoneSuits t Sought.Free
    → store_of t r ≡ refused 61
store-full t r s e g f h =
    store-none t r e g
    (rw (lowest-none t (Sought.Number s.number) f, lowest-none t Sought.Free h) (omega arith))

-- a record is stored at a place: it can be read, and the place is that for its number
record StoredAt (t r : List ℕ) (i : ℕ) : Type 0 where
  pub size : length t ≡ table_size
  pub read : read_of r ≡ given (fields_of r)
  pub place : IsFor t (fields_of r).number i

-- what is accepted is stored so
store-tells : (t r : List ℕ) (i : ℕ) → store_of t r ≡ given i → StoredAt t r i
store-tells t r i e =
    let s = right-size t (λ q. apart (sym (store-size t r q) ∙ e)) in
    let g = read (read_of r) refl s in
    let n = (fields_of r).number in
    let h = not-past (place_for t n) (λ l. apart (sym (store-none t r s g l) ∙ e)) in
    record {
      size = s;
      read = g;
      place = subst (IsFor t n) (given-one (sym (store_given t r s g h) ∙ e)) (place-for t n h);
    }
  where
    read : (a : Answer Station) → read_of r ≡ a → length t ≡ table_size → read_of r ≡ given (fields_of r)
    read (refused m) q s = absurd (apart (sym (store-unread t r s q) ∙ e))
    read (given x) q s = q ∙ ap given (read-tells r x q).fields

-- a readable record fits a place
fits-place : (r : List ℕ) (s : Station) → read_of r ≡ given s → length r ≤ place_size
fits-place r s e = omega (arith, (read_length r s e).1)

-- a place that a readable record is put in has its station
put-standing : (t r : List ℕ) (s : Station) (i : ℕ) → length t ≡ table_size → read_of r ≡ given s
    → i < places
    → standing_at (put_at t i r) i ≡ Standing.Station s
put-standing t r s i e g h =
    ap standing_of (put-place t i r e h (fits-place r s g)) ∙ standing-record r s g

-- and so its number has that station
put-found : (t r : List ℕ) (s : Station) (i : ℕ) → length t ≡ table_size → read_of r ≡ given s
    → IsFor t s.number i
    → find_of (put_at t i r) s.number ≡ given s
put-found t r s i e g x =
    let n = s.number in
    let h = for-below t n i x in
    find-lowest (put_at t i r) n i s (put-length t i r ∙ e) h (put-standing t r s i e g h) refl
    (λ j l. ap (λ (p : List ℕ). suits (Sought.Number n) (standing_of p))
    (put_other t i j r e (omega arith) (fits-place r s g) (λ q. omega arith))
    ∙ for-lowest t n i x j l)

-- other numbers have what they had
put-others : (t r : List ℕ) (s : Station) (i n : ℕ) → length t ≡ table_size → read_of r ≡ given s
    → IsFor t s.number i
    → (n ≡ s.number → ⊥)
    → find_of (put_at t i r) n ≡ find_of t n
put-others t r s i n e g x d =
    find-same (put_at t i r) t n (put-length t i r ∙ e) e (λ j l. same j l (ℕ_discrete j i))
    (λ j l f. stands j l f (ℕ_discrete j i))
  where
    other : (j : ℕ) → j < places → (j ≡ i → ⊥) → place_of (put_at t i r) j ≡ place_of t j
    other j l q = put_other t i j r e l (fits-place r s g) q

    not-here : suits_at (put_at t i r) (Sought.Number n) i ≡ false
    not-here =
        ap (suits (Sought.Number n)) (put-standing t r s i e g (for-below t s.number i x))
        ∙ ne_eqb s.number n (λ q. d (sym q))

    same : (j : ℕ) → j < places → Dec (j ≡ i)
        → suits_at (put_at t i r) (Sought.Number n) j ≡ suits_at t (Sought.Number n) j
    same j l (yes q) = rw q (not-here ∙ sym (for-other t s.number n i x d))
    same j l (no q) = ap (λ (p : List ℕ). suits (Sought.Number n) (standing_of p)) (other j l q)

    stands : (j : ℕ) → j < places → suits_at (put_at t i r) (Sought.Number n) j ≡ true → Dec (j ≡ i)
        → standing_at (put_at t i r) j ≡ standing_at t j
    stands j l f (yes q) = absurd (true-false (sym f ∙ rw q not-here))
    stands j l f (no q) = ap standing_of (other j l q)

-- ---- a record that is accepted

module _ (t r : List ℕ) (i : ℕ) (accepted : store_of t r ≡ given i) where
  -- the table keeps its length
  pub store_length : length (after_store t r (store_of t r)) ≡ table_size
  store_length = rw accepted (put-length t i r ∙ (store-tells t r i accepted).size)

  -- the record goes to the lowest place that has its number, or, where none has it, to the lowest free one
  pub store-place : (s : Station) → read_of r ≡ given s → (i < places) × IsFor t s.number i
  store-place s g =
      let a = store-tells t r i accepted in
      let x : IsFor t s.number i =
      subst (λ (z : Station). IsFor t z.number i) (sym (read-tells r s g).fields) a.place in
      (for-below t s.number i x, x)

  -- there it stands, and 0 behind it
  pub store_bytes : place_of (after_store t r (store_of t r)) i ≡ r ++ replicate (place_size - length r) 0
  store_bytes =
      let a = store-tells t r i accepted in
      rw accepted (put-place t i r a.size (for-below t _ i a.place) (fits-place r _ a.read))

  -- and so the station that it tells
  pub store-stands : standing_at (after_store t r (store_of t r)) i ≡ Standing.Station (fields_of r)
  store-stands =
      let a = store-tells t r i accepted in
      rw accepted (put-standing t r (fields_of r) i a.size a.read (for-below t _ i a.place))

  -- every other place has its bytes as before
  pub store-rest : (j : ℕ) → j < places → (j ≡ i → ⊥)
      → place_of (after_store t r (store_of t r)) j ≡ place_of t j
  store-rest j l n =
      let a = store-tells t r i accepted in
      rw accepted (put_other t i j r a.size l (fits-place r _ a.read) n)

  -- and this one was not damaged
  pub store-sound : standing_at t i ≡ Standing.Damaged → ⊥
  store-sound = for-sound t (fields_of r).number i (store-tells t r i accepted).place

  -- the number then has the station that the record tells
  pub store_found : (s : Station) → read_of r ≡ given s
      → find_of (after_store t r (store_of t r)) s.number ≡ given s
  store_found s g = rw accepted (put-found t r s i (store-tells t r i accepted).size g (store-place s g).1)

  -- and every other number what it had
  pub store-others : (s : Station) (n : ℕ) → read_of r ≡ given s → (n ≡ s.number → ⊥)
      → find_of (after_store t r (store_of t r)) n ≡ find_of t n
  store-others s n g d =
      rw accepted (put-others t r s i n (store-tells t r i accepted).size g (store-place s g).1 d)

  -- where no number was held by two places, none is
  pub store-once : Once t → Once (after_store t r (store_of t r))
  store-once o n a b h l e f = go (ℕ_discrete a i) (ℕ_discrete b i)
    where
      u : List ℕ
      u = after_store t r (store_of t r)

      before : (j : ℕ) → j < places → (j ≡ i → ⊥) → suits_at u (Sought.Number n) j ≡ true
          → suits_at t (Sought.Number n) j ≡ true
      before j q d g =
          sym (ap (λ (p : List ℕ). suits (Sought.Number n) (standing_of p)) (store-rest j q d)) ∙ g

      only : (j : ℕ) → j < places → suits_at u (Sought.Number n) i ≡ true
          → suits_at u (Sought.Number n) j ≡ true
          → (j ≡ i → ⊥)
          → ⊥
      only j q g k d =
          let x = store-tells t r i accepted in
          let s = fields_of r in
          let m : s.number ≡ n =
          eqb-true s.number n (sym (ap (suits (Sought.Number n)) store-stands) ∙ g) in
          d (for-only t n i o (subst (λ (z : ℕ). IsFor t z i) m x.place) j q (before j q d k))

      go : Dec (a ≡ i) → Dec (b ≡ i) → a ≡ b
      go (yes p) (yes q) = p ∙ sym q
      go (yes p) (no q) = absurd (only b l (subst (λ (j : ℕ). suits_at u (Sought.Number n) j ≡ true) p e) f q)
      go (no p) (yes q) = absurd (only a h (subst (λ (j : ℕ). suits_at u (Sought.Number n) j ≡ true) q f) e p)
      go (no p) (no q) = o n a b h l (before a h p e) (before b l q f)
