-- An empty table takes 64 records of different numbers, then no other number, and one more after a deletion.
use Rattle.std.specs.Prelude.{ℕ, zero, suc, ◌+◌, ◌≤◌, ◌<◌, true, false, List, [], ◌∷◌, ◌++◌, ◌≡◌, refl, ltb, length, get_or, take}
use Rattle.std.proofs.Common.{inr, sym, ap, subst, ◌∙◌, arith, eq-eqb, ne_eqb, ltb-true, ltb-false, take-suc}
use Rattle.std.proofs.Math.Decide.{ℕ_discrete}
use Rattle.std.proofs.lemmas.List.{length-replicate}
use Rattle.std.proofs.Math.Seq.{take-length}
use Rattle.basis.specs.Laws.Choice.{decide}
use Rattle.basis.specs.Refusals.{refused, given}
use Rattle.stations.specs.Laws.Deleting.{delete-length, delete-frees, delete-keeps}
use Rattle.stations.specs.Laws.Finding.{NoneSuits, Lowest, lowest-is}
use Rattle.stations.specs.Laws.Places.{empty-standing}
use Rattle.stations.specs.Laws.Record.{ranges_in, tells-read}
use Rattle.stations.specs.Laws.Rows.{delete-given}
use Rattle.stations.specs.Laws.Storing.{IsFor, store_at, store-stands, store-full, store_length, store-rest}
use Rattle.stations.specs.Station.{fields_of, read_of}
use Rattle.stations.specs.Table.{places, table_size, standing_of, standing_at, suits, suits_at, store_of, after_store, freed_from, delete_of, empty_table}
use Rattle.stations.specs.declared.station.Station.{Station}
use Rattle.stations.specs.declared.table.Sought.{Sought}
use Rattle.stations.specs.declared.table.Standing.{Standing}

-- a table after each of some records was stored in turn
unfoldable pub stored_all : List ℕ → List (List ℕ) → List ℕ
stored_all t [] = t
stored_all t (r ∷ rs) = stored_all (after_store t r (store_of t r)) rs

-- some, then one more
stored_more : (t : List ℕ) (rs : List (List ℕ)) (r : List ℕ)
    → stored_all t (rs ++ (r ∷ []))
    ≡ after_store (stored_all t rs) r (store_of (stored_all t rs) r)
unfolding stored_all
stored_more t [] r = refl
stored_more t (x ∷ rs) r = stored_more (after_store t x (store_of t x)) rs r

-- the j-th record
abbrev pub record_at : List (List ℕ) → ℕ → List ℕ
record_at rs j = get_or rs j []

-- the station that it tells
abbrev pub station_at : List (List ℕ) → ℕ → Station
station_at rs j = fields_of (record_at rs j)

-- records that can be read, of different numbers
pub record Different (rs : List (List ℕ)) : Type 0 where
  pub reads : (j : ℕ) → j < length rs → read_of (record_at rs j) ≡ given (station_at rs j)
  pub apart : (i j : ℕ) → i < length rs → j < length rs → (i ≡ j → ⊥)
      → (station_at rs i).number ≡ (station_at rs j).number
      → ⊥

-- a table with the first k of the records at its first k places, and the other places free
pub record Filled (t : List ℕ) (rs : List (List ℕ)) (k : ℕ) : Type 0 where
  pub size : length t ≡ table_size
  pub has : (j : ℕ) → j < k → standing_at t j ≡ Standing.Station (station_at rs j)
  pub free : (j : ℕ) → k ≤ j → j < places → standing_at t j ≡ Standing.Free

-- an empty table is free at every place
empty-filled : (rs : List (List ℕ)) → Filled empty_table rs 0
empty-filled rs =
    record {
      size = length-replicate {A = ℕ} table_size 0;
      has = λ j l. absurd (omega arith);
      free = λ j g l. empty-standing j l;
    }

module _ (t : List ℕ) (rs : List (List ℕ)) (k : ℕ) (x : Filled t rs k) where
  -- no place has a number that is none of theirs
  filled_none : (n : ℕ) → ((j : ℕ) → j < k → (station_at rs j).number ≡ n → ⊥)
      → NoneSuits t (Sought.Number n)
  filled_none n f j h =
      decide (ltb j k)
      (λ d. let l = ltb-true j k d in
      ap (suits (Sought.Number n)) (x.has j l) ∙ ne_eqb (station_at rs j).number n (f j l))
      (λ d. ap (suits (Sought.Number n)) (x.free j (ltb-false j k d) h))

  -- a record of such a number goes to the first free place
  filled-for : (n : ℕ) → k < places → ((j : ℕ) → j < k → (station_at rs j).number ≡ n → ⊥) → IsFor t n k
  filled-for n h f =
      inr (
        filled_none n f,
        record {
          below = h;
          fits = ap (suits Sought.Free) (x.free k (omega arith) h);
          none = λ j l. ap (suits Sought.Free) (x.has j l);
        },
      )

  module _ (d : Different rs) (l : k < length rs) (h : k < places) where
    -- the next of the records goes to the next place
    filled-store : store_of t (record_at rs k) ≡ given k
    filled-store =
        store_at t (record_at rs k) (station_at rs k) k x.size (d.reads k l)
        (filled-for (station_at rs k).number h
        (λ j q e. d.apart j k (omega arith) l (λ p. omega arith) e))

    -- and stands there
    filled_next : Filled (after_store t (record_at rs k) (store_of t (record_at rs k))) rs (suc k)
    filled_next =
        record {
          size = store_length t (record_at rs k) k filled-store;
          has = λ j q. has j q (ℕ_discrete j k);
          free = λ j g q. ap standing_of (store-rest t (record_at rs k) k filled-store j q (λ p. omega arith))
              ∙ x.free j (omega arith) q;
        }
      where
        has : (j : ℕ) → j < suc k → Dec (j ≡ k)
            → standing_at (after_store t (record_at rs k) (store_of t (record_at rs k))) j
            ≡ Standing.Station (station_at rs j)
        has j q (yes p) =
            rw p (store-stands t (record_at rs k) k filled-store)
        has j q (no p) =
            ap standing_of (store-rest t (record_at rs k) k filled-store j (omega arith) p)
            ∙ x.has j (omega arith)

-- an empty table takes the first k of the records, one place after the other
pub filled : (rs : List (List ℕ)) → Different rs → (k : ℕ) → k ≤ length rs → k ≤ places
    → Filled (stored_all empty_table (take k rs)) rs k
unfolding stored_all
filled rs d zero l h = empty-filled rs
filled rs d (suc k) l h =
    let t = stored_all empty_table (take k rs) in
    let r = record_at rs k in
    let e : stored_all empty_table (take (suc k) rs) ≡ after_store t r (store_of t r) =
    ap (stored_all empty_table) (take-suc rs k [] l) ∙ stored_more empty_table (take k rs) r in
    subst (λ (u : List ℕ). Filled u rs (suc k)) (sym e)
    (filled_next t rs k (filled rs d k (omega arith) (omega arith)) d l h)

-- each of up to 64 records is accepted, at the place of its turn
pub takes-each : (rs : List (List ℕ)) → Different rs → length rs ≤ places → (k : ℕ) → k < length rs
    → store_of (stored_all empty_table (take k rs)) (record_at rs k) ≡ given k
takes-each rs d h k l =
    filled-store (stored_all empty_table (take k rs)) rs k (filled rs d k (omega arith) (omega arith)) d l
    (omega arith)

-- a number is deleted, and the table that is left takes a record at a place
pub record TakesOne (t : List ℕ) (n : ℕ) (r : List ℕ) (i : ℕ) : Type 0 where
  pub left : List ℕ
  pub deleted : delete_of t n ≡ given left
  pub stored : store_of left r ≡ given i

module _ (rs : List (List ℕ)) (d : Different rs) (e : length rs ≡ places) where
  -- after all 64 every place has its record
  pub all-filled : Filled (stored_all empty_table rs) rs places
  all-filled =
      subst (λ (l : List (List ℕ)). Filled (stored_all empty_table l) rs places)
      (ap (λ (n : ℕ). take n rs) (sym e) ∙ take-length rs)
      (filled rs d places (omega arith) (omega arith))

  module _ (r : List ℕ) (s : Station) (reads : read_of r ≡ given s)
      (other : (j : ℕ) → j < places → (station_at rs j).number ≡ s.number → ⊥) where
    -- no other number is taken
    pub full_refuses : store_of (stored_all empty_table rs) r ≡ refused 61
    full_refuses =
        store-full (stored_all empty_table rs) r s all-filled.size reads
        (filled_none (stored_all empty_table rs) rs places all-filled s.number other)
        (λ j h. ap (suits Sought.Free) (all-filled.has j h))

    -- after a deletion it is, at the place that became free
    pub takes-after : (i : ℕ) → i < places
        → TakesOne (stored_all empty_table rs) (station_at rs i).number r i
    takes-after i h =
        record {
          left = u;
          deleted = gone;
          stored = store_at u r s i (delete-length t n u gone) reads (inr (absent, lowest));
        }
      where
        t : List ℕ
        t = stored_all empty_table rs

        n : ℕ
        n = (station_at rs i).number

        u : List ℕ
        u = freed_from t n 0 places

        here : suits_at t (Sought.Number n) i ≡ true
        here = ap (suits (Sought.Number n)) (all-filled.has i h) ∙ eq-eqb n n refl

        lower : (j : ℕ) → j < i → suits_at t (Sought.Number n) j ≡ false
        lower j q =
            ap (suits (Sought.Number n)) (all-filled.has j (omega arith))
            ∙ ne_eqb (station_at rs j).number n (d.apart j i (omega arith) (omega arith) (λ p. omega arith))

        gone : delete_of t n ≡ given u
        gone =
            delete-given t n all-filled.size (rw (lowest-is t (Sought.Number n) i h here lower) h)

        absent : NoneSuits u (Sought.Number s.number)
        absent j q =
            decide (suits_at t (Sought.Number n) j)
            (λ c. ap (suits (Sought.Number s.number)) (delete-frees t n u gone j q c))
            (λ c. ap (suits (Sought.Number s.number))
            (delete-keeps t n u gone j q c ∙ all-filled.has j q)
            ∙ ne_eqb (station_at rs j).number s.number (other j q))

        lowest : Lowest u Sought.Free i
        lowest =
            record {
              below = h;
              fits = ap (suits Sought.Free) (delete-frees t n u gone i h here);
              none = λ j q. ap (suits Sought.Free)
                  (delete-keeps t n u gone j (omega arith) (lower j q) ∙ all-filled.has j (omega arith));
            }

-- ---- there are such records

-- a record of version 1 with a number below 256, run kind 0, rule set 1 and first page 0
abbrev pub plain : ℕ → List ℕ
plain k = 0 ∷ 6 ∷ 1 ∷ 0 ∷ k ∷ 0 ∷ 1 ∷ 0 ∷ []

-- n of them, from number i on
unfoldable pub plain_from : ℕ → ℕ → List (List ℕ)
plain_from i zero = []
plain_from i (suc n) = plain i ∷ plain_from (suc i) n

-- they are n
plain-length : (n i : ℕ) → length (plain_from i n) ≡ n
unfolding plain_from
plain-length zero i = refl
plain-length (suc n) i = ap suc (plain-length n (suc i))

-- each has its number
plain-at : (n i j : ℕ) → j < n → record_at (plain_from i n) j ≡ plain (i + j)
unfolding plain_from
plain-at zero i j h = absurd (omega arith)
plain-at (suc n) i zero h = ap plain (omega arith)
plain-at (suc n) i (suc j) h = plain-at n (suc i) j (omega arith) ∙ ap plain (omega arith)

-- each can be read
plain-reads : (k : ℕ) → k < 256 → read_of (plain k) ≡ given (fields_of (plain k))
plain-reads k h =
    tells-read (plain k) (fields_of (plain k))
    (record {
      fields = refl;
      version = refl;
      field = refl;
      size = refl;
      range = ranges_in (fields_of (plain k))
          (record {
            number = omega arith;
            run = omega arith;
            rules = refl;
            last = omega arith;
            first = omega arith;
          });
    })

-- the number of each is its place in the list
plain-number : (n j : ℕ) → j < n → (station_at (plain_from 0 n) j).number ≡ j
plain-number n j l = ap (λ (r : List ℕ). (fields_of r).number) (plain-at n 0 j l) ∙ omega arith

-- up to 256 of them are readable and of different numbers
pub plain-different : (n : ℕ) → n ≤ 256 → Different (plain_from 0 n)
plain-different n h =
    record {
      reads = λ j l. rw (plain-at n 0 j (below l)) (plain-reads (0 + j) (omega (arith, below l)));
      apart = λ i j l m q e. q (sym (plain-number n i (below l)) ∙ e ∙ plain-number n j (below m));
    }
  where
    below : {j : ℕ} → j < length (plain_from 0 n) → j < n
    below l = omega (arith, plain-length n 0)

-- numbers 0 to 63 fill a table, and 64 is refused
pub plain-full : store_of (stored_all empty_table (plain_from 0 places)) (plain places) ≡ refused 61
plain-full =
    full_refuses (plain_from 0 places) (plain-different places (omega arith)) (plain-length places 0)
    (plain places) (fields_of (plain places)) (plain-reads places (omega arith))
    (λ j h e. omega (arith, plain-number places j h))
