-- Laws of the tables: each row, and what is given where no row holds.
use Rattle.std.proofs.lemmas.Bool.{eqb-false, lt-leb}
use Rattle.std.specs.Prelude.{true, false, ◌≡◌, ltb, length, get_or, take, drop, replicate}
use Rattle.std.proofs.Math.Bool.{not}
use Rattle.std.proofs.Math.Path.{refl, ap}
use Rattle.std.proofs.Common.{sym, ◌∙◌, add-one, drop_of_length-le, length-take-le, drop-cons, ℕ, suc, ◌+◌, ◌-◌, ◌≤◌, ◌<◌, List, [], ◌∷◌, ◌++◌, arith, eq-eqb, ne_eqb, eqb-true, lt-ltb, le-ltb, le-leb, leb-true, leb-false}
use Rattle.std.proofs.Math.Dec.{leb}
use Rattle.basis.specs.Choice.{pick}
use Rattle.basis.specs.Laws.Choice.{decide}
use Rattle.basis.specs.Laws.Lists.{length-stored}
use Rattle.basis.specs.Laws.Refusals.{skip, stop, done, apart, refused-one, first_then, alike, through}
use Rattle.basis.specs.Lists.{pair_at, new}
use Rattle.basis.specs.Refusals.{Answer, refused, given, Rule, ◌when◌, first, and_then}
use Rattle.image.specs.Hex.{is_rule_set}
use Rattle.stations.specs.Laws.Record.{follows-most, read-tells, tells-read, tells-write}
use Rattle.stations.specs.Station.{is_version, follows_of, last_page, out_of_range, fields_of, read_rows, read_of, written_version, bytes_of, size_of, record_bytes, write_of}
use Rattle.stations.specs.Table.{places, place_size, table_size, right_table, place_start, blank, record_length, standing_by, standing_of, standing_at, suits_at, lowest_of, look_of, station_in, list_of, find_of, freed_at, place_for, store_of, freed_if, freed_from, delete_of, is_free, free_of, empty_table, empty_of}
use Rattle.stations.specs.declared.station.Station.{Station}
use Rattle.stations.specs.declared.table.Sought.{Sought}
use Rattle.stations.specs.declared.table.Standing.{Standing}

-- ---- a field out of range

module _ (s : Station) where
  pub range-number : 65536 ≤ s.number → true ≡ out_of_range s
  unfolding out_of_range
  range-number l = rw (le-leb 65536 s.number l)

  module _ (p₁ : s.number < 65536) where
    pub range-run : 2 < s.run → true ≡ out_of_range s
    unfolding out_of_range
    range-run l = rw (lt-leb 65536 s.number p₁, lt-ltb 2 s.run l)

    module _ (p₂ : s.run ≤ 2) where
      pub range-rules : is_rule_set s.rules ≡ false → true ≡ out_of_range s
      unfolding out_of_range
      range-rules e = rw (lt-leb 65536 s.number p₁, le-ltb 2 s.run p₂, e)

      module _ (p₃ : is_rule_set s.rules ≡ true) where
        pub range_last : last_page < s.last.0 → true ≡ out_of_range s
        unfolding out_of_range
        range_last l =
            rw (
              lt-leb 65536 s.number p₁,
              le-ltb 2 s.run p₂,
              p₃,
              lt-ltb last_page s.last.0 l,
            )

        pub range-first : s.last.0 ≤ last_page → ltb s.last.0 s.first.0 ≡ out_of_range s
        unfolding out_of_range
        range-first l =
            rw (
              lt-leb 65536 s.number p₁,
              le-ltb 2 s.run p₂,
              p₃,
              le-ltb last_page s.last.0 l,
            )

-- ---- reading a record

module _ (r : List ℕ) where
  pub read_short : length r < 3 → read_of r ≡ refused 63
  unfolding read_of
  read_short l = stop 63 _ _ _ (lt-ltb _ _ l)

  module _ (e₁ : 3 ≤ length r) where
    pub read-version : is_version (get_or r 2 0) ≡ false → read_of r ≡ refused 62
    unfolding read_of
    read-version e = skip 63 _ _ _ (le-ltb _ _ e₁) ∙ stop 62 _ _ _ (ap not e)

    module _ (e₂ : is_version (get_or r 2 0) ≡ true) where
      pub read-field : (pair_at r 0 ≡ follows_of (get_or r 2 0) → ⊥) → read_of r ≡ refused 63
      unfolding read_of
      read-field n =
          skip 63 _ _ _ (le-ltb _ _ e₁) ∙ skip 62 _ _ _ (ap not e₂) ∙ stop 63 _ _ _ (ap not (ne_eqb _ _ n))

      module _ (e₃ : pair_at r 0 ≡ follows_of (get_or r 2 0)) where
        pub read-cut : (length r ≡ 2 + pair_at r 0 → ⊥) → read_of r ≡ refused 63
        unfolding read_of
        read-cut n =
            skip 63 _ _ _ (le-ltb _ _ e₁) ∙ skip 62 _ _ _ (ap not e₂)
            ∙ skip 63 _ _ _ (ap not (eq-eqb _ _ e₃)) ∙ stop 63 _ _ _ (ap not (ne_eqb _ _ n))

        module _ (e₄ : length r ≡ 2 + pair_at r 0) where
          pub read-wrong : out_of_range (fields_of r) ≡ true → read_of r ≡ refused 63
          unfolding read_of
          read-wrong e =
              skip 63 _ _ _ (le-ltb _ _ e₁) ∙ skip 62 _ _ _ (ap not e₂)
              ∙ skip 63 _ _ _ (ap not (eq-eqb _ _ e₃)) ∙ skip 63 _ _ _ (ap not (eq-eqb _ _ e₄))
              ∙ stop 63 _ _ _ e

          pub read_right : out_of_range (fields_of r) ≡ false → read_of r ≡ given (fields_of r)
          read_right e =
              tells-read r (fields_of r)
              (record { fields = refl; version = e₂; field = e₃; size = e₄ ∙ ap (◌+◌ 2) e₃; range = e })

-- ---- writing one

-- a record is as long as its size
pub record-length : (s : Station) → length (record_bytes s) ≡ size_of s
unfolding record_bytes
record-length s = length-take-le (size_of s) (bytes_of s) (omega (arith, follows-most (written_version s)))

-- as code has it
pub record_is : (s : Station) (n : ℕ) (b : List ℕ) → n ≡ size_of s → b ≡ bytes_of s
    → take n b ≡ record_bytes s
unfolding record_bytes
record_is s n b e f = ap (λ (k : ℕ). take k b) e ∙ ap (take (size_of s)) f

module _ (room : ℕ) (s : Station) where
  pub write-small : room < size_of s → write_of room s ≡ refused 20
  unfolding write_of
  write-small l = stop 20 _ _ _ (lt-ltb _ _ l)

  module _ (e₁ : size_of s ≤ room) where
    pub write-version : is_version s.version ≡ false → write_of room s ≡ refused 62
    unfolding write_of
    write-version e = skip 20 _ _ _ (le-ltb _ _ e₁) ∙ stop 62 _ _ _ (ap not e)

    module _ (e₂ : is_version s.version ≡ true) where
      pub write-wrong : out_of_range s ≡ true → write_of room s ≡ refused 63
      unfolding write_of
      write-wrong e = skip 20 _ _ _ (le-ltb _ _ e₁) ∙ skip 62 _ _ _ (ap not e₂) ∙ stop 63 _ _ _ e

      pub write-right : out_of_range s ≡ false → write_of room s ≡ given (record_bytes s)
      write-right e =
          tells-write room s (record_bytes s) (record { fits = e₁; version = e₂; range = e; bytes = refl })

-- ---- what is at a place

-- going through bytes: here one is not 0, or the rest tells, until there is none left
module _ (s : List ℕ) (i : ℕ) where
  pub blank-here : i < length s → (get_or s i 0 ≡ 0 → ⊥) → blank (drop i s) ≡ false
  unfolding blank
  blank-here l n = rw (drop-cons s i 0 l, ne_eqb (get_or s i 0) 0 n)

  pub blank-on : i < length s → get_or s i 0 ≡ 0 → blank (drop i s) ≡ blank (drop (i + 1) s)
  unfolding blank
  blank-on l e = rw (drop-cons s i 0 l, eq-eqb (get_or s i 0) 0 e, add-one)

  pub blank-end : length s ≤ i → blank (drop i s) ≡ true
  unfolding blank
  blank-end l = rw (drop_of_length-le s l)

module _ (p : List ℕ) where
  pub standing-blank : blank p ≡ true → standing_of p ≡ Standing.Free
  unfolding standing_of
  standing-blank e = rw e

  module _ (e₁ : blank p ≡ false) where
    pub standing-marred : blank (drop (record_length p) p) ≡ false → standing_of p ≡ Standing.Damaged
    unfolding standing_of
    standing-marred e = rw (e₁, e)

    pub standing-told : blank (drop (record_length p) p) ≡ true
        → standing_of p ≡ standing_by (read_of (take (record_length p) p))
    unfolding standing_of
    standing-told e = rw (e₁, e)

-- ---- the table

right-table : (t : List ℕ) → length t ≡ table_size → not (right_table t) ≡ false
right-table t e = ap not (eq-eqb _ _ e)

wrong-table : (t : List ℕ) → (length t ≡ table_size → ⊥) → not (right_table t) ≡ true
wrong-table t n = ap not (ne_eqb _ _ n)

-- a table that has no other size has the right one
pub right-size : (t : List ℕ) → ((length t ≡ table_size → ⊥) → ⊥) → length t ≡ table_size
right-size t f =
    decide (right_table t) (λ e. eqb-true (length t) table_size e)
    (λ e. absurd (f (eqb-false (length t) table_size e)))

-- a place that is not past the last is one of the table
pub not-past : (i : ℕ) → (places ≤ i → ⊥) → i < places
not-past i f = decide (leb places i) (λ e. absurd (f (leb-true places i e))) (λ e. leb-false places i e)

module _ (t : List ℕ) (i : ℕ) where
  pub look-size : (length t ≡ table_size → ⊥) → look_of t i ≡ refused 60
  unfolding look_of
  look-size n = stop 60 _ _ _ (wrong-table t n)

  pub free-size : (length t ≡ table_size → ⊥) → free_of t i ≡ refused 60
  unfolding free_of
  free-size n = stop 60 _ _ _ (wrong-table t n)

  -- past the last place nothing is seen, whatever the size
  pub look-past : places ≤ i → look_of t i ≡ refused 60
  unfolding look_of
  look-past l =
      decide (right_table t) (λ e. skip 60 _ _ _ (ap not e) ∙ stop 60 _ _ _ (le-leb _ _ l))
      (λ e. stop 60 _ _ _ (ap not e))

  module _ (e₁ : length t ≡ table_size) where
    pub free-past : places ≤ i → free_of t i ≡ refused 60
    unfolding free_of
    free-past l = skip 60 _ _ _ (right-table t e₁) ∙ stop 60 _ _ _ (le-leb _ _ l)

    module _ (e₂ : i < places) where
      pub look-given : look_of t i ≡ given (standing_at t i)
      unfolding look_of
      look-given = skip 60 _ _ _ (right-table t e₁) ∙ skip 60 _ _ _ (lt-leb _ _ e₂) ∙ done _

      pub free-none : is_free t i ≡ true → free_of t i ≡ refused 60
      unfolding free_of
      free-none e =
          skip 60 _ _ _ (right-table t e₁) ∙ skip 60 _ _ _ (lt-leb _ _ e₂) ∙ stop 60 _ _ _ e

      pub free-given : is_free t i ≡ false → free_of t i ≡ given (freed_at t i)
      unfolding free_of
      free-given e =
          skip 60 _ _ _ (right-table t e₁) ∙ skip 60 _ _ _ (lt-leb _ _ e₂) ∙ skip 60 _ _ _ e ∙ done _

pub find-size : (t : List ℕ) (n : ℕ) → (length t ≡ table_size → ⊥) → find_of t n ≡ refused 60
unfolding find_of
find-size t n e = ap station_in (look-size t _ e)

-- what is not listed, or not found, is 60
list-refused : {k : ℕ} (t : List ℕ) (i : ℕ) → list_of t i ≡ refused k → k ≡ 60
list-refused {k} t i e =
    decide (right_table t)
    (λ r. let l = eqb-true (length t) table_size r in
    decide (leb places i)
    (λ p. refused-one (sym e ∙ ap station_in (look-past t i (leb-true places i p))))
    (λ p. go (standing_at t i) (sym (ap station_in (look-given t i l (leb-false places i p))) ∙ e)))
    (λ r. refused-one (sym e ∙ ap station_in (look-size t i (eqb-false (length t) table_size r))))
  where
    go : (x : Standing) → station_in (given x) ≡ refused k → k ≡ 60
    go Standing.Free e = sym (refused-one e)
    go (Standing.Station s) e = absurd (apart (sym e))
    go Standing.Damaged e = sym (refused-one e)

pub find-refused : {k : ℕ} (t : List ℕ) (n : ℕ) → find_of t n ≡ refused k → k ≡ 60
unfolding find_of
find-refused t n e = list-refused t (lowest_of t (Sought.Number n)) e

module _ (t : List ℕ) (n : ℕ) where
  pub delete-size : (length t ≡ table_size → ⊥) → delete_of t n ≡ refused 60
  unfolding delete_of
  delete-size e = stop 60 _ _ _ (wrong-table t e)

  module _ (e₁ : length t ≡ table_size) where
    pub delete-none : places ≤ lowest_of t (Sought.Number n) → delete_of t n ≡ refused 60
    unfolding delete_of
    delete-none l = skip 60 _ _ _ (right-table t e₁) ∙ stop 60 _ _ _ (le-leb _ _ l)

    pub delete-given : lowest_of t (Sought.Number n) < places
        → delete_of t n ≡ given (freed_from t n 0 places)
    unfolding delete_of
    delete-given l = skip 60 _ _ _ (right-table t e₁) ∙ skip 60 _ _ _ (lt-leb _ _ l) ∙ done _

pub empty-size : (t : List ℕ) → (length t ≡ table_size → ⊥) → empty_of t ≡ refused 20
unfolding empty_of
empty-size t n = stop 20 _ _ _ (wrong-table t n)

pub empty-given : (t : List ℕ) → length t ≡ table_size → empty_of t ≡ given empty_table
unfolding empty_of
empty-given t e = skip 20 _ _ _ (right-table t e) ∙ done _

-- a table with a place freed keeps its length
pub freed-length : (t : List ℕ) (i : ℕ) → length (freed_at t i) ≡ length t
freed-length t i = length-stored new t (place_start i) (replicate place_size 0)

-- freeing each place: one turn, and the end, in the loop's own terms
module _ (t : List ℕ) (n i : ℕ) where
  pub freed-if-length : length (freed_if t n i) ≡ length t
  freed-if-length = decide (suits_at t (Sought.Number n) i) (λ e. rw e (freed-length t i)) (λ e. rw e)

  pub freed-turn : i < places
      → freed_from (freed_if t n i) n (i + 1) (places - (i + 1)) ≡ freed_from t n i (places - i)
  unfolding freed_from
  freed-turn l = let e : places - i ≡ suc (places - (i + 1)) = omega arith in rw e

  pub freed-ended : places ≤ i → freed_from t n i (places - i) ≡ t
  unfolding freed_from
  freed-ended l = let e : places - i ≡ 0 = omega arith in rw e

-- ---- storing: the record's rows, and then whether there is a place

module _ {A : Type 0} where
  -- some rows, then others
  first-append : (l k : List Rule) (r : Answer A) → first (l ++ k) r ≡ first l (first k r)
  unfolding first
  first-append [] k r = refl
  first-append (x ∷ l) k r = ap (pick x.holds (refused x.number)) (first-append l k r)

  -- what they refuse is refused whatever follows
  first-refused : {B : Type 0} {n : ℕ} (l : List Rule) (x : B) (r : Answer A) → first l (given x) ≡ refused n
      → first l r ≡ refused n
  first-refused l x r e =
      first_then l r ∙ ap (λ (a : Answer (Unit {0})). and_then a r) (alike l x tt e)

module _ (t r : List ℕ) where
  pub store-size : (length t ≡ table_size → ⊥) → store_of t r ≡ refused 20
  unfolding store_of
  store-size n = stop 20 _ _ _ (wrong-table t n)

  module _ (e₁ : length t ≡ table_size) where
    pub store-unread : {n : ℕ} → read_of r ≡ refused n → store_of t r ≡ refused n
    unfolding store_of read_of
    store-unread e =
        skip 20 _ _ _ (right-table t e₁) ∙ first-append (read_rows r) _ _
        ∙ first-refused (read_rows r) (fields_of r) _ e

    module _ {s : Station} (e₂ : read_of r ≡ given s) where
      store-read : store_of t r
          ≡ (let i = place_for t s.number in first (61 when leb places i ∷ []) (given i))
      unfolding store_of read_of
      store-read =
          skip 20 _ _ _ (right-table t e₁) ∙ first-append (read_rows r) _ _
          ∙ through (read_rows r) (fields_of r) _ e₂
          ∙ ap (λ (x : Station). let i = place_for t x.number in
          first (61 when leb places i ∷ []) (given i))
          (sym (read-tells r s e₂).fields)

      pub store-none : places ≤ place_for t s.number → store_of t r ≡ refused 61
      store-none l = store-read ∙ stop 61 _ _ _ (le-leb _ _ l)

      pub store_given : place_for t s.number < places → store_of t r ≡ given (place_for t s.number)
      store_given l = store-read ∙ skip 61 _ _ _ (lt-leb _ _ l) ∙ done _
