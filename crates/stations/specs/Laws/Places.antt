-- The table's places: their bytes after copying, freeing and putting, and what stands at them.
use Rattle.std.specs.Prelude.{ℕ, zero, suc, ◌+◌, ◌-◌, ◌≤◌, ◌<◌, true, false, List, [], ◌∷◌, ◌++◌, ◌≡◌, refl, eqb, ltb, length, get_or, take, drop, replicate}
use Rattle.std.proofs.Common.{sym, ap, ◌∙◌, arith, eqb-true, ltb-true, ltb-false, length-append, length-drop, drop_of_length-le, ext_get_or, get_or-append-add, get_or-take, get_or-drop, length-take-le, take_at, drop_at}
use Rattle.std.proofs.Math.Nat.{sub-zero, zero-sub, suc-sub-suc}
use Rattle.std.proofs.lemmas.List.{length-replicate}
use Rattle.std.proofs.Math.ListN.{get_or-append}
use Rattle.basis.specs.Laws.Choice.{decide, both_true, true-false}
use Rattle.basis.specs.Laws.Lists.{length-stored, stored-below, stored-above, stored_at, zero-at}
use Rattle.basis.specs.Lists.{overlay, new, copy_of, pair_at}
use Rattle.basis.specs.Refusals.{Answer, refused, given}
use Rattle.stations.specs.Laws.Record.{read-tells, read_length}
use Rattle.stations.specs.Laws.Rows.{freed-length, standing-blank, standing-marred, standing-told}
use Rattle.stations.specs.Station.{is_version, out_of_range, read_of}
use Rattle.stations.specs.Table.{places, place_size, table_size, place_start, place_of, blank, record_length, standing_by, standing_of, standing_at, freed_at, put_at, empty_table}
use Rattle.stations.specs.declared.station.Station.{Station}
use Rattle.stations.specs.declared.table.Standing.{Standing}

-- ---- places

-- a byte of a place is one of the table
place_at : (t : List ℕ) (i k : ℕ) → k < place_size
    → get_or (place_of t i) k 0 ≡ get_or t (place_start i + k) 0
place_at t i k h = get_or-take place_size (drop (place_start i) t) k 0 h ∙ get_or-drop (place_start i) t k 0

-- each place has its size
place-length : (t : List ℕ) (i : ℕ) → length t ≡ table_size → i < places → length (place_of t i) ≡ place_size
place-length t i e h =
    length-take-le place_size (drop (place_start i) t) (rw (length-drop (place_start i) t) (omega arith))

-- a byte of what is laid over a list
overlay-at : (r p : List ℕ) (k : ℕ)
    → (k < length r → get_or (overlay r p) k 0 ≡ get_or r k 0)
    × (length r ≤ k → get_or (overlay r p) k 0 ≡ get_or p k 0)
overlay-at r p k = (
  (λ h. get_or-append r (drop (length r) p) 0 k h),
  (λ h. let e : k ≡ length r + (k - length r) = omega arith in
      ap (λ (j : ℕ). get_or (overlay r p) j 0) e
      ∙ get_or-append-add r (drop (length r) p) (k - length r) 0
      ∙ get_or-drop (length r) p (k - length r) 0
      ∙ ap (λ (j : ℕ). get_or p j 0) (sym e)),
)

-- a place that bytes are copied to has them at its start, and its old rest behind them
copy-place : (t : List ℕ) (i : ℕ) (r : List ℕ) → length t ≡ table_size → i < places → length r ≤ place_size
    → place_of (copy_of t (place_start i) r) i ≡ overlay r (place_of t i)
copy-place t i r e h l =
    let n = place-length (copy_of t (place_start i) r) i (length-stored new t (place_start i) r ∙ e) h in
    let m = place-length t i e h in
    ext_get_or 0 (place_of (copy_of t (place_start i) r) i) (overlay r (place_of t i))
    (n ∙ sym (length-append r _ ∙ rw (length-drop (length r) (place_of t i), m) (omega arith)))
    (λ k q. at k (omega arith))
  where
    at : (k : ℕ) → k < place_size
        → get_or (place_of (copy_of t (place_start i) r) i) k 0 ≡ get_or (overlay r (place_of t i)) k 0
    at k q =
        place_at (copy_of t (place_start i) r) i k q
        ∙ decide (ltb k (length r))
        (λ d. let c = ltb-true k (length r) d in
        stored_at new t (place_start i) r k c (omega arith) ∙ sym ((overlay-at r (place_of t i) k).0 c))
        (λ d. let c = ltb-false k (length r) d in
        stored-above new t (place_start i) r (place_start i + k) (omega arith)
        ∙ sym (place_at t i k q) ∙ sym ((overlay-at r (place_of t i) k).1 c))

-- every other place is as it was
copy-other : (t : List ℕ) (i j : ℕ) (r : List ℕ) → length t ≡ table_size → j < places
    → length r ≤ place_size
    → (j ≡ i → ⊥)
    → place_of (copy_of t (place_start i) r) j ≡ place_of t j
copy-other t i j r e h l n =
    let a = place-length (copy_of t (place_start i) r) j (length-stored new t (place_start i) r ∙ e) h in
    ext_get_or 0 (place_of (copy_of t (place_start i) r) j) (place_of t j) (a ∙ sym (place-length t j e h))
    (λ k q. at k (omega arith))
  where
    at : (k : ℕ) → k < place_size
        → get_or (place_of (copy_of t (place_start i) r) j) k 0 ≡ get_or (place_of t j) k 0
    at k q =
        place_at (copy_of t (place_start i) r) j k q
        ∙ decide (ltb j i)
        (λ d. stored-below new t (place_start i) r (place_start j + k) (omega (arith, ltb-true j i d)))
        (λ d. stored-above new t (place_start i) r (place_start j + k) (omega (arith, ltb-false j i d)))
        ∙ sym (place_at t j k q)

-- a table with a record put in it keeps its length
pub put-length : (t : List ℕ) (i : ℕ) (r : List ℕ) → length (put_at t i r) ≡ length t
put-length t i r = length-stored new (freed_at t i) (place_start i) r ∙ freed-length t i

-- a place that is freed is all 0
pub freed-place : (t : List ℕ) (i : ℕ) → length t ≡ table_size → i < places
    → place_of (freed_at t i) i ≡ replicate place_size 0
freed-place t i e h =
    let n : length (place_of t i) ≤ place_size = omega (arith, place-length t i e h) in
    copy-place t i (replicate place_size 0) e h (omega arith)
    ∙ ap (◌++◌ (replicate place_size 0)) (drop_of_length-le (place_of t i) {i = place_size} n)

-- the other places are as they were
pub freed-other : (t : List ℕ) (i j : ℕ) → length t ≡ table_size → j < places → (j ≡ i → ⊥)
    → place_of (freed_at t i) j ≡ place_of t j
freed-other t i j e h n = copy-other t i j (replicate place_size 0) e h (omega arith) n

-- every place of zeros is all 0
zeros-place : (n j : ℕ) → n ≡ table_size → j < places → place_of (replicate n 0) j ≡ replicate place_size 0
zeros-place n j e h =
    let l = place-length (replicate n 0) j (length-replicate n 0 ∙ e) h in
    ext_get_or 0 (place_of (replicate n 0) j) (replicate place_size 0) l
    (λ k q. place_at (replicate n 0) j k (omega arith) ∙ zero-at n _ ∙ sym (zero-at place_size k))

-- fewer of the same
drop-replicate : (n k x : ℕ) → drop k (replicate n x) ≡ replicate (n - k) x
drop-replicate n zero x = ap (λ (m : ℕ). replicate m x) (sym (sub-zero n))
drop-replicate zero (suc k) x = ap (λ (m : ℕ). replicate m x) (sym (zero-sub (suc k)))
drop-replicate (suc n) (suc k) x =
    drop-replicate n k x ∙ ap (λ (m : ℕ). replicate m x) (sym (suc-sub-suc n k))

-- a place that a record is put in has it at its start, and 0 behind it
pub put-place : (t : List ℕ) (i : ℕ) (r : List ℕ) → length t ≡ table_size → i < places → length r ≤ place_size
    → place_of (put_at t i r) i ≡ r ++ replicate (place_size - length r) 0
put-place t i r e h l =
    copy-place (freed_at t i) i r (freed-length t i ∙ e) h l
    ∙ ap (λ (p : List ℕ). r ++ drop (length r) p) (freed-place t i e h)
    ∙ ap (◌++◌ r) (drop-replicate place_size (length r) 0)

-- and the other places are as they were
pub put_other : (t : List ℕ) (i j : ℕ) (r : List ℕ) → length t ≡ table_size → j < places
    → length r ≤ place_size
    → (j ≡ i → ⊥)
    → place_of (put_at t i r) j ≡ place_of t j
put_other t i j r e h l n =
    copy-other (freed_at t i) i j r (freed-length t i ∙ e) h l n ∙ freed-other t i j e h n

-- ---- standings

-- of bytes that are all 0 each is 0
blank-zero : (p : List ℕ) (k : ℕ) → blank p ≡ true → get_or p k 0 ≡ 0
unfolding blank
blank-zero [] k e = refl
blank-zero (x ∷ p) zero e = eqb-true x 0 (both_true (eqb x 0) (blank p) e).0
blank-zero (x ∷ p) (suc k) e = blank-zero p k (both_true (eqb x 0) (blank p) e).1

-- zeros are all 0
blank-replicate : (n : ℕ) → blank (replicate n 0) ≡ true
unfolding blank
blank-replicate zero = refl
blank-replicate (suc n) = blank-replicate n

-- a place that is all 0 is free
pub standing-free : standing_of (replicate place_size 0) ≡ Standing.Free
standing-free = standing-blank (replicate place_size 0) (blank-replicate place_size)

-- every place of an empty table is free
pub empty-standing : (j : ℕ) → j < places → standing_at empty_table j ≡ Standing.Free
empty-standing j h = ap standing_of (zeros-place table_size j refl h) ∙ standing-free

-- a place with a record at its start and 0 behind it has the record's station
pub standing-record : (r : List ℕ) (s : Station) → read_of r ≡ given s
    → standing_of (r ++ replicate (place_size - length r) 0) ≡ Standing.Station s
standing-record r s e =
    let x = read-tells r s e in
    let l = read_length r s e in
    let z : List ℕ = replicate (place_size - length r) 0 in
    let a : pair_at (r ++ z) 0 ≡ pair_at r 0 =
    rw (get_or-append r z 0 0 (omega arith), get_or-append r z 0 1 (omega arith)) in
    let v : get_or (r ++ z) 2 0 ≡ get_or r 2 0 = get_or-append r z 0 2 (omega arith) in
    let n : record_length (r ++ z) ≡ length r = ap (◌+◌ 2) (a ∙ x.field) ∙ sym x.size in
    let b : blank (r ++ z) ≡ false =
    decide (blank (r ++ z))
    (λ t. absurd (version-some (get_or r 2 0) x.version (sym v ∙ blank-zero (r ++ z) 2 t)))
    (λ t. t) in
    standing-told (r ++ z) b (rw (n, drop_at r z (length r) refl) (blank-replicate (place_size - length r)))
    ∙ rw (n, take_at r z (length r) refl, e)
  where
    version-some : (v : ℕ) → is_version v ≡ true → v ≡ 0 → ⊥
    version-some v e f = true-false (sym e ∙ rw f)

-- a free place has no station
free-station : {s : Station} → Standing.Free ≡ Standing.Station s → ⊥
free-station e = let z : ◌≡◌ {A = ℕ} 0 1 = cc in omega arith

-- nor has a damaged one
pub damaged-station : {s : Station} → Standing.Damaged ≡ Standing.Station s → ⊥
damaged-station e = let z : ◌≡◌ {A = ℕ} 0 1 = cc in omega arith

-- and what is damaged is not free
pub damaged-free : Standing.Damaged ≡ Standing.Free → ⊥
damaged-free e = let z : ◌≡◌ {A = ℕ} 0 1 = cc in omega arith

-- stations that stand alike are alike
station-one : {s x : Station} → Standing.Station s ≡ Standing.Station x → s ≡ x
station-one e = cc

-- what has a station was read
pub standing-read : (p : List ℕ) (s : Station) → standing_of p ≡ Standing.Station s
    → read_of (take (record_length p) p) ≡ given s
standing-read p s e =
    decide (blank p)
    (λ b. absurd (free-station (sym (standing-blank p b) ∙ e)))
    (λ b. decide (blank (drop (record_length p) p))
    (λ c. told (read_of (take (record_length p) p)) (sym (standing-told p b c) ∙ e))
    (λ c. absurd (damaged-station (sym (standing-marred p b c) ∙ e))))
  where
    told : (a : Answer Station) → standing_by a ≡ Standing.Station s → a ≡ given s
    told (refused n) e = absurd (damaged-station e)
    told (given x) e = ap given (station-one e)

-- and so its fields are in range
pub standing-range : (p : List ℕ) (s : Station) → standing_of p ≡ Standing.Station s → out_of_range s ≡ false
standing-range p s e = (read-tells (take (record_length p) p) s (standing-read p s e)).range
