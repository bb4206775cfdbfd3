-- Laws of the places of a record's bytes: they stand in one row, or in two where a segment wraps.
use Rattle.std.specs.Prelude.{◌≡◌, ℕ, zero, suc, ◌+◌, ◌-◌, ◌%◌, ◌<◌, ◌≤◌, Bool, true, false, not, List, [], ◌∷◌, ◌++◌, length, take, drop, ◌==◌, nat_le, nat_lt}
use Rattle.std.proofs.Math.Path.{refl}
use Rattle.std.proofs.Common.{sym, ap, set, ◌∙◌, zero-add, suc-add, length-drop, length-take-le, take-add, drop-drop, eq-eqb, lt-ltb, le-ltb, le-leb, ltb-true, ltb-false, arith}
use Rattle.std.proofs.Math.Nat.{add-zero}
use Rattle.std.proofs.lemmas.Bool.{lt-leb}
use Rattle.basis.specs.Choice.{pick, both, either, any}
use Rattle.basis.specs.Laws.Choice.{decide, any_none, any_some}
use Rattle.basis.specs.Lists.{stored, copy_of}
use Rattle.image.specs.Hex.{file, place, fed, past_board, named_before, put_each, name_each, placed, base_of, row_of}
use Rattle.image.specs.Record.{count, address, payload}
use Rattle.image.specs.declared.hex.Hex.{Hex}
use Rattle.runs.specs.Map.{named, name_of, any_named, name_all_of}

-- ---- some bytes, then others

any_append : (p : ℕ → Bool) (j m n : ℕ) → any p j (m + n) ≡ either (any p j m) (any p (j + m) n)
unfolding any
any_append p j zero n = rw (zero-add, add-zero)
any_append p j (suc m) n =
    let e : j + suc m ≡ j + 1 + m = omega arith in
    rw (suc-add, any_append p (j + 1) m n, e) (either-assoc (p j) (any p (j + 1) m) (any p (j + 1 + m) n))
  where
    either-assoc : (a b c : Bool) → either a (either b c) ≡ either (either a b) c
    either-assoc true b c = refl
    either-assoc false b c = refl

module _ (at : ℕ → ℕ) where
  put-append : (image : List ℕ) (j : ℕ) (s t : List ℕ)
      → put_each at image j (s ++ t) ≡ put_each at (put_each at image j s) (j + length s) t
  unfolding put_each
  put-append image j [] t = rw add-zero
  put-append image j (x ∷ s) t =
      let e : j + length (x ∷ s) ≡ j + 1 + length s = omega arith in
      rw e (put-append (set image (at j) x) (j + 1) s t)

  name-append : (map : List ℕ) (j m n : ℕ)
      → name_each at map j (m + n) ≡ name_each at (name_each at map j m) (j + m) n
  unfolding name_each
  name-append map j zero n = rw (zero-add, add-zero)
  name-append map j (suc m) n =
      let e : j + suc m ≡ j + 1 + m = omega arith in
      rw (suc-add, e) (name-append (name_of map (at j)) (j + 1) m n)

  -- ---- places that stand in a row: from the j-th on they are those from a on

  abbrev Row : ℕ → ℕ → ℕ → Type 0
  Row j a n = (i : ℕ) → i < n → at (j + i) ≡ a + i

  row_here : (j a n : ℕ) → Row j a (suc n) → at j ≡ a
  row_here j a n r = rw (add-zero j, add-zero a) at (r 0 (omega arith))

  row_on : (j a n : ℕ) → Row j a (suc n) → Row (j + 1) (a + 1) n
  row_on j a n r i l =
      let e : j + suc i ≡ j + 1 + i = omega arith in
      let f : a + suc i ≡ a + 1 + i = omega arith in
      rw (e, f) at (r (suc i) (omega arith))

  any-row : (p : ℕ → Bool) (j a n : ℕ) → Row j a n → any (λ (i : ℕ). p (at i)) j n ≡ any p a n
  unfolding any
  any-row p j a zero r = refl
  any-row p j a (suc n) r = rw (row_here j a n r, any-row p (j + 1) (a + 1) n (row_on j a n r))

  put-row : (image : List ℕ) (j a : ℕ) (s : List ℕ) → Row j a (length s)
      → put_each at image j s ≡ copy_of image a s
  unfolding put_each stored
  put-row image j a [] r = refl
  put-row image j a (x ∷ s) r =
      rw (row_here j a (length s) r) (put-row (set image a x) (j + 1) (a + 1) s (row_on j a (length s) r))

  name-row : (map : List ℕ) (j a n : ℕ) → Row j a n → name_each at map j n ≡ name_all_of map a n
  unfolding name_each name_all_of
  name-row map j a zero r = refl
  name-row map j a (suc n) r =
      rw (row_here j a n r) (name-row (name_of map a) (j + 1) (a + 1) n (row_on j a n r))

-- of the n places from a on one lies past the board where the last does
any-past : (size a n : ℕ) → any (nat_le size) a n ≡ both (nat_lt 0 n) (nat_lt size (a + n))
any-past size a n =
    decide (nat_lt 0 n)
    (λ s. decide (nat_lt size (a + n))
    (λ e. rw (s, e) (any_some (nat_le size) a n (n - 1) (omega (arith, ltb-true 0 n s))
    (le-leb size (a + (n - 1)) (omega (arith, ltb-true 0 n s, ltb-true size (a + n) e)))))
    (λ e. rw (s, e) (any_none (nat_le size) a n
    (λ j l. lt-leb size (a + j) (omega (arith, ltb-false size (a + n) e))))))
    (λ s. rw s (any_none (nat_le size) a n (λ j l. absurd (omega (arith, ltb-false 0 n s)))))

-- where a second row ends no higher than the first, the first decides
first-decides : (size near row base rest n : ℕ) → row + rest ≡ n
    → (0 < n → 0 < row)
    → base + rest ≤ near + row
    → either (both (nat_lt 0 row) (nat_lt size (near + row)))
    (both (nat_lt 0 rest) (nat_lt size (base + rest)))
    ≡ both (nat_lt 0 n) (nat_lt size (near + row))
first-decides size near row base rest n e some low =
    decide (nat_lt 0 n)
    (λ s. rw (s, lt-ltb 0 row (some (ltb-true 0 n s)))
    (decide (nat_lt size (near + row)) (λ t. rw t)
    (λ t. rw t (decide (nat_lt 0 rest)
    (λ q. rw (
      q,
      le-ltb size (base + rest)
          (omega (arith, ltb-false size (near + row) t)),
    ))
    (λ q. rw q)))))
    (λ s. let r : row ≡ 0 = omega (arith, ltb-false 0 n s) in
    let t : rest ≡ 0 = omega (arith, ltb-false 0 n s) in
    rw (s, r, t))

-- ---- the two rows of a record, by the rule set and by what governs

module _ (linear segment offset n : ℕ) where
  abbrev place_by : Bool → Bool → ℕ → ℕ
  place_by one under i =
      pick one (linear + segment + offset + i)
      (pick under (segment + (offset + i) % 65536) (linear + offset + i))

  abbrev base_by : Bool → Bool → ℕ
  base_by one under = pick one (linear + segment) (pick under segment linear)

  abbrev row_by : Bool → Bool → ℕ
  row_by one under = pick (both (not one) (both under (nat_lt (65536 - offset) n))) (65536 - offset) n

  near_by : (one under : Bool) (i : ℕ) → offset < 65536 → i < row_by one under
      → place_by one under i ≡ base_by one under + offset + i
  near_by true under i o l = refl
  near_by false false i o l = refl
  near_by false true i o l =
      decide (nat_lt (65536 - offset) n)
      (λ e. let m : i < 65536 - offset = rw e at l in omega arith)
      (λ e. let m : i < n = rw e at l in omega (arith, ltb-false (65536 - offset) n e))

  back_by : (one under : Bool) (i : ℕ) → offset < 65536 → n ≤ 65536 → i < n - row_by one under
      → place_by one under (row_by one under + i) ≡ base_by one under + i
  back_by true under i o few l = absurd (omega arith)
  back_by false false i o few l = absurd (omega arith)
  back_by false true i o few l =
      decide (nat_lt (65536 - offset) n)
      (λ e. let m : i < n - (65536 - offset) = rw e at l in rw e (omega arith))
      (λ e. let m : i < n - n = rw e at l in absurd (omega arith))

  -- no row is longer than the bytes, and the first has one where there are any
  row-few : (one under : Bool) → row_by one under ≤ n
  row-few true under = omega arith
  row-few false false = omega arith
  row-few false true =
      decide (nat_lt (65536 - offset) n) (λ e. rw e (omega (arith, ltb-true (65536 - offset) n e)))
      (λ e. rw e (omega arith))

  row-some : (one under : Bool) → offset < 65536 → 0 < n → 0 < row_by one under
  row-some true under o s = s
  row-some false false o s = s
  row-some false true o s =
      decide (nat_lt (65536 - offset) n) (λ e. rw e (omega arith)) (λ e. rw e s)

  -- where a second row is, the first ends with the segment
  row-end : (one under : Bool) → offset < 65536 → row_by one under < n → offset + row_by one under ≡ 65536
  row-end true under o l = absurd (omega arith)
  row-end false false o l = absurd (omega arith)
  row-end false true o l =
      decide (nat_lt (65536 - offset) n) (λ e. rw e (omega arith))
      (λ e. let m : n < n = rw e at l in absurd (omega arith))

module _ (h : Hex) (b : List ℕ) where
  -- the first row, and how many bytes are left for the second, which starts at the base
  abbrev pub near : ℕ
  near = base_of h + address b

  abbrev pub row : ℕ
  row = row_of h (address b) (count b)

  abbrev pub rest : ℕ
  rest = count b - row

  -- their bytes
  abbrev pub near_bytes : List ℕ
  near_bytes = take row (drop 4 b)

  abbrev pub rest_bytes : List ℕ
  rest_bytes = take rest (drop (4 + row) b)

  abbrev one : Bool
  one = h.rules == 1

  short : row ≤ count b
  short = row-few h.linear h.segment (address b) (count b) one h.segmented

  both-rows : row + rest ≡ count b
  both-rows = omega (arith, short)

  module _ (long : length b ≡ 5 + count b) where
    pub near-length : length near_bytes ≡ row
    near-length = length-take-le row (drop 4 b) (omega (arith, short, length-drop 4 b))

    pub rest-length : length rest_bytes ≡ rest
    rest-length =
        length-take-le rest (drop (4 + row) b) (omega (arith, short, length-drop (4 + row) b))

  payload-rows : payload b ≡ near_bytes ++ rest_bytes
  payload-rows =
      ap (λ (n : ℕ). take n (drop 4 b)) (sym both-rows)
      ∙ take-add row rest (drop 4 b)
      ∙ rw (drop-drop row 4 b)

  module _ (o : address b < 65536) (few : count b ≤ 65536) where
    first-row : Row (place h b) 0 near row
    first-row i l =
        rw zero-add (near_by h.linear h.segment (address b) (count b) one h.segmented i o l)

    second-row : Row (place h b) row (base_of h) rest
    second-row i l =
        back_by h.linear h.segment (address b) (count b) one h.segmented i o few l

    -- the second row ends no higher than the first
    pub rest-low : base_of h + rest ≤ near + row
    rest-low =
        decide (nat_lt row (count b))
        (λ e. omega (
          arith,
          row-end h.linear h.segment (address b) (count b) one h.segmented o
              (ltb-true row (count b) e),
        ))
        (λ e. omega (arith, ltb-false row (count b) e))

    -- 29: the first row's end decides
    pub past-rows : (size : ℕ) → past_board size h b ≡ both (nat_lt 0 (count b)) (nat_lt size (near + row))
    past-rows size =
        ap (any (λ (i : ℕ). nat_le size (place h b i)) 0) (sym both-rows)
        ∙ any_append (λ (i : ℕ). nat_le size (place h b i)) 0 row rest
        ∙ rw (
          any-row (place h b) (nat_le size) 0 near row first-row,
          zero-add row,
          any-row (place h b) (nat_le size) row (base_of h) rest second-row,
          any-past size near row,
          any-past size (base_of h) rest,
        )
        (first-decides size near row (base_of h) rest (count b) both-rows
        (row-some h.linear h.segment (address b) (count b) one h.segmented o) rest-low)

    -- 30: a place of either row
    pub named-rows : (map : List ℕ)
        → named_before h b map ≡ either (any_named map near row) (any_named map (base_of h) rest)
    named-rows map =
        ap (any (λ (i : ℕ). named map (place h b i)) 0) (sym both-rows)
        ∙ any_append (λ (i : ℕ). named map (place h b i)) 0 row rest
        ∙ rw (
          any-row (place h b) (named map) 0 near row first-row,
          zero-add row,
          any-row (place h b) (named map) row (base_of h) rest second-row,
        )

    -- what is stored and what is named: the first row, then the second
    pub put-rows : length b ≡ 5 + count b → (image : List ℕ)
        → put_each (place h b) image 0 (payload b)
        ≡ copy_of (copy_of image near near_bytes) (base_of h) rest_bytes
    put-rows long image =
        ap (put_each (place h b) image 0) payload-rows
        ∙ put-append (place h b) image 0 near_bytes rest_bytes
        ∙ rw (near-length long, zero-add row)
        (put-row (place h b) _ row (base_of h) rest_bytes (rw (rest-length long) second-row)
        ∙ ap (λ (x : List ℕ). copy_of x (base_of h) rest_bytes)
        (put-row (place h b) image 0 near near_bytes (rw (near-length long) first-row)))

    pub name-rows : (map : List ℕ)
        → name_each (place h b) map 0 (count b) ≡ name_all_of (name_all_of map near row) (base_of h) rest
    name-rows map =
        ap (name_each (place h b) map 0) (sym both-rows)
        ∙ name-append (place h b) map 0 row rest
        ∙ rw (name-row (place h b) map 0 near row first-row, zero-add row)
        (name-row (place h b) _ row (base_of h) rest second-row)

-- ---- places that stand in one row from a on, as the paper has them

module _ (h : Hex) (b : List ℕ) (a : ℕ) (run : (i : ℕ) → place h b i ≡ a + i) where
  in_row : (n : ℕ) → Row (place h b) 0 a n
  in_row n i l = rw zero-add (run i)

  -- BB above 0 and place + BB above the board
  pub past-run : (size : ℕ) → past_board size h b ≡ both (nat_lt 0 (count b)) (nat_lt size (a + count b))
  past-run size =
      any-row (place h b) (nat_le size) 0 a (count b) (in_row (count b)) ∙ any-past size a (count b)

  -- a place named before
  pub named-run : (map : List ℕ) → named_before h b map ≡ any_named map a (count b)
  named-run map = any-row (place h b) (named map) 0 a (count b) (in_row (count b))

  -- the bytes from place a on
  pub placed-run : (image map : List ℕ)
      → placed h b image map
      ≡ file (fed h (count b)) (copy_of image a (payload b)) (name_all_of map a (count b))
  placed-run image map =
      rw (
        put-row (place h b) image 0 a (payload b) (in_row (length (payload b))),
        name-row (place h b) map 0 a (count b) (in_row (count b)),
      )

-- In rule set 1 all records have them so, whatever governs: 29, 30 and the effect are the paper's, by the
-- place linear base + segment base + AAAA.
pub first-set : (size : ℕ) (h : Hex) (b image map : List ℕ) → h.rules ≡ 1
    → let a = h.linear + h.segment + address b in
    (past_board size h b ≡ both (nat_lt 0 (count b)) (nat_lt size (a + count b)))
    × (named_before h b map ≡ any_named map a (count b))
    × (placed h b image map
    ≡ file (fed h (count b)) (copy_of image a (payload b)) (name_all_of map a (count b)))
first-set size h b image map e =
    let a = h.linear + h.segment + address b in
    let run : (i : ℕ) → place h b i ≡ a + i = λ i. rw (eq-eqb h.rules 1 e) refl in
    (past-run h b a run size, named-run h b a run map, placed-run h b a run image map)
