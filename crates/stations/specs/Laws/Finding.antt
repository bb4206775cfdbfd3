-- Finding: the lowest place that suits, and the station that a number has.
use Rattle.std.specs.Prelude.{ℕ, ◌≤◌, ◌<◌, true, false, List, ◌≡◌, refl, ltb, length}
use Rattle.std.proofs.Common.{sym, ap, ◌∙◌, arith, eq-eqb, eqb-true, ltb-true, ltb-false}
use Rattle.basis.specs.Laws.Choice.{decide, true-false}
use Rattle.basis.specs.Laws.Refusals.{given-one, apart}
use Rattle.basis.specs.Refusals.{Answer, refused, given}
use Rattle.runs.specs.Laws.Runs.{next-pass, next-skip, next_le, next-only}
use Rattle.stations.specs.Laws.Places.{standing-range, empty-standing}
use Rattle.stations.specs.Laws.Rows.{right-size, not-past, look-size, look-past, look-given}
use Rattle.stations.specs.Station.{out_of_range}
use Rattle.stations.specs.Table.{places, table_size, place_of, standing_at, suits, suits_at, lowest_of, look_of, station_in, find_of, empty_table}
use Rattle.stations.specs.declared.station.Station.{Station}
use Rattle.stations.specs.declared.table.Sought.{Sought}
use Rattle.stations.specs.declared.table.Standing.{Standing}

-- ---- seeking

-- the station of a number stands there
pub record Has (n : ℕ) (x : Standing) : Type 0 where
  pub station : Station
  pub stands : x ≡ Standing.Station station
  pub number : station.number ≡ n

-- what suits a number is a station of it
pub suits-has : (n : ℕ) (x : Standing) → suits (Sought.Number n) x ≡ true → Has n x
suits-has n Standing.Free e = absurd (true-false (sym e))
suits-has n (Standing.Station s) e = record { station = s; stands = refl; number = eqb-true s.number n e }
suits-has n Standing.Damaged e = absurd (true-false (sym e))

-- what suits as free is free
pub suits-free : (x : Standing) → suits Sought.Free x ≡ true → x ≡ Standing.Free
suits-free Standing.Free e = refl
suits-free (Standing.Station s) e = absurd (true-false (sym e))
suits-free Standing.Damaged e = absurd (true-false (sym e))

-- the lowest place that suits
pub record Lowest (t : List ℕ) (w : Sought) (i : ℕ) : Type 0 where
  pub below : i < places
  pub fits : suits_at t w i ≡ true
  pub none : (j : ℕ) → j < i → suits_at t w j ≡ false

-- no place suits
abbrev pub NoneSuits : List ℕ → Sought → Type 0
NoneSuits t w = (j : ℕ) → j < places → suits_at t w j ≡ false

module _ (t : List ℕ) (w : Sought) where
  -- the lowest place suits, where there is one
  lowest-suits : lowest_of t w < places → suits_at t w (lowest_of t w) ≡ true
  lowest-suits h = next-pass (suits_at t w) places 0 h

  -- and none below it does
  pub lowest-skips : (j : ℕ) → j < lowest_of t w → suits_at t w j ≡ false
  lowest-skips j h = next-skip (suits_at t w) places 0 j (omega arith) h

  -- it is one of the 64, or 64
  lowest-most : lowest_of t w ≤ places
  lowest-most = next_le (suits_at t w) places 0

  -- nothing else is the lowest place
  pub lowest-is : (i : ℕ) → i < places → suits_at t w i ≡ true → ((j : ℕ) → j < i → suits_at t w j ≡ false)
      → lowest_of t w ≡ i
  lowest-is i h e f =
      next-only (suits_at t w) places 0 i (omega arith) (omega arith) (λ j g l. f j l) (λ l. e)

  -- where none suits there is no lowest
  pub lowest-none : NoneSuits t w → lowest_of t w ≡ places
  lowest-none f =
      next-only (suits_at t w) places 0 places (omega arith) (omega arith) (λ j g l. f j l)
      (λ l. absurd (omega arith))

-- where a place suits, the lowest is one that suits, and no lower one does
pub lowest-tells : (t : List ℕ) (w : Sought) → lowest_of t w < places → Lowest t w (lowest_of t w)
lowest-tells t w h = record { below = h; fits = lowest-suits t w h; none = lowest-skips t w }

-- where the same places suit, the lowest is the same
lowest-same : (t u : List ℕ) (w : Sought) → ((j : ℕ) → j < places → suits_at t w j ≡ suits_at u w j)
    → lowest_of t w ≡ lowest_of u w
lowest-same t u w f =
    next-only (suits_at t w) places 0 (lowest_of u w) (omega arith) (lowest-most u w)
    (λ j g l. f j (omega (arith, lowest-most u w)) ∙ lowest-skips u w j l)
    (λ l. f (lowest_of u w) l ∙ lowest-suits u w l)

-- ---- each number once

-- no number is held by two places
abbrev pub Once : List ℕ → Type 0
Once t =
    (n i j : ℕ) → i < places → j < places
    → suits_at t (Sought.Number n) i ≡ true
    → suits_at t (Sought.Number n) j ≡ true
    → i ≡ j

-- an empty table has no number at all
pub empty-once : Once empty_table
empty-once n i j h l e f = absurd (true-false (sym e ∙ ap (suits (Sought.Number n)) (empty-standing i h)))

-- a table that has a number only where another has it holds none twice if that one holds none twice
pub once-fewer : (t u : List ℕ) → Once t
    → ((n j : ℕ) → j < places → suits_at u (Sought.Number n) j ≡ true → suits_at t (Sought.Number n) j ≡ true)
    → Once u
once-fewer t u o f n i j h l a b = o n i j h l (f n i h a) (f n j l b)

-- ---- finding

-- something is seen: it stands at a place of a table of the right size
record Seen (t : List ℕ) (i : ℕ) (x : Standing) : Type 0 where
  pub size : length t ≡ table_size
  pub below : i < places
  pub stands : standing_at t i ≡ x

-- what looking gives is seen
look-tells : (t : List ℕ) (i : ℕ) (x : Standing) → look_of t i ≡ given x → Seen t i x
look-tells t i x e =
    let s = right-size t (λ n. apart (sym (look-size t i n) ∙ e)) in
    let b = not-past i (λ l. apart (sym (look-past t i l) ∙ e)) in
    record { size = s; below = b; stands = given-one (sym (look-given t i s b) ∙ e) }

-- a number is held by the lowest place with a station of it
pub find-lowest : (t : List ℕ) (n i : ℕ) (s : Station) → length t ≡ table_size → i < places
    → standing_at t i ≡ Standing.Station s
    → s.number ≡ n
    → ((j : ℕ) → j < i → suits_at t (Sought.Number n) j ≡ false)
    → find_of t n ≡ given s
unfolding find_of
find-lowest t n i s e h x g f =
    let y : suits_at t (Sought.Number n) i ≡ true = rw x (eq-eqb s.number n g) in
    rw (lowest-is t (Sought.Number n) i h y f, look-given t i e h, x)

-- a number that no place has is not found
pub find_none : (t : List ℕ) (n : ℕ) → NoneSuits t (Sought.Number n) → find_of t n ≡ refused 60
unfolding find_of
find_none t n f = rw (lowest-none t (Sought.Number n) f, look-past t places (omega arith))

-- a station of a number is found: it stands at the lowest place with that number, and is in range
pub record Found (t : List ℕ) (n : ℕ) (s : Station) : Type 0 where
  pub size : length t ≡ table_size
  pub below : lowest_of t (Sought.Number n) < places
  pub stands : standing_at t (lowest_of t (Sought.Number n)) ≡ Standing.Station s
  pub number : s.number ≡ n
  pub range : out_of_range s ≡ false

-- what finding gives is found
pub find-has : (t : List ℕ) (n : ℕ) (s : Station) → find_of t n ≡ given s → Found t n s
unfolding find_of
find-has t n s e =
    let i = lowest_of t (Sought.Number n) in
    let a = look-tells t i (Standing.Station s) (seen (look_of t i) e) in
    let b = lowest-suits t (Sought.Number n) a.below in
    record {
      size = a.size;
      below = a.below;
      stands = a.stands;
      number = eqb-true s.number n (rw a.stands at b);
      range = standing-range (place_of t i) s a.stands;
    }
  where
    seen : (a : Answer Standing) → station_in a ≡ given s → a ≡ given (Standing.Station s)
    seen (refused m) e = absurd (apart e)
    seen (given Standing.Free) e = absurd (apart e)
    seen (given (Standing.Station x)) e = ap (λ (z : Station). given (Standing.Station z)) (given-one e)
    seen (given Standing.Damaged) e = absurd (apart e)

-- tables in which the same places have a number, with the same stations, give the same station for it
pub find-same : (t u : List ℕ) (n : ℕ) → length t ≡ table_size → length u ≡ table_size
    → ((j : ℕ) → j < places → suits_at t (Sought.Number n) j ≡ suits_at u (Sought.Number n) j)
    → ((j : ℕ) → j < places → suits_at t (Sought.Number n) j ≡ true → standing_at t j ≡ standing_at u j)
    → find_of t n ≡ find_of u n
unfolding find_of
find-same t u n e g f h =
    let w = Sought.Number n in
    let l = lowest-same t u w f in
    decide (ltb (lowest_of t w) places)
    (λ d. let a = ltb-true (lowest_of t w) places d in
    rw (
      ← l,
      look-given t (lowest_of t w) e a,
      look-given u (lowest_of t w) g a,
      h (lowest_of t w) a (lowest-suits t w a),
    ))
    (λ d. let a = ltb-false (lowest_of t w) places d in
    rw (← l, look-past t (lowest_of t w) a, look-past u (lowest_of t w) a))
