-- The table: 64 places of 16 bytes. A place has a record at its start and 0 behind it; a free one is all 0.
use Rattle.std.specs.Prelude.{◌≡◌, ℕ, zero, suc, ◌+◌, ◌*◌, ◌≤◌, ◌<◌, Option, Some, None, Bool, true, false, not, List, [], ◌∷◌, ◌++◌, eqb, leb, ltb, length, take, drop, replicate}
use Rattle.basis.specs.Choice.{pick, both}
use Rattle.basis.specs.Lists.{pair_at, copy_of}
use Rattle.basis.specs.Refusals.{Answer, refused, given, ◌when◌, first}
use Rattle.runs.specs.Runs.{next}
use Rattle.stations.specs.Station.{fields_of, read_rows, read_of}
use Rattle.stations.specs.declared.station.Station.{Station}
use Rattle.stations.specs.declared.table.Sought.{Sought}
use Rattle.stations.specs.declared.table.Standing.{Standing}

-- up to 64 stations
abbrev pub places : ℕ
places = 64

-- room for the records of later versions too
abbrev pub place_size : ℕ
place_size = 16

-- a table of any other size holds no station
abbrev pub table_size : ℕ
table_size = places * place_size

abbrev pub right_table : List ℕ → Bool
right_table t = eqb (length t) table_size

-- where a place starts, and its bytes
abbrev pub place_start : ℕ → ℕ
place_start i = place_size * i

abbrev pub place_of : List ℕ → ℕ → List ℕ
place_of t i = take place_size (drop (place_start i) t)

-- every byte is 0
unfoldable pub blank : List ℕ → Bool
blank [] = true
blank (x ∷ s) = both (eqb x 0) (blank s)

-- the length of the record at the start of a place, by its length field
abbrev pub record_length : List ℕ → ℕ
record_length p = 2 + pair_at p 0

-- what cannot be read is damaged
abbrev pub standing_by : Answer Station → Standing
standing_by (refused n) = Standing.Damaged
standing_by (given s) = Standing.Station s

-- what is at a place, by its bytes: it is free where all are 0; it has a station where a record stands at its
-- start and all behind it is 0; any other place is damaged
unfoldable pub standing_of : List ℕ → Standing
standing_of p =
    pick (blank p) Standing.Free
    (pick (blank (drop (record_length p) p))
    (standing_by (read_of (take (record_length p) p))) Standing.Damaged)

abbrev pub standing_at : List ℕ → ℕ → Standing
standing_at t i = standing_of (place_of t i)

-- a free place, or one with the station of a number, is sought
abbrev pub suits : Sought → Standing → Bool
suits Sought.Free Standing.Free = true
suits Sought.Free (Standing.Station s) = false
suits Sought.Free Standing.Damaged = false
suits (Sought.Number n) Standing.Free = false
suits (Sought.Number n) (Standing.Station s) = eqb s.number n
suits (Sought.Number n) Standing.Damaged = false

abbrev pub suits_at : List ℕ → Sought → ℕ → Bool
suits_at t w i = suits w (standing_at t i)

-- the lowest such place, or 64 where there is none
abbrev pub lowest_of : List ℕ → Sought → ℕ
lowest_of t w = next (suits_at t w) 0 places

-- what a search for a place gives: place i, or none where i is 64
abbrev pub IsPlace : ℕ → Option ℕ → Type 0
IsPlace i None = places ≤ i
IsPlace i (Some j) = (j ≡ i) × (j < places)

-- looking at a place: 60 for a table of another size, and for a place past 63
unfoldable pub look_of : List ℕ → ℕ → Answer Standing
look_of t i = first (60 when not (right_table t) ∷ 60 when leb places i ∷ []) (given (standing_at t i))

-- listing by place: 60 where no station is
abbrev pub station_in : Answer Standing → Answer Station
station_in (refused n) = refused n
station_in (given Standing.Free) = refused 60
station_in (given (Standing.Station s)) = given s
station_in (given Standing.Damaged) = refused 60

abbrev pub list_of : List ℕ → ℕ → Answer Station
list_of t i = station_in (look_of t i)

-- finding: a number is held by the lowest place with a station of that number
unfoldable pub find_of : List ℕ → ℕ → Answer Station
find_of t n = list_of t (lowest_of t (Sought.Number n))

-- the table with a place free, and with a record in it
abbrev pub freed_at : List ℕ → ℕ → List ℕ
freed_at t i = copy_of t (place_start i) (replicate place_size 0)

abbrev pub put_at : List ℕ → ℕ → List ℕ → List ℕ
put_at t i r = copy_of (freed_at t i) (place_start i) r

-- storing replaces the record of a number that is held; else the lowest free place is used
abbrev pub place_for : List ℕ → ℕ → ℕ
place_for t n =
    pick (ltb (lowest_of t (Sought.Number n)) places) (lowest_of t (Sought.Number n))
    (lowest_of t Sought.Free)

-- and refuses: a table of another size; what is no record; a full table
unfoldable pub store_of : List ℕ → List ℕ → Answer ℕ
store_of t r =
    let i = place_for t (fields_of r).number in
    first (20 when not (right_table t) ∷ read_rows r ++ (61 when leb places i ∷ [])) (given i)

abbrev pub after_store : List ℕ → List ℕ → Answer ℕ → List ℕ
after_store t r (refused n) = t
after_store t r (given i) = put_at t i r

-- deleting frees every place with a station of the number, of f places from i on; 60 where there is none
abbrev pub freed_if : List ℕ → ℕ → ℕ → List ℕ
freed_if t n i = pick (suits_at t (Sought.Number n) i) (freed_at t i) t

unfoldable pub freed_from : List ℕ → ℕ → ℕ → ℕ → List ℕ
freed_from t n i zero = t
freed_from t n i (suc f) = freed_from (freed_if t n i) n (i + 1) f

unfoldable pub delete_of : List ℕ → ℕ → Answer (List ℕ)
delete_of t n =
    first (60 when not (right_table t) ∷ 60 when leb places (lowest_of t (Sought.Number n)) ∷ [])
    (given (freed_from t n 0 places))

-- freeing by place, a damaged one too: 60 where it is free
abbrev pub is_free : List ℕ → ℕ → Bool
is_free t i = suits_at t Sought.Free i

unfoldable pub free_of : List ℕ → ℕ → Answer (List ℕ)
free_of t i =
    first (60 when not (right_table t) ∷ 60 when leb places i ∷ 60 when is_free t i ∷ [])
    (given (freed_at t i))

-- an empty table; 20 for another size
abbrev pub empty_table : List ℕ
empty_table = replicate table_size 0

unfoldable pub empty_of : List ℕ → Answer (List ℕ)
empty_of t = first (20 when not (right_table t) ∷ []) (given empty_table)

-- a refusal leaves the table as it was
abbrev pub table_after : List ℕ → Answer (List ℕ) → List ℕ
table_after t (refused n) = t
table_after t (given u) = u
