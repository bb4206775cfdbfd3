-- A station's settings and their record: two bytes for the length of what follows, the higher first, then the
-- version, the station number (two bytes), run kind, rule set and first page, a byte each; version 2 adds a
-- last allowed page as a byte.
use Rattle.std.specs.Prelude.{ℕ, ◌+◌, ◌/◌, ◌%◌, Bool, not, List, [], ◌∷◌, eqb, leb, ltb, length, get_or, take}
use Rattle.basis.specs.Choice.{pick, both, either}
use Rattle.basis.specs.Lists.{pair_at}
use Rattle.basis.specs.Refusals.{Answer, given, Rule, ◌when◌, first}
use Rattle.image.specs.Hex.{is_rule_set}
use Rattle.stations.specs.declared.station.Station.{Station}

-- version 1, or 2
abbrev pub is_version : ℕ → Bool
is_version v = either (eqb v 1) (eqb v 2)

-- the length of what follows: 6 in version 1, 7 in version 2
abbrev pub follows_of : ℕ → ℕ
follows_of v = pick (eqb v 1) 6 7

-- the last page of the short board: a version 1 record reads as this last page
abbrev pub last_page : ℕ
last_page = 123

-- a field out of range: the number is more than two bytes, the run kind none of 0 reset, 1 jump and 2 hold,
-- the rule set not 1 or 2, a page above 123, or the first page above the last
unfoldable pub out_of_range : Station → Bool
out_of_range s =
    either (leb 65536 s.number)
    (either (ltb 2 s.run)
    (either (not (is_rule_set s.rules))
    (either (ltb last_page s.last.0)
    (ltb s.last.0 s.first.0))))

-- the last page that a record tells
abbrev pub last_of : List ℕ → ℕ
last_of r = pick (eqb (get_or r 2 0) 1) last_page (get_or r 8 0)

-- and the station
abbrev pub fields_of : List ℕ → Station
fields_of r =
    record {
      version = get_or r 2 0;
      number = pair_at r 3;
      run = get_or r 5 0;
      rules = get_or r 6 0;
      first = record { 0 = get_or r 7 0 };
      last = record { 0 = last_of r };
    }

-- why an input is no record: under three bytes; version; length not the version's, cut short or too long, or
-- a field out of range
abbrev pub read_rows : List ℕ → List Rule
read_rows r =
    63 when ltb (length r) 3
    ∷ 62 when not (is_version (get_or r 2 0))
    ∷ 63 when not (eqb (pair_at r 0) (follows_of (get_or r 2 0)))
    ∷ 63 when not (eqb (length r) (2 + pair_at r 0))
    ∷ 63 when out_of_range (fields_of r)
    ∷ []

unfoldable pub read_of : List ℕ → Answer Station
read_of r = first (read_rows r) (given (fields_of r))

-- the version to be written: a station of version 1 stays so if its last page is as it was read
abbrev pub written_version : Station → ℕ
written_version s = pick (both (eqb s.version 1) (eqb s.last.0 last_page)) 1 2

-- the bytes of its record; version 1 ends before the last page
abbrev pub bytes_of : Station → List ℕ
bytes_of s =
    let v = written_version s in
    0 ∷ follows_of v ∷ v ∷ s.number / 256 ∷ s.number % 256 ∷ s.run ∷ s.rules ∷ s.first.0 ∷ s.last.0
    ∷ []

abbrev pub size_of : Station → ℕ
size_of s = 2 + follows_of (written_version s)

unfoldable pub record_bytes : Station → List ℕ
record_bytes s = take (size_of s) (bytes_of s)

-- writing: a buffer too short for that version; an unknown version; a field out of range
unfoldable pub write_of : ℕ → Station → Answer (List ℕ)
write_of room s =
    first
    (20 when ltb room (size_of s)
    ∷ 62 when not (is_version s.version)
    ∷ 63 when out_of_range s
    ∷ [])
    (given (record_bytes s))
