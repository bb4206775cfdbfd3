-- A worked start: what is proved of visits is not empty. A table in which one station was stored, its bounds
-- the whole board, starts a session over every file that can be loaded.
use Rattle.std.specs.Prelude.{ℕ, ◌≤◌, false, List, [], ◌∷◌, ◌≡◌, refl, ltb}
use Rattle.std.proofs.Common.{arith, le-ltb}
use Rattle.basis.specs.Board.{opening_byte}
use Rattle.basis.specs.Laws.Choice.{either-false}
use Rattle.basis.specs.Refusals.{given}
use Rattle.basis.specs.declared.kind.RunKind.{RunKind}
use Rattle.packet.specs.Packet.{packet_most}
use Rattle.session.specs.Session.{Loadable, at_greeting}
use Rattle.stations.specs.Laws.Full.{stored_all, plain, plain_from, plain-different, takes-each}
use Rattle.stations.specs.Laws.Storing.{store_found}
use Rattle.stations.specs.Station.{last_page, fields_of, read_of}
use Rattle.stations.specs.Table.{find_of, store_of, after_store, empty_table}
use Rattle.stations.specs.declared.station.Station.{Station}
use Rattle.visit.specs.Laws.Bounds.{none-outside}
use Rattle.visit.specs.Laws.Starting.{visit-starts}
use Rattle.visit.specs.Visit.{station_pages, outside, start_for}

-- station 0 with run kind 0, rule set 1 and first page 0, in a table that was empty
abbrev pub card : List ℕ
card = after_store empty_table (plain 0) (store_of empty_table (plain 0))

station-read : read_of (plain 0) ≡ given (fields_of (plain 0))
unfolding plain_from
station-read = (plain-different 1 (omega arith)).reads 0 (omega arith)

station-stored : store_of empty_table (plain 0) ≡ given 0
unfolding plain_from stored_all
station-stored = takes-each (plain_from 0 1) (plain-different 1 (omega arith)) (omega arith) 0 (omega arith)

station-found : find_of card 0 ≡ given (fields_of (plain 0))
station-found = store_found empty_table (plain 0) 0 station-stored (fields_of (plain 0)) station-read

-- a station whose bounds are the whole board lets every file through
whole-board : (s : Station) (m : List ℕ) → s.first.0 ≡ 0 → s.last.0 ≡ last_page → outside s m ≡ false
whole-board s m f l =
    none-outside s m
    (λ q b t. either-false (ltb q s.first.0) (ltb s.last.0 q) (le-ltb q s.first.0 (omega arith))
    (le-ltb s.last.0 q (omega arith)))

-- so a session for it starts, to reset
pub worked-start : (image m : List ℕ) → Loadable station_pages image m → (room : ℕ) → packet_most ≤ room
    → start_for card 0 image m room
    ≡ given (record { session = at_greeting station_pages m RunKind.Reset; packet = opening_byte ∷ [] })
worked-start image m file room roomy =
    visit-starts card 0 (fields_of (plain 0)) station-found image m file room roomy
    (whole-board (fields_of (plain 0)) m refl refl)
