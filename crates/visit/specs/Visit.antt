-- For a station: its file opened under its rule set, its session started with its run kind and in its bounds.
use Rattle.std.specs.Prelude.{ℕ, Bool, not, List, [], ◌∷◌, eqb, ltb, length}
use Rattle.basis.specs.Board.{pages_of}
use Rattle.basis.specs.Choice.{both, either, any}
use Rattle.basis.specs.Refusals.{Answer, refused, given, ◌when◌, first}
use Rattle.basis.specs.RunKinds.{kind_of}
use Rattle.basis.specs.Units.{start_of}
use Rattle.basis.specs.declared.board.Board.{Board}
use Rattle.image.specs.Hex.{File, start_in}
use Rattle.order.specs.Sizes.{right_sizes}
use Rattle.runs.specs.Pages.{touched}
use Rattle.runs.specs.Pieces.{named_count}
use Rattle.session.specs.Session.{Sent, started}
use Rattle.stations.specs.Table.{find_of}
use Rattle.stations.specs.declared.station.Station.{Station}

-- stations stay with the short board
abbrev pub station_pages : ℕ
station_pages = pages_of Board.Short

-- 60 where the table holds no such station, else as told for it
abbrev pub for_station : {A : Type 0} → Answer Station → (Station → Answer A) → Answer A
for_station (refused n) f = refused n
for_station (given s) f = f s

-- open: 60, then 20 and the hex reader of its rule set
abbrev pub open_for : List ℕ → ℕ → List ℕ → List ℕ → Answer File
open_for t n image m =
    for_station (find_of t n) (λ (s : Station). start_in (start_of station_pages) s.rules image m)

-- a page outside the station's bounds: below first, or above last
abbrev pub beyond : Station → ℕ → Bool
beyond s q = either (ltb q s.first.0) (ltb s.last.0 q)

-- a touched page lies outside them
unfoldable pub outside : Station → List ℕ → Bool
outside s m = any (λ (q : ℕ). both (touched m q) (beyond s q)) 0 station_pages

-- start at a station: 20, 32, then 64, else exactly the session of start with the station's run kind
unfoldable pub start_at : Station → List ℕ → List ℕ → ℕ → Answer Sent
start_at s image m room =
    first
    (20 when not (right_sizes station_pages (length image) (length m) room)
    ∷ 32 when eqb (named_count station_pages m) 0
    ∷ 64 when outside s m ∷ [])
    (started station_pages image m room (kind_of s.run))

-- start: 60, then that
abbrev pub start_for : List ℕ → ℕ → List ℕ → List ℕ → ℕ → Answer Sent
start_for t n image m room = for_station (find_of t n) (λ (s : Station). start_at s image m room)
