-- A load by a session that was started for a station.
use Rattle.std.specs.Prelude.{ℕ, true, List, ◌≡◌}
use Rattle.basis.specs.Units.{page_of}
use Rattle.line.specs.Demand.{Stands}
use Rattle.line.specs.Line.{Moment, moment_at}
use Rattle.line.specs.declared.exchange.Loss.{Loss}
use Rattle.loader.specs.State.{reset_of}
use Rattle.loader.specs.declared.state.Loader.{Loader}
use Rattle.session.specs.Session.{Sent}
use Rattle.stations.specs.declared.station.Station.{Station}
use Rattle.visit.specs.Visit.{station_pages, beyond}

-- a freshly reset loader, and what the start gave: the session, and its byte on the wire
abbrev pub begun_by : Sent → Loader → List ℕ → Moment
begun_by x l f = record { loader = reset_of l; flash = f; session = x.session; wire = x.packet }

-- what stands after n exchanges
abbrev pub visit_at : Sent → List ℕ → List ℕ → Loader → (ℕ → Loss) → List ℕ → ℕ → Moment
visit_at x image m l losses before n = moment_at station_pages image m losses (begun_by x l before) n

-- every page outside the station's bounds is as before
abbrev pub OutsideStays : Station → List ℕ → List ℕ → Type 0
OutsideStays s before flash = (a : ℕ) → beyond s (page_of a) ≡ true → Stands flash before a
