-- Demand 3 for a session that was started for a station: it is the session of start with the station's run
-- kind, so what is proved of every load (`line` Laws/Demand) holds of its load; and moreover at every moment
-- every page outside the station's bounds is as before.
use Rattle.std.specs.Prelude.{ℕ, ◌+◌, ◌<◌, true, false, List, [], ◌≡◌, ltb, length}
use Rattle.std.proofs.Common.{sym, ap, subst, ◌∙◌, ltb-true, ltb-false, lit≤}
use Rattle.basis.specs.Laws.Choice.{decide}
use Rattle.basis.specs.Laws.Refusals.{given-one}
use Rattle.basis.specs.Lists.{Bytes}
use Rattle.basis.specs.Refusals.{Answer, given}
use Rattle.basis.specs.RunKinds.{kind_of}
use Rattle.basis.specs.Units.{page_of, start_of}
use Rattle.basis.specs.declared.kind.RunKind.{RunKind}
use Rattle.events.specs.declared.ending.Outcome.{Outcome}
use Rattle.line.specs.Demand.{Stands, Valid, Held, AsAsked, Safe, Free}
use Rattle.line.specs.Laws.Demand as laws
use Rattle.line.specs.Line.{Moment, between, reply, load_at}
use Rattle.line.specs.declared.exchange.Loss.{Loss}
use Rattle.loader.specs.declared.state.Loader.{Loader}
use Rattle.order.specs.Plan.{total}
use Rattle.runs.specs.Laws.Files.{pages-past}
use Rattle.runs.specs.Map.{named}
use Rattle.session.specs.Laws.Steps.{Starts, starting}
use Rattle.session.specs.Phases.{ended}
use Rattle.session.specs.Session.{Sent, measured, Loadable}
use Rattle.session.specs.declared.phase.Phase.{Phase}
use Rattle.stations.specs.Table.{find_of}
use Rattle.stations.specs.declared.station.Station.{Station}
use Rattle.visit.specs.Laws.Bounds.{beyond-untouched}
use Rattle.visit.specs.Laws.Rows.{at-given}
use Rattle.visit.specs.Load.{visit_at, OutsideStays}
use Rattle.visit.specs.Visit.{station_pages, for_station, start_at, start_for}

-- a station that the table holds, and a session that was started for it; the loader with any protection and
-- any key, any flash; any losses
module _ (t : List ℕ) (number : ℕ) (s : Station) (found : find_of t number ≡ given s)
    (image m : List ℕ) (room : ℕ) (x : Sent) (begins : start_for t number image m room ≡ given x)
    (bytes : Bytes image) (before : List ℕ) (size : length before ≡ start_of station_pages)
    (l : Loader) (losses : ℕ → Loss) where
  abbrev kind : RunKind
  kind = kind_of s.run

  -- what is started is the session of start, and no touched page is out of bounds
  at-station : start_at s image m room ≡ given x
  at-station =
      sym (ap (λ (a : Answer Station). for_station a (λ (y : Station). start_at y image m room)) found)
      ∙ begins

  starts : Starts station_pages image m room kind (record { session = x.session; len = length x.packet })
  starts =
      starting station_pages image m room kind _ (sym (ap measured (at-given s image m room at-station).1))

  file : Loadable station_pages image m
  file = starts.file

  -- the load is that of demand 3
  pub visit-is : (n : ℕ) → visit_at x image m l losses before n
      ≡ load_at station_pages image m kind l losses before n
  visit-is n =
      ap (λ (y : Sent). visit_at y image m l losses before n)
      (given-one (sym (at-given s image m room at-station).1 ∙ starts.started-is))

  -- a page out of bounds is not touched
  outside-stays : (y : Moment) → Safe station_pages image m before kind y → OutsideStays s before y.flash
  outside-stays y h a b =
      h.untouched-stays a
      (decide (ltb (page_of a) station_pages)
      (λ q. beyond-untouched s m (at-given s image m room at-station).0 (page_of a)
      (ltb-true (page_of a) station_pages q) b)
      (λ q. pages-past station_pages m file.long (page_of a) (ltb-false (page_of a) station_pages q)))

  -- 1. every moment is safe, and pages out of bounds are as before
  pub visit-safe : (n : ℕ) → Safe station_pages image m before kind (visit_at x image m l losses before n)
  visit-safe n =
      subst (Safe station_pages image m before kind) (sym (visit-is n))
      (laws.safe station_pages (lit≤ tt) image m before file bytes kind l size losses n)

  pub visit-outside : (n : ℕ) → OutsideStays s before (visit_at x image m l losses before n).flash
  visit-outside n = outside-stays (visit_at x image m l losses before n) (visit-safe n)

  pub visit-safe-amid : (n : ℕ) → ended (visit_at x image m l losses before n).session.phase ≡ false
      → Safe station_pages image m before kind
      (between station_pages (losses n) (visit_at x image m l losses before n))
  visit-safe-amid n =
      subst (λ (y : Moment). ended y.session.phase ≡ false
      → Safe station_pages image m before kind (between station_pages (losses n) y))
      (sym (visit-is n))
      (laws.safe-amid station_pages (lit≤ tt) image m before file bytes kind l size losses n)

  pub visit-outside-amid : (n : ℕ) → ended (visit_at x image m l losses before n).session.phase ≡ false
      → OutsideStays s before (between station_pages (losses n) (visit_at x image m l losses before n)).flash
  visit-outside-amid n h =
      outside-stays (between station_pages (losses n) (visit_at x image m l losses before n))
      (visit-safe-amid n h)

  -- 2. with nothing lost and no protection in the way it ends as asked, and flash has every file byte
  pub visit-as-asked : ((n : ℕ) → losses n ≡ Loss.Whole) → Free m l → (n : ℕ)
      → total station_pages m kind < n
      → (AsAsked kind (visit_at x image m l losses before n).session)
      × ((a : ℕ) → named m a ≡ true → Stands (visit_at x image m l losses before n).flash image a)
  visit-as-asked whole free n b =
      subst (λ (y : Moment). (AsAsked kind y.session)
      × ((a : ℕ) → named m a ≡ true → Stands y.flash image a))
      (sym (visit-is n))
      (laws.as-asked station_pages (lit≤ tt) image m before file bytes kind l size losses whole free n b)

  -- 3. if any exchange of the load brings no answer it ends with 40, and never valid nor held
  module _ (i : ℕ) (goes-on : ended (visit_at x image m l losses before i).session.phase ≡ false)
      (no_answer : reply station_pages (losses i) (visit_at x image m l losses before i) ≡ []) where
    going : ended (load_at station_pages image m kind l losses before i).session.phase ≡ false
    going = subst (λ (y : Moment). ended y.session.phase ≡ false) (visit-is i) goes-on

    unanswered : reply station_pages (losses i) (load_at station_pages image m kind l losses before i) ≡ []
    unanswered = subst (λ (y : Moment). reply station_pages (losses i) y ≡ []) (visit-is i) no_answer

    pub visit-silent : (n : ℕ) → i < n
        → (visit_at x image m l losses before n).session.phase ≡ Phase.Ended Outcome.Silence
    visit-silent n b =
        subst (λ (y : Moment). y.session.phase ≡ Phase.Ended Outcome.Silence) (sym (visit-is n))
        (laws.silent station_pages (lit≤ tt) image m before file bytes kind l size losses i going unanswered n
        b)

    pub visit-never-valid : (n : ℕ) → Valid (visit_at x image m l losses before n).session → ⊥
    visit-never-valid n v =
        laws.never-valid station_pages (lit≤ tt) image m before file bytes kind l size losses i going
        unanswered n (subst (λ (y : Moment). Valid y.session) (visit-is n) v)

    pub visit-never-held : (n : ℕ) → Held (visit_at x image m l losses before n).session → ⊥
    visit-never-held n v =
        laws.never-held station_pages (lit≤ tt) image m before file bytes kind l size losses i going
        unanswered n (subst (λ (y : Moment). Held y.session) (visit-is n) v)

  -- it ends by itself, after at most the total and one exchange more
  pub visit-finite : ended (visit_at x image m l losses before (total station_pages m kind + 1)).session.phase
      ≡ true
  visit-finite =
      subst (λ (y : Moment). ended y.session.phase ≡ true)
      (sym (visit-is (total station_pages m kind + 1)))
      (laws.finite station_pages (lit≤ tt) image m before file bytes kind l size losses)
