-- What two searches for a touched page say of a station's bounds.
use Rattle.std.proofs.Common.{◌≡◌, ◌+◌, ◌-◌, ◌<◌, ◌≤◌, ℕ, Bool, List, true, false, length, Option, Some, None, sym, ◌∙◌, arith, lt-ltb, le-ltb, eq-eqb, ne_eqb}
use Rattle.std.specs.Prelude.{IfSome, is_some, ltb, eqb, not}
use Rattle.basis.specs.Laws.Choice.{true-false}
use Rattle.basis.specs.Units.{map_bytes}
use Rattle.basis.specs.declared.units.Page.{Page}
use Rattle.runs.specs.Found.{page_or}
use Rattle.runs.specs.Laws.Runs.{next-skip}
use Rattle.runs.specs.Pages.{touched}
use Rattle.runs.specs.Pieces.{named_count}
use Rattle.runs.specs.Runs.{next}
use Rattle.stations.specs.Laws.Record.{in-range}
use Rattle.stations.specs.Station.{out_of_range}
use Rattle.stations.specs.declared.station.Station.{Station}
use Rattle.visit.specs.Laws.Bounds.{lowest, above, none-outside, lowest-outside, above-outside, none-touched, some-named}
use Rattle.visit.specs.Visit.{station_pages, outside}

module _ (s : Station) (fit : out_of_range s ≡ false) where
  pub last-below : s.last.0 < station_pages
  last-below = let r = in-range s fit in omega (arith, r.last)

  module _ (m : List ℕ) (n : ℕ) (e : n ≡ station_pages) where
    whole : n - 0 ≡ station_pages
    whole = omega (arith, e)

    -- no page is touched
    pub none-lies : 0 + (n - 0) ≡ next (touched m) 0 (n - 0) → false ≡ outside s m
    none-lies h =
        let l : station_pages ≤ lowest s m = omega (arith, rw whole at h) in
        sym (none-outside s m (λ q k t. absurd (true-false (sym t
        ∙ next-skip (touched m) station_pages 0 q (omega arith) (omega arith)))))

    module _ (q : ℕ) (found : q ≡ next (touched m) 0 (n - 0)) where
      low : q ≡ lowest s m
      low = rw whole at found

      pub low-lies : q < s.first.0 → true ≡ outside s m
      low-lies h =
          let r = in-range s fit in
          lowest-outside s m (omega (arith, r.first, r.last)) (omega (arith, low))

      pub above-lies : s.first.0 ≤ q → (r : Option Page)
          → page_or (s.last.0 + 1 + (n - (s.last.0 + 1))) r
          ≡ next (touched m) (s.last.0 + 1) (n - (s.last.0 + 1))
          → IfSome r (λ p. p.0 < n) → is_some r ≡ outside s m
      above-lies h r f b = go r (rw e at f) b ∙ above-outside s m last-below (omega (arith, low))
        where
          go : (r : Option Page) → page_or (s.last.0 + 1 + (station_pages - (s.last.0 + 1))) r ≡ above s m
              → IfSome r (λ p. p.0 < n) → is_some r ≡ ltb (above s m) station_pages
          go None f b = sym (le-ltb (above s m) station_pages (omega (arith, f)))
          go (Some p) f b = sym (lt-ltb (above s m) station_pages (omega (arith, f, b, e)))

pub ruleset bounds = (last-below, none-lies, low-lies, above-lies)

-- where no page is touched no byte is named
pub no-page : (m : List ℕ) (n : ℕ) → n ≡ station_pages → length m ≡ map_bytes n → (r : Option Page)
    → page_or (0 + (n - 0)) r ≡ next (touched m) 0 (n - 0) → IfSome r (λ p. p.0 < n)
    → (b : Bool) → is_some r ≡ not b → b ≡ eqb (named_count station_pages m) 0
no-page m n e long r found below = go (rw e at long) r (rw e at found) below
  where
    go : length m ≡ map_bytes station_pages → (r : Option Page)
        → page_or (0 + (station_pages - 0)) r ≡ next (touched m) 0 (station_pages - 0)
        → IfSome r (λ p. p.0 < n) → (b : Bool) → is_some r ≡ not b → b ≡ eqb (named_count station_pages m) 0
    go long None f l true h =
        sym (eq-eqb (named_count station_pages m) 0 (none-touched m long (omega (arith, f))))
    go long None f l false h = absurd (true-false (sym h))
    go long (Some p) f l true h = absurd (true-false h)
    go long (Some p) f l false h =
        sym (ne_eqb (named_count station_pages m) 0 (some-named m (omega (arith, f, l, e))))
