-- Laws of bounds: what two searches say of all touched pages, and that an untouched file names nothing.
use Rattle.std.specs.Prelude.{ℕ, ◌+◌, ◌-◌, ◌≤◌, ◌<◌, Bool, true, false, List, ◌≡◌, refl, ltb, length}
use Rattle.std.proofs.Common.{sym, ◌∙◌, zero-add, arith, lt-ltb, ltb-true, ltb-false}
use Rattle.basis.specs.Choice.{both}
use Rattle.basis.specs.Laws.Choice.{decide, true-false, either_first, either_second, either-false, any_none, any_some}
use Rattle.basis.specs.Units.{start_of, map_bytes}
use Rattle.order.specs.Laws.Starts.{first-run-below}
use Rattle.runs.specs.Laws.Pages.{touched-some}
use Rattle.runs.specs.Laws.Runs.{next-ge, next-pass, next-skip, rank_below}
use Rattle.runs.specs.Map.{named}
use Rattle.runs.specs.Pages.{touched}
use Rattle.runs.specs.Pieces.{named_count}
use Rattle.runs.specs.Runs.{next}
use Rattle.stations.specs.declared.station.Station.{Station}
use Rattle.visit.specs.Visit.{station_pages, beyond, outside}

-- ---- 64

module _ (s : Station) (m : List ℕ) where
  abbrev strays : ℕ → Bool
  strays q = both (touched m q) (beyond s q)

  -- a touched page out of bounds is outside
  pub some-outside : (q : ℕ) → q < station_pages → touched m q ≡ true → beyond s q ≡ true → outside s m ≡ true
  unfolding outside
  some-outside q l t b = any_some strays 0 station_pages q l (rw (zero-add q, t, b) refl)

  -- where none is out of bounds, nothing is outside
  pub none-outside : ((q : ℕ) → q < station_pages → touched m q ≡ true → beyond s q ≡ false)
      → outside s m ≡ false
  unfolding outside
  none-outside h =
      any_none strays 0 station_pages
      (λ q l. decide (touched m q) (λ t. rw (zero-add q, t, h q l t) refl) (λ t. rw (zero-add q, t) refl))

  -- and the reverse: where nothing is outside, a page out of bounds is not touched
  pub beyond-untouched : outside s m ≡ false → (q : ℕ) → q < station_pages → beyond s q ≡ true
      → touched m q ≡ false
  beyond-untouched e q l b =
      decide (touched m q) (λ t. absurd (true-false (sym (some-outside q l t b) ∙ e))) (λ t. t)

  -- the lowest touched page, and the lowest above the last page
  abbrev pub lowest : ℕ
  lowest = next (touched m) 0 station_pages

  abbrev pub above : ℕ
  above = next (touched m) (s.last.0 + 1) (station_pages - (s.last.0 + 1))

  module _ (low : s.first.0 ≤ station_pages) where
    pub lowest-outside : lowest < s.first.0 → true ≡ outside s m
    lowest-outside l =
        sym (some-outside lowest (omega arith) (next-pass (touched m) station_pages 0 (omega arith))
        (either_first (ltb lowest s.first.0) _ (lt-ltb lowest s.first.0 l)))

  module _ (high : s.last.0 < station_pages) (from : s.first.0 ≤ lowest) where
    pub above-outside : ltb above station_pages ≡ outside s m
    above-outside =
        decide (ltb above station_pages)
        (λ t. let l = ltb-true above station_pages t in
        let f = station_pages - (s.last.0 + 1) in
        let g = next-ge (touched m) f (s.last.0 + 1) in
        t ∙ sym (some-outside above l (next-pass (touched m) f (s.last.0 + 1) (omega arith))
        (either_second (ltb above s.first.0) _ (lt-ltb s.last.0 above (omega arith)))))
        (λ t. let l = ltb-false above station_pages t in
        t ∙ sym (none-outside (λ q b u. either-false (ltb q s.first.0) (ltb s.last.0 q)
        (decide (ltb q s.first.0)
        (λ x. absurd (true-false (sym u
        ∙ next-skip (touched m) station_pages 0 q (omega arith)
        (omega (arith, ltb-true q s.first.0 x)))))
        (λ x. x))
        (decide (ltb s.last.0 q)
        (λ x. absurd (true-false (sym u
        ∙ next-skip (touched m) (station_pages - (s.last.0 + 1)) (s.last.0 + 1) q
        (omega (arith, ltb-true s.last.0 q x)) (omega arith))))
        (λ x. x)))))

-- ---- 32

module _ (m : List ℕ) where
  -- a file that touches no page names no byte
  pub none-touched : length m ≡ map_bytes station_pages → station_pages ≤ next (touched m) 0 station_pages
      → named_count station_pages m ≡ 0
  none-touched long l =
      decide (ltb 0 (named_count station_pages m))
      (λ t. absurd
      (let b = first-run-below station_pages m long (ltb-true 0 (named_count station_pages m) t) in
      omega arith))
      (λ t. omega (arith, ltb-false 0 (named_count station_pages m) t))

  -- and one that touches a page names one
  pub some-named : next (touched m) 0 station_pages < station_pages → named_count station_pages m ≡ 0 → ⊥
  some-named l e =
      let q = next (touched m) 0 station_pages in
      let s = touched-some m q (next-pass (touched m) station_pages 0 (omega arith)) in
      let r = rank_below (named m) (start_of station_pages) s.0 (omega (arith, s.3)) s.1 in
      omega (arith, r, e)
