-- Laws of the tables: each row, and what is given where no row holds.
use Rattle.std.specs.Prelude.{ℕ, true, false, List, ◌≡◌, length}
use Rattle.std.proofs.Math.Bool.{not}
use Rattle.std.proofs.Math.Path.{sym}
use Rattle.std.proofs.Common.{ap, ◌∙◌, eq-eqb, ne_eqb}
use Rattle.basis.specs.Laws.Refusals.{skip, stop, done, passed}
use Rattle.basis.specs.Refusals.{refused, given}
use Rattle.basis.specs.RunKinds.{kind_of}
use Rattle.order.specs.Sizes.{right_sizes}
use Rattle.runs.specs.Pieces.{named_count}
use Rattle.session.specs.Session.{Sent, started}
use Rattle.stations.specs.declared.station.Station.{Station}
use Rattle.visit.specs.Visit.{station_pages, outside, start_at}

module _ (s : Station) (image m : List ℕ) (room : ℕ) where
  pub at_size : right_sizes station_pages (length image) (length m) room ≡ false
      → start_at s image m room ≡ refused 20
  unfolding start_at
  at_size e = stop 20 _ _ _ (ap not e)

  module _ (e₁ : right_sizes station_pages (length image) (length m) room ≡ true) where
    pub at-empty : named_count station_pages m ≡ 0 → start_at s image m room ≡ refused 32
    unfolding start_at
    at-empty e = skip 20 _ _ _ (ap not e₁) ∙ stop 32 _ _ _ (eq-eqb _ _ e)

    module _ (e₂ : named_count station_pages m ≡ 0 → ⊥) where
      pub at-outside : outside s m ≡ true → start_at s image m room ≡ refused 64
      unfolding start_at
      at-outside e = skip 20 _ _ _ (ap not e₁) ∙ skip 32 _ _ _ (ne_eqb _ _ e₂) ∙ stop 64 _ _ _ e

      pub at-inside : outside s m ≡ false
          → start_at s image m room ≡ started station_pages image m room (kind_of s.run)
      unfolding start_at
      at-inside e =
          skip 20 _ _ _ (ap not e₁) ∙ skip 32 _ _ _ (ne_eqb _ _ e₂) ∙ skip 64 _ _ _ e ∙ done _

  -- what was started is the session of start, and nothing is outside
  pub at-given : {x : Sent} → start_at s image m room ≡ given x
      → (outside s m ≡ false) × (started station_pages image m room (kind_of s.run) ≡ given x)
  unfolding start_at
  at-given e =
      let size = passed 20 _ _ _ e in
      let some = passed 32 _ _ _ size.1 in
      let inside = passed 64 _ _ _ some.1 in
      (inside.0, sym (done _) ∙ inside.1)
