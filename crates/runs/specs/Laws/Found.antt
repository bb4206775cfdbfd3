-- Laws of searches: two outcomes that a search's contract permits are equal.
use Rattle.std.specs.Prelude.{ℕ, ◌+◌, ◌-◌, ◌<◌, ◌≡◌, Option, Some, None, IfSome, refl}
use Rattle.std.proofs.Common.{ap, arith}
use Rattle.basis.specs.declared.units.Address.{Address}
use Rattle.basis.specs.declared.units.Page.{Page}
use Rattle.runs.specs.Found.{address_or, page_or}

-- below the limit, the number that stands for none is not found
module _ (from limit : ℕ) where
  pub address-determined : (r s : Option Address)
      → address_or (from + (limit - from)) r ≡ address_or (from + (limit - from)) s
      → IfSome r (λ a. a.0 < limit) → IfSome s (λ a. a.0 < limit) → r ≡ s
  address-determined None None e h k = refl
  address-determined None (Some b) e h k = absurd (omega arith)
  address-determined (Some a) None e h k = absurd (omega arith)
  address-determined (Some a) (Some b) e h k = λ i. Some (record { 0 = e i })

  pub page-determined : (r s : Option Page)
      → page_or (from + (limit - from)) r ≡ page_or (from + (limit - from)) s
      → IfSome r (λ p. p.0 < limit) → IfSome s (λ p. p.0 < limit) → r ≡ s
  page-determined None None e h k = refl
  page-determined None (Some b) e h k = absurd (omega arith)
  page-determined (Some a) None e h k = absurd (omega arith)
  page-determined (Some a) (Some b) e h k = λ i. Some (record { 0 = e i })
