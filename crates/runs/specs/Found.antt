-- What a search gives, as a number: e stands for none.
use Rattle.std.specs.Prelude.{ℕ, ◌≡◌, ◌≤◌, ◌<◌, Option, Some, None}
use Rattle.basis.specs.declared.units.Address.{Address}
use Rattle.basis.specs.declared.units.Page.{Page}

abbrev pub address_or : ℕ → Option Address → ℕ
address_or e None = e
address_or e (Some a) = a.0

abbrev pub page_or : ℕ → Option Page → ℕ
page_or e None = e
page_or e (Some p) = p.0

-- what a search below n gives: x, or none where x is n or more
abbrev pub IsAddress : ℕ → ℕ → Option Address → Type 0
IsAddress n x None = n ≤ x
IsAddress n x (Some a) = (a.0 ≡ x) × (x < n)

abbrev pub IsPage : ℕ → ℕ → Option Page → Type 0
IsPage n x None = n ≤ x
IsPage n x (Some p) = (p.0 ≡ x) × (x < n)
