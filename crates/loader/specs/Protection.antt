-- Protection: a set of groups, one bit a group, and reading.
use Rattle.std.specs.Prelude.{ℕ, ◌^◌, Bool, true, false}
use Rattle.std.specs.Int.Bits.{bit_or}
use Rattle.basis.specs.Bits.{bit}
use Rattle.basis.specs.Choice.{either, any}
use Rattle.loader.specs.declared.protection.Protection.{Protection}

abbrev pub none : Protection
none = record { groups = 0; read = false }

-- one group more
abbrev pub with_group : Protection → ℕ → Protection
with_group p g = record { groups = bit_or p.groups (2 ^ g); read = p.read }

abbrev pub with_read : Protection → Protection
with_read p = record { groups = p.groups; read = true }

-- what either protects
abbrev pub join_of : Protection → Protection → Protection
join_of p q = record { groups = bit_or p.groups q.groups; read = either p.read q.read }

-- one of n groups from g on is protected
abbrev pub any_of : ℕ → ℕ → ℕ → Bool
any_of s g n = any (bit s) g n
