-- The run kinds by their numbers.
use Rattle.std.specs.Prelude.{ℕ, ◌==◌}
use Rattle.basis.specs.Choice.{pick}
use Rattle.basis.specs.declared.kind.RunKind.{RunKind}

-- 0 reset, 1 jump, 2 hold
abbrev pub paper_kind : RunKind → ℕ
paper_kind RunKind.Reset = 0
paper_kind RunKind.Jump = 1
paper_kind RunKind.Hold = 2

-- hold is the default: reset and jump must be asked for
abbrev pub default_kind : RunKind
default_kind = RunKind.Hold

-- the run kind that a number asks for; one that is not listed is the default
abbrev pub kind_of : ℕ → RunKind
kind_of n =
    pick (n == 0) RunKind.Reset
    (pick (n == 1) RunKind.Jump
    (pick (n == 2) RunKind.Hold default_kind))
