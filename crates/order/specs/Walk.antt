-- The steps of a file one after another.
use Rattle.std.specs.Prelude.{ℕ, zero, suc, ◌+◌, ◌-◌, Bool, true, List, [], ◌∷◌, Option, Some, None}
use Rattle.basis.specs.declared.kind.RunKind.{RunKind}
use Rattle.order.specs.Plan.{before_verify, before_r, total}
use Rattle.order.specs.Steps.{step_at, stands_at}
use Rattle.order.specs.declared.step.Step.{Step}
use Rattle.runs.specs.Pieces.{piece_starts, run_starts, run_count}
use Rattle.runs.specs.Runs.{count}

-- how many packets the plan has before the step's
abbrev pub rank_of : ℕ → List ℕ → Step → ℕ
rank_of board m (Step.Erase p) = count (run_starts board m) p.0
rank_of board m (Step.Write a) = run_count board m + count (piece_starts m) a.0
rank_of board m (Step.Verify a) = before_verify board m + count (piece_starts m) a.0
rank_of board m Step.Run = before_r board m

-- n steps one after another, the k-th first
unfoldable pub steps_from : ℕ → List ℕ → ℕ → ℕ → List Step
steps_from board m k zero = []
steps_from board m k (suc n) = step_at board m k ∷ steps_from board m (k + 1) n

-- the steps of all packets of the file
abbrev pub steps_of : ℕ → List ℕ → RunKind → List Step
steps_of board m kind = steps_from board m 0 (total board m kind)

-- those from a step on; behind the last there is none
abbrev pub steps_left : ℕ → List ℕ → RunKind → Option Step → List Step
steps_left board m kind (Some s) =
    let k = rank_of board m s in steps_from board m k (total board m kind - k)
steps_left board m kind None = []

-- the next step has its packet in the plan
abbrev pub stands_next : ℕ → List ℕ → RunKind → Option Step → Bool
stands_next board m kind (Some s) = stands_at board m kind s (rank_of board m s)
stands_next board m kind None = true
