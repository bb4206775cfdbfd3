-- Which packet is out after k acknowledgements: the E of a run of pages, the W or the V of a piece, or R.
use Rattle.std.specs.Prelude.{ℕ, ◌+◌, ◌<◌, Bool, true, List, ◌≡◌, refl, length}
use Rattle.std.proofs.Common.{sym, arith}
use Rattle.basis.specs.Units.{map_bytes}
use Rattle.basis.specs.declared.kind.RunKind.{RunKind}
use Rattle.runs.specs.Pieces.{piece_starts, run_starts, run_count, piece_count}
use Rattle.runs.specs.Runs.{count}
use Rattle.order.specs.Laws.Steps.{ranked-is, run-rank, piece-rank, stands-r, at-stands}
use Rattle.order.specs.Steps.{erase_at, write_at, verify_at, step_at, stands_at}
use Rattle.order.specs.Plan.{sends_r, total, before_r, before_verify}
use Rattle.order.specs.declared.step.Step.{Step}

-- something starts at the place, and before it as many as are told
pub record Ranked (starts : ℕ → Bool) (place rank : ℕ) : Type 0 where
  pub begins : starts place ≡ true
  pub rank_is : count starts place ≡ rank

pub data Out (board : ℕ) (m : List ℕ) (kind : RunKind) (k : ℕ) : Type 0 where
  erases : (q : ℕ) → step_at board m k ≡ erase_at q → Ranked (run_starts board m) q k → k < run_count board m
      → Out board m kind k
  writes : (a j : ℕ) → step_at board m k ≡ write_at a → Ranked (piece_starts m) a j
      → k ≡ run_count board m + j
      → j < piece_count board m → Out board m kind k
  verifies : (a j : ℕ) → step_at board m k ≡ verify_at a → Ranked (piece_starts m) a j
      → k ≡ before_verify board m + j → j < piece_count board m → Out board m kind k
  runs : step_at board m k ≡ Step.Run → k ≡ before_r board m → sends_r kind ≡ true → Out board m kind k

pub out-after : (board : ℕ) (m : List ℕ) → length m ≡ map_bytes board → (kind : RunKind) (k : ℕ)
    → k < total board m kind
    → Out board m kind k
unfolding stands_at
out-after board m long kind k l = go (step_at board m k) refl (at-stands board m kind k l)
  where
    go : (s : Step) → step_at board m k ≡ s → stands_at board m kind s k ≡ true → Out board m kind k
    go (Step.Erase p) e h =
        let r = ranked-is (run_starts board m) 0 p.0 k h in
        erases p.0 e (record { begins = r.0; rank_is = omega arith }) (run-rank board m long p.0 k h)
    go (Step.Write a) e h =
        let r = ranked-is (piece_starts m) (run_count board m) a.0 k h in
        writes a.0 (count (piece_starts m) a.0) e (record { begins = r.0; rank_is = refl }) (sym r.1)
        (omega (arith, r.1, piece-rank board m long (run_count board m) a.0 k h))
    go (Step.Verify a) e h =
        let r = ranked-is (piece_starts m) (before_verify board m) a.0 k h in
        verifies a.0 (count (piece_starts m) a.0) e (record { begins = r.0; rank_is = refl })
        (sym r.1) (omega (arith, r.1, piece-rank board m long (before_verify board m) a.0 k h))
    go Step.Run e h = let r = stands-r board m kind k h in runs e (sym r.1) r.0
