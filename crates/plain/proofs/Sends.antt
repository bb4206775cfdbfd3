-- What the packet that is due asks.
use Rattle.std.proofs.Common.{◌≡◌, ◌+◌, ◌≤◌, ◌<◌, ℕ, true, false, List, length, sym, arith}
use Rattle.basis.specs.Units.{start_of, map_bytes}
use Rattle.basis.specs.declared.kind.RunKind.{RunKind}
use Rattle.order.specs.Laws.Plan.{plan-at}
use Rattle.order.specs.Laws.Steps.{at-stands, stands-start}
use Rattle.order.specs.Plan.{total}
use Rattle.order.specs.Steps.{at_start, step_at}
use Rattle.order.specs.declared.step.Step.{Step}
use Rattle.plain.specs.Laws.List.{row-only}
use Rattle.runs.specs.Laws.Files.{bytes_past}
use Rattle.runs.specs.Map.{named}
use Rattle.runs.specs.Pieces.{piece_len, piece_most}

-- the step that is due stands at a start
pub due-start : (board : ℕ) (m : List ℕ) (kind : RunKind) (due : ℕ) {s : Step} → length m ≡ map_bytes board
    → due < total board m kind → s ≡ step_at board m due → at_start board m s ≡ true
due-start board m kind due long h e =
    rw e (stands-start board m long kind _ due (at-stands board m kind due h))

pub ruleset dues = (due-start, plan-at)

-- n bytes that are named in a row are the whole piece, where the next is not named, the board ends behind
-- them, or they are as many as may be
module _ (m : List ℕ) (a n : ℕ) where
  pub row-ends : n ≤ piece_most → named m (a + n) ≡ false → ((i : ℕ) → i < n → named m (a + i) ≡ true)
      → n ≡ piece_len m a
  row-ends l e all = sym (row-only (named m) a piece_most n l all (λ b. e))

  pub row-past : (board : ℕ) → length m ≡ map_bytes board → n ≤ piece_most → start_of board ≤ a + n
      → ((i : ℕ) → i < n → named m (a + i) ≡ true) → n ≡ piece_len m a
  row-past board long l b all = row-ends l (bytes_past board m long (a + n) b) all

pub row-full : (m : List ℕ) (a : ℕ) → ((i : ℕ) → i < piece_most → named m (a + i) ≡ true)
    → piece_most ≡ piece_len m a
row-full m a all =
    sym (row-only (named m) a piece_most piece_most (omega arith) all (λ b. absurd (omega arith)))

pub ruleset rows = (row-ends, row-full)
