-- How large a total can be, for every map: two pieces never start side by side.
use Rattle.std.specs.Prelude.{ℕ, zero, suc, ◌+◌, ◌*◌, ◌≤◌, ◌<◌, Bool, true, false, List, ◌≡◌, length}
use Rattle.std.proofs.Common.{sym, ◌∙◌, arith}
use Rattle.basis.specs.Laws.Choice.{decide, true-false}
use Rattle.basis.specs.Units.{start_of, map_bytes}
use Rattle.basis.specs.declared.kind.RunKind.{RunKind}
use Rattle.runs.specs.Laws.Files.{bytes_past, pages-past}
use Rattle.runs.specs.Laws.Pieces.{starts-inside, starts-off, off-more, first-starts}
use Rattle.runs.specs.Laws.Runs.{count-zero, count_yes, count_no, count-le, rank_below}
use Rattle.runs.specs.Map.{named}
use Rattle.runs.specs.Pages.{touched}
use Rattle.runs.specs.Pieces.{piece_most, piece_starts, run_starts, piece_count, named_count}
use Rattle.runs.specs.Runs.{count, starts}
use Rattle.order.specs.Laws.Kinds.{r-most}
use Rattle.order.specs.Laws.Starts.{runs-most, first-piece-below, first-run-below}
use Rattle.order.specs.Steps.{lowest_run, lowest_piece}
use Rattle.order.specs.Plan.{before_r, total}

-- of numbers that never pass side by side at most every second does
sparse : (q : ℕ → Bool) → ((a : ℕ) → q a ≡ true → q (suc a) ≡ false) → (n : ℕ)
    → (2 * count q n ≤ n + 1) × (q n ≡ true → 2 * count q n ≤ n)
sparse q apart zero = (omega (arith, count-zero q), λ t. omega (arith, count-zero q))
sparse q apart (suc n) =
    let i = sparse q apart n in (
      decide (q n) (λ t. omega (arith, count_yes q n t, i.1 t)) (λ t. omega (arith, count_no q n t, i.0)),
      λ h. decide (q n) (λ t. absurd (true-false (sym h ∙ apart n t)))
          (λ t. omega (arith, count_no q n t, i.0)),
    )

-- behind a start the piece goes on, or fails
starts_apart : (p : ℕ → Bool) (cap : ℕ) → 1 < cap → (a : ℕ) → starts p cap a ≡ true
    → starts p cap (suc a) ≡ false
starts_apart p cap l a h =
    let s = starts-off p cap a h in
    starts-inside p cap (suc a) (λ e. omega (arith, s.1, off-more p cap a s.0 (λ q. omega (arith, s.1))))

pub pieces-half : (board : ℕ) (m : List ℕ) → 2 * piece_count board m ≤ start_of board + 1
pieces-half board m =
    (sparse (piece_starts m) (starts_apart (named m) piece_most (omega arith)) (start_of board)).0

pub total-most : (board : ℕ) (m : List ℕ) (kind : RunKind) → total board m kind ≤ board + start_of board + 2
total-most board m kind = omega (arith, pieces-half board m, runs-most board m, r-most kind)

pub named-fits : (board : ℕ) (m : List ℕ) → named_count board m ≤ start_of board
named-fits board m = count-le (named m) (start_of board)

-- a file with a named byte has a run and a piece, so three packets at least before R
pub packets-least : (board : ℕ) (m : List ℕ) → length m ≡ map_bytes board → 0 < named_count board m
    → 3 ≤ before_r board m
packets-least board m long some =
    let a = first-piece-below board m long some in
    let q = first-run-below board m long some in
    let p = rank_below (piece_starts m) (start_of board) (lowest_piece board m) a
    (first-starts (named m) piece_most (start_of board) (bytes_past board m long) a) in
    let r = rank_below (run_starts board m) board (lowest_run board m) q
    (first-starts (touched m) board board (pages-past board m long) q) in
    omega arith

-- so there is a first packet, whatever the run kind
pub total-some : (board : ℕ) (m : List ℕ) → length m ≡ map_bytes board → 0 < named_count board m
    → (kind : RunKind) → 0 < total board m kind
total-some board m long some kind = omega (arith, packets-least board m long some)
