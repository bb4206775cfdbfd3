-- Worked loads: demand 3 is not empty. One byte anywhere on a board, a loader from the factory, flash all 0,
-- no loss.
use Rattle.std.specs.Prelude.{ℕ, ◌+◌, ◌≤◌, ◌<◌, true, false, List, ◌≡◌, refl, ltb, length, replicate}
use Rattle.std.proofs.Common.{◌∙◌, arith, ltb-true, ltb-false}
use Rattle.std.proofs.Math.Nat.{zero-div}
use Rattle.std.proofs.lemmas.List.{length-replicate, get_or-replicate}
use Rattle.std.proofs.Math.ListN.{get_or-eq_default}
use Rattle.basis.specs.Bits.{bit}
use Rattle.basis.specs.Board.{pages_of}
use Rattle.basis.specs.Laws.Boards.{pages-few}
use Rattle.basis.specs.Laws.Choice.{decide}
use Rattle.basis.specs.Lists.{Bytes}
use Rattle.basis.specs.Units.{start_of, map_bytes, page_group_of}
use Rattle.basis.specs.declared.board.Board.{Board}
use Rattle.basis.specs.declared.kind.RunKind.{RunKind}
use Rattle.line.specs.Demand.{Stands, AsAsked}
use Rattle.line.specs.Laws.Demand.{as-asked}
use Rattle.line.specs.Line.{load_at}
use Rattle.line.specs.declared.exchange.Loss.{Loss}
use Rattle.loader.specs.State.{factory_of}
use Rattle.order.specs.Plan.{total}
use Rattle.runs.specs.Laws.Map.{name-length, name-same}
use Rattle.runs.specs.Laws.Runs.{rank_below}
use Rattle.runs.specs.Map.{named, name_of}
use Rattle.session.specs.Session.{Loadable}

no-group : (g : ℕ) → bit 0 g ≡ false
no-group g = simp zero-div

-- a byte at an address of a board
module _ (b : Board) (at : ℕ) (on : at < start_of (pages_of b)) where
  abbrev board : ℕ
  board = pages_of b

  abbrev image : List ℕ
  image = replicate (start_of board) 0x12

  abbrev map : List ℕ
  map = name_of (replicate (map_bytes board) 0) at

  abbrev flash : List ℕ
  flash = replicate (start_of board) 0x00

  map-long : length map ≡ map_bytes board
  map-long = name-length (replicate (map_bytes board) 0) at ∙ length-replicate {A = ℕ} (map_bytes board) 0

  one-named : named map at ≡ true
  one-named =
      name-same (replicate (map_bytes board) 0) at
      (omega (arith, on, length-replicate {A = ℕ} (map_bytes board) 0))

  file : Loadable board image map
  file =
      record {
        right = length-replicate {A = ℕ} (start_of board) 0x12;
        long = map-long;
        some = omega (arith, rank_below (named map) (start_of board) at on one-named);
      }

  image-bytes : Bytes image
  image-bytes k =
      decide (ltb k (start_of board))
      (λ t. omega (arith, get_or-replicate {A = ℕ} (start_of board) k 0x12 0 (ltb-true k (start_of board) t)))
      (λ t. omega (arith, get_or-eq_default image 0 (past t)))
    where
      past : ltb k (start_of board) ≡ false → length image ≤ k
      past t = omega (arith, ltb-false k (start_of board) t, length-replicate {A = ℕ} (start_of board) 0x12)

  -- with every run kind its load ends as asked, and the byte stands
  abbrev Loads : RunKind → Type 0
  Loads kind =
      let x = load_at board image map kind factory_of (λ i. Loss.Whole) flash (total board map kind + 1) in
      (AsAsked kind x.session) × (Stands x.flash image at)

  pub worked : (kind : RunKind) → Loads kind
  worked kind =
      let v = as-asked board (omega (arith, pages-few b)) image map flash file image-bytes
      kind factory_of (length-replicate {A = ℕ} (start_of board) 0x00) (λ i. Loss.Whole) (λ n. refl)
      (record { unprotected = λ q t. no-group (page_group_of q); readable = refl }) (total board map kind + 1)
      (omega arith) in
      (v.0, v.1 at one-named)

-- the last byte of the short board, and that of the long one
pub worked-short : (kind : RunKind) → Loads Board.Short 0xF7FF (omega arith) kind
worked-short = worked Board.Short 0xF7FF (omega arith)

pub worked-long : (kind : RunKind) → Loads Board.Long 0x1EFFF (omega arith) kind
worked-long = worked Board.Long 0x1EFFF (omega arith)
