-- A run or a piece that starts lies on the board, and its packet is built.
use Rattle.std.proofs.Common.{◌≡◌, ◌+◌, ◌<◌, ◌≤◌, ℕ, true, List, length, arith, ap, ◌∙◌, get_or, Result, Ok, Err}
use Rattle.std.specs.Result.{result_unwrap_or}
use Rattle.basis.specs.Laws.Refusals.{apart, given-one}
use Rattle.basis.specs.Lists.{overlay}
use Rattle.basis.specs.Refusals.{Answer, counted, written}
use Rattle.packet.specs.Laws.Packet.{build-packet}
use Rattle.packet.specs.Packet.{packet, packet_most, build_of}
use Rattle.packet.specs.Paper.{paper_built}
use Rattle.packet.specs.Table.{listed, in_shape}
use Rattle.packet.specs.declared.build.Unbuilt.{Unbuilt}
use Rattle.basis.specs.Laws.Boards.{pages-few}
use Rattle.basis.specs.Units.{start_of, map_bytes}
use Rattle.runs.specs.Laws.Files.{file-piece}
use Rattle.runs.specs.Laws.Pieces.{piece-some}
use Rattle.runs.specs.Map.{named}
use Rattle.runs.specs.Pieces.{piece_most, piece_starts}
use Rattle.runs.specs.Runs.{len}
use Rattle.order.specs.Laws.Starts.{run-below, piece-below}

pub ruleset below = (run-below, piece-below, pages-few)

module _ (board : ℕ) (m : List ℕ) (long : length m ≡ map_bytes board)
    (a : ℕ) (h : piece_starts m a ≡ true) where
  pub piece_some : 0 < len (named m) a 250
  piece_some = piece-some (named m) piece_most (omega arith) a h

  pub piece_inside : a + len (named m) a 250 ≤ start_of board
  piece_inside = file-piece board m long a h

pub ruleset pieces = (piece-below, pages-few, piece_some, piece_inside)

-- the builder refuses nothing that stands in the table
module _ (room c a : ℕ) (d : List ℕ) (h : packet_most ≤ room) (l : listed c ≡ true)
    (s : in_shape c (length d + 5) (get_or d 0 0) ≡ true) where
  pub built-length : (r : Result ℕ Unbuilt) → paper_built r ≡ counted (build_of room c a d)
      → result_unwrap_or r 0 ≡ length (packet c a d)
  built-length (Ok n) e = given-one (e ∙ ap counted (build-packet room c a d h l s))
  built-length (Err w) e = absurd (apart (e ∙ ap counted (build-packet room c a d h l s)))

  pub built-bytes : (old : List ℕ) → overlay (written (build_of room c a d)) old ≡ overlay (packet c a d) old
  built-bytes old = ap (λ (x : Answer (List ℕ)). overlay (written x) old) (build-packet room c a d h l s)

pub ruleset puts = (built-length, built-bytes)
