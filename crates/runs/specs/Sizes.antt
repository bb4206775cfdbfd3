-- A file's image and map are as long as its board asks.
use Rattle.std.specs.Prelude.{ℕ, ◌≡◌, List, length}
use Rattle.basis.specs.Board.{pages_of}
use Rattle.basis.specs.Units.{start_of, map_bytes}
use Rattle.basis.specs.declared.board.Board.{Board}

abbrev pub FitsImage : Board → List ℕ → Type 0
FitsImage b image = length image ≡ start_of (pages_of b)

abbrev pub FitsMap : Board → List ℕ → Type 0
FitsMap b map = length map ≡ map_bytes (pages_of b)
