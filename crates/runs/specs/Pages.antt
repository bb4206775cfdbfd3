-- The pages that hold a named byte.
use Rattle.std.specs.Prelude.{ℕ, List, Bool}
use Rattle.basis.specs.Board.{page_size}
use Rattle.basis.specs.Units.{start_of}
use Rattle.runs.specs.Map.{any_named}

-- the page holds a named byte
unfoldable pub touched : List ℕ → ℕ → Bool
touched m q = any_named m (start_of q) page_size
