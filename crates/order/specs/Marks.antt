-- A byte is marked proved by the ACK to the V that holds it.
use Rattle.std.specs.Prelude.{ℕ, ◌+◌, Bool, List, leb}
use Rattle.basis.specs.Choice.{both}
use Rattle.order.specs.Plan.{before_verify}
use Rattle.runs.specs.Map.{named}
use Rattle.runs.specs.Pieces.{piece_starts}
use Rattle.runs.specs.Runs.{count}

-- the packets up to the V of the byte's piece
abbrev pub marked_from : ℕ → List ℕ → ℕ → ℕ
marked_from board m a = before_verify board m + count (piece_starts m) (a + 1)

-- after k acknowledgements a byte is marked: it is named, and the V of its piece is among those acknowledged
unfoldable pub marked : ℕ → List ℕ → ℕ → ℕ → Bool
marked board m k a = both (named m a) (leb (marked_from board m a) k)
