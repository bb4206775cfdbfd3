-- The pieces of a file's named bytes and the runs of its touched pages, on a board of so many pages.
use Rattle.std.specs.Prelude.{ℕ, List, Bool}
use Rattle.basis.specs.Board.{data_most}
use Rattle.basis.specs.Units.{start_of}
use Rattle.runs.specs.Map.{named}
use Rattle.runs.specs.Pages.{touched}
use Rattle.runs.specs.Runs.{count, starts, len}

-- a piece has at most as many bytes as a packet carries: 250
abbrev pub piece_most : ℕ
piece_most = data_most

-- a piece of named bytes starts at the address, and this long it is
abbrev pub piece_starts : List ℕ → ℕ → Bool
piece_starts m = starts (named m) piece_most

abbrev pub piece_len : List ℕ → ℕ → ℕ
piece_len m a = len (named m) a piece_most

-- a run of touched pages starts at the page, and this long it is; no run has more pages than there are
abbrev pub run_starts : ℕ → List ℕ → ℕ → Bool
run_starts board m = starts (touched m) board

abbrev pub run_len : ℕ → List ℕ → ℕ → ℕ
run_len board m q = len (touched m) q board

-- how many runs of pages (e), pieces (w) and named bytes the file has
abbrev pub run_count : ℕ → List ℕ → ℕ
run_count board m = count (run_starts board m) board

abbrev pub piece_count : ℕ → List ℕ → ℕ
piece_count board m = count (piece_starts m) (start_of board)

abbrev pub named_count : ℕ → List ℕ → ℕ
named_count board m = count (named m) (start_of board)
