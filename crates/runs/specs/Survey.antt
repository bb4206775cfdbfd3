-- What one walk over the map tells.
use Rattle.std.specs.Prelude.{ℕ, List}
use Rattle.basis.specs.Units.{page_of, start_of}
use Rattle.runs.specs.Map.{named}
use Rattle.runs.specs.Pages.{touched}
use Rattle.runs.specs.Pieces.{piece_most, piece_starts, run_starts, run_count, piece_count, named_count}
use Rattle.runs.specs.Runs.{count}
use Rattle.runs.specs.Tally.{tally_at}
use Rattle.runs.specs.declared.walks.Tallies.{Tallies}
use Rattle.runs.specs.declared.survey.Surveyed.{Surveyed}

-- the tallies of the named bytes and the touched pages below the page q
unfoldable pub tallies_at : ℕ → List ℕ → ℕ → Tallies
tallies_at board m q =
    record { bytes = tally_at (named m) piece_most (start_of q); pages = tally_at (touched m) board q }

-- what the file has in all, how many runs start below the page of a and pieces below a,
-- and whether a run of pages and a piece start there
unfoldable pub survey_of : ℕ → List ℕ → ℕ → Surveyed
survey_of board m a =
    record {
      all = record { runs = run_count board m; pieces = piece_count board m; named = named_count board m };
      below = record { runs = count (run_starts board m) (page_of a); pieces = count (piece_starts m) a };
      run = run_starts board m (page_of a);
      piece = piece_starts m a;
    }
