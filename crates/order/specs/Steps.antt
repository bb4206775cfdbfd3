-- The packets of a file one by one: the k-th, what follows it, and where each stands.
use Rattle.std.specs.Prelude.{ℕ, ◌+◌, ◌-◌, ◌*◌, Bool, true, List, eqb, leb, ltb, Option, Some, None}
use Rattle.basis.specs.Choice.{pick, both}
use Rattle.basis.specs.Units.{start_of}
use Rattle.basis.specs.declared.kind.RunKind.{RunKind}
use Rattle.order.specs.Plan.{sends_r, erase_packet, write_packet, verify_packet, run_packet, before_verify, before_r, total}
use Rattle.order.specs.declared.step.Step.{Step}
use Rattle.runs.specs.Map.{named}
use Rattle.runs.specs.Pages.{touched}
use Rattle.runs.specs.Pieces.{piece_most, piece_starts, run_starts, run_count}
use Rattle.runs.specs.Runs.{count, next, select, follow}
use Rattle.runs.specs.declared.survey.Surveyed.{Surveyed}

-- the packet of a step
abbrev pub packet_of : ℕ → List ℕ → List ℕ → RunKind → Step → List ℕ
packet_of board image m kind (Step.Erase p) = erase_packet board m p.0
packet_of board image m kind (Step.Write a) = write_packet image m a.0
packet_of board image m kind (Step.Verify a) = verify_packet image m a.0
packet_of board image m kind Step.Run = run_packet kind

-- the steps at a page and at an address
abbrev pub erase_at : ℕ → Step
erase_at q = Step.Erase (record { 0 = q })

abbrev pub write_at : ℕ → Step
write_at a = Step.Write (record { 0 = a })

abbrev pub verify_at : ℕ → Step
verify_at a = Step.Verify (record { 0 = a })

-- the step after k acknowledgements: its packet is the k-th of the plan, counted from 0;
-- R stands in the plan where the run kind sends it
unfoldable pub step_at : ℕ → List ℕ → ℕ → Step
step_at board m k =
    pick (ltb k (run_count board m)) (erase_at (select (run_starts board m) k board))
    (pick (ltb k (before_verify board m))
    (write_at (select (piece_starts m) (k - run_count board m) (start_of board)))
    (pick (ltb k (before_r board m))
    (verify_at (select (piece_starts m) (k - before_verify board m) (start_of board)))
    Step.Run))

-- that packet: the one that is out after k acknowledgements
abbrev pub packet_at : ℕ → List ℕ → List ℕ → RunKind → ℕ → List ℕ
packet_at board image m kind k = packet_of board image m kind (step_at board m k)

-- what is left after k acknowledgements: the step then, and once all packets are acknowledged nothing
abbrev pub following_at : ℕ → List ℕ → RunKind → ℕ → Option Step
following_at board m kind k =
    pick (ltb k (total board m kind)) (Some (step_at board m k)) None

-- ---- from step to step, by the map alone

-- the first touched page and the first named byte
abbrev pub lowest_run : ℕ → List ℕ → ℕ
lowest_run board m = next (touched m) 0 board

abbrev pub lowest_piece : ℕ → List ℕ → ℕ
lowest_piece board m = next (named m) 0 (start_of board)

-- where the run after the one at q and the piece after the one
-- at a start; the board's end where there is none
abbrev pub next_run : ℕ → List ℕ → ℕ → ℕ
next_run board m q = follow (touched m) board board q

abbrev pub next_piece : ℕ → List ℕ → ℕ → ℕ
next_piece board m a = follow (named m) piece_most (start_of board) a

-- the first step: E of the first run
abbrev pub first_of : ℕ → List ℕ → Step
first_of board m = erase_at (lowest_run board m)

-- after E of the run at q: the next run, or the first piece to write
abbrev pub after_erase : ℕ → List ℕ → ℕ → Option Step
after_erase board m q =
    pick (ltb (next_run board m q) board)
    (Some (erase_at (next_run board m q)))
    (Some (write_at (lowest_piece board m)))

-- after W of the piece at a: the next piece, or the first to verify
abbrev pub after_write : ℕ → List ℕ → ℕ → Option Step
after_write board m a =
    pick (ltb (next_piece board m a) (start_of board))
    (Some (write_at (next_piece board m a)))
    (Some (verify_at (lowest_piece board m)))

-- behind the last V: R, or to hold nothing
abbrev pub behind_last : RunKind → Option Step
behind_last kind = pick (sends_r kind) (Some Step.Run) None

-- after V of the piece at a: the next piece, or what comes behind the last
abbrev pub after_verify : ℕ → List ℕ → RunKind → ℕ → Option Step
after_verify board m kind a =
    pick (ltb (next_piece board m a) (start_of board))
    (Some (verify_at (next_piece board m a)))
    (behind_last kind)

-- what follows a step
unfoldable pub follow_of : ℕ → List ℕ → RunKind → Step → Option Step
follow_of board m kind (Step.Erase p) = after_erase board m p.0
follow_of board m kind (Step.Write a) = after_write board m a.0
follow_of board m kind (Step.Verify a) = after_verify board m kind a.0
follow_of board m kind Step.Run = None

-- ---- where a step stands

-- a run of pages or a piece starts there
abbrev pub at_start : ℕ → List ℕ → Step → Bool
at_start board m (Step.Erase p) = run_starts board m p.0
at_start board m (Step.Write a) = piece_starts m a.0
at_start board m (Step.Verify a) = piece_starts m a.0
at_start board m Step.Run = true

-- the place is a start, and the k-th from base on
abbrev pub ranked : (ℕ → Bool) → ℕ → ℕ → ℕ → Bool
ranked starts base a k = both (starts a) (eqb (base + count starts a) k)

-- its packet is the k-th of the file
unfoldable pub stands_at : ℕ → List ℕ → RunKind → Step → ℕ → Bool
stands_at board m kind (Step.Erase p) k = ranked (run_starts board m) 0 p.0 k
stands_at board m kind (Step.Write a) k = ranked (piece_starts m) (run_count board m) a.0 k
stands_at board m kind (Step.Verify a) k = ranked (piece_starts m) (before_verify board m) a.0 k
stands_at board m kind Step.Run k = both (sends_r kind) (eqb (before_r board m) k)

-- the address that a step names: 0 for R, the board's end for a page past the board
unfoldable pub place_of : ℕ → Step → ℕ
place_of board (Step.Erase p) = pick (leb board p.0) (start_of board) (start_of p.0)
place_of board (Step.Write a) = a.0
place_of board (Step.Verify a) = a.0
place_of board Step.Run = 0

-- what a survey at that address says of it
abbrev pub stands_by : Surveyed → RunKind → Step → ℕ → Bool
stands_by f kind (Step.Erase p) k = both f.run (eqb f.below.runs k)
stands_by f kind (Step.Write a) k = both f.piece (eqb (f.all.runs + f.below.pieces) k)
stands_by f kind (Step.Verify a) k = both f.piece (eqb (f.all.runs + f.all.pieces + f.below.pieces) k)
stands_by f kind Step.Run k = both (sends_r kind) (eqb (f.all.runs + 2 * f.all.pieces) k)
