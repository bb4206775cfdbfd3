-- The log record, big-endian: length 0x0008, version 01, outcome, packets acknowledged, packet total, named
-- bytes (two bytes each); for the long board length 0x000E, version 02 and four bytes each.
use Rattle.std.specs.Prelude.{ℕ, ◌+◌, ◌*◌, Bool, not, List, [], ◌∷◌, ◌++◌, eqb, leb, ltb, length, get_or, Option, Some, None}
use Rattle.basis.specs.Board.{pages_of, board_of, version_of, count_bytes, log_length, board_logged}
use Rattle.basis.specs.Choice.{pick, both, either}
use Rattle.basis.specs.Lists.{pair_at}
use Rattle.basis.specs.Refusals.{Answer, refused, given, ◌when◌, first, on_board}
use Rattle.basis.specs.Units.{start_of}
use Rattle.basis.specs.declared.board.Board.{Board}
use Rattle.basis.specs.declared.kind.RunKind.{RunKind}
use Rattle.events.specs.Endings.{own_number}
use Rattle.session.specs.Phases.{ended}
use Rattle.session.specs.declared.phase.Phase.{Phase}
use Rattle.session.specs.Session.{Session}
use Rattle.service_log.specs.Big.{big_of, big_at, fits_in}
use Rattle.service_log.specs.declared.read.Record.{Record}

-- how many bytes a board's record has: two more than its length field says
abbrev pub record_size : Board → ℕ
record_size b = 2 + log_length b

-- no board's has fewer, and none more
abbrev pub record_least : ℕ
record_least = 10

abbrev pub record_most : ℕ
record_most = 16

-- outcome 0 valid, 1 verified and held
abbrev pub good : ℕ → Bool
good o = leb o 1

-- else 40 to 43
abbrev pub known : ℕ → Bool
known o = either (good o) (both (leb 40 o) (leb o 43))

-- a total under 3, or a total of 3 with outcome 0
abbrev pub few : ℕ → ℕ → Bool
few o t = either (ltb t 3) (both (eqb o 0) (eqb t 3))

-- a false record, of outcome o, with k of t packets acknowledged and n bytes: outcome unknown, total too
-- small, bytes 0 or above the board's (63,488 or 126,976), acknowledged above total, outcome 0 or 1 unless
-- acknowledged equals total and the reverse (the `pick`), outcome 42 with any acknowledged
unfoldable pub is_false_of : ℕ → ℕ → ℕ → ℕ → ℕ → Bool
is_false_of board o k t n =
    either (not (known o))
    (either (few o t)
    (either (eqb n 0)
    (either (ltb (start_of board) n)
    (either (ltb t k)
    (pick (good o) (not (eqb k t))
    (either (eqb k t)
    (both (eqb o 42) (ltb 0 k))))))))

-- how a session ended: 0 valid, 1 verified and held, 40 to 43; 45, which no record has, for one that is
-- unfinished, or whose ending is not its run kind's
abbrev pub outcome_of : RunKind → Phase → ℕ
outcome_of kind Phase.Greeting = 45
outcome_of kind (Phase.Out s) = 45
outcome_of kind (Phase.Ended o) = own_number kind o

-- and 45 where there is no such board
abbrev pub outcome_on : Option Board → RunKind → Phase → ℕ
outcome_on None kind phase = 45
outcome_on (Some b) kind phase = outcome_of kind phase

abbrev pub logged_outcome_of : Session → ℕ
logged_outcome_of s = outcome_on (board_of s.board) s.kind s.phase

-- the three counts fit w bytes each
abbrev pub counts_fit : ℕ → ℕ → ℕ → ℕ → Bool
counts_fit w k t n = both (fits_in w k) (both (fits_in w t) (fits_in w n))

-- a board's record of outcome o, with k of t packets acknowledged and n bytes
unfoldable pub record_bytes : Board → ℕ → ℕ → ℕ → ℕ → List ℕ
record_bytes b o k t n =
    let w = count_bytes b in
    big_of 2 (log_length b) ++ (version_of b ∷ o ∷ []) ++ big_of w k ++ big_of w t ++ big_of w n

-- writing an outcome and counts of a board into a buffer of so many bytes: 45 where the counts do not fit, or
-- would read as 53, as does an outcome that no record has; then 20
unfoldable pub counts_on : Board → ℕ → ℕ → ℕ → ℕ → ℕ → Answer (List ℕ)
counts_on b room o k t n =
    first
    (45 when not (counts_fit (count_bytes b) k t n)
    ∷ 45 when is_false_of (pages_of b) o k t n
    ∷ 20 when ltb room (record_size b) ∷ [])
    (given (record_bytes b o k t n))

-- by a board's number: 65 where there is no such board
abbrev pub counts_by : ℕ → ℕ → ℕ → ℕ → ℕ → ℕ → Answer (List ℕ)
counts_by board room o k t n = on_board (board_of board) (λ (b : Board). counts_on b room o k t n)

-- writing a session of a board: 45 for one that is unfinished; else as its outcome, which is 45 where its
-- ending is not its run kind's, and its counts
unfoldable pub write_on : Board → ℕ → Session → Answer (List ℕ)
write_on b room s =
    first (45 when not (ended s.phase) ∷ [])
    (counts_on b room (outcome_of s.kind s.phase) s.acknowledged s.total s.named)

-- a session carries its board: 65 where there is no such board
abbrev pub write_of : ℕ → Session → Answer (List ℕ)
write_of room s = on_board (board_of s.board) (λ (b : Board). write_on b room s)

-- what an input says, with counts of w bytes
abbrev pub record_at : ℕ → List ℕ → Record
record_at w s =
    record {
      version = get_or s 2 0;
      outcome = get_or s 3 0;
      acknowledged = big_at w s 4;
      total = big_at w s (4 + w);
      bytes = big_at w s (4 + 2 * w);
    }

-- reading by the board that the length field tells: 51 an input not two bytes longer than it says,
-- 52 version not the length's, 53 a false record
unfoldable pub read_on : Board → List ℕ → Answer Record
read_on b s =
    let r = record_at (count_bytes b) s in
    first
    (51 when not (eqb (length s) (record_size b))
    ∷ 52 when not (eqb r.version (version_of b))
    ∷ 53 when is_false_of (pages_of b) r.outcome r.acknowledged r.total r.bytes ∷ [])
    (given r)

-- 51 where the length field is neither 8 nor 0x000E
abbrev pub read_by : Option Board → List ℕ → Answer Record
read_by None s = refused 51
read_by (Some b) s = read_on b s

-- reading: 50 under 10 bytes, then by the length field
unfoldable pub read_of : List ℕ → Answer Record
read_of s = first (50 when ltb (length s) record_least ∷ []) (read_by (board_logged (pair_at s 0)) s)
