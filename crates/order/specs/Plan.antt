-- The packets of a file, in order: one E for each maximal run of touched pages, one W for each piece,
-- the same pieces by V, one R to reset or to jump; to hold no R at all.
use Rattle.std.specs.Prelude.{ℕ, zero, suc, ◌+◌, ◌*◌, Bool, true, false, List, [], ◌∷◌, ◌++◌, map, eqb, take, drop}
use Rattle.basis.specs.Choice.{pick, either}
use Rattle.basis.specs.Units.{start_of}
use Rattle.basis.specs.declared.kind.RunKind.{RunKind}
use Rattle.packet.specs.Packet.{packet}
use Rattle.packet.specs.Table.{erase_byte, write_byte, verify_byte, run_byte}
use Rattle.runs.specs.Pieces.{piece_starts, piece_len, run_starts, run_len, run_count, piece_count}

-- the bytes of the piece at an address
abbrev pub piece_bytes : List ℕ → List ℕ → ℕ → List ℕ
piece_bytes image m a = take (piece_len m a) (drop a image)

-- reset and jump send R, hold does not
abbrev pub sends_r : RunKind → Bool
sends_r RunKind.Reset = true
sends_r RunKind.Jump = true
sends_r RunKind.Hold = false

-- W and V carry a piece
abbrev pub carries_piece : ℕ → Bool
carries_piece c = either (eqb c write_byte) (eqb c verify_byte)

-- E for the run of pages at q, W and V for the piece at a
abbrev pub erase_packet : ℕ → List ℕ → ℕ → List ℕ
erase_packet board m q = packet erase_byte (start_of q) (run_len board m q ∷ [])

abbrev pub write_packet : List ℕ → List ℕ → ℕ → List ℕ
write_packet image m a = packet write_byte a (piece_bytes image m a)

abbrev pub verify_packet : List ℕ → List ℕ → ℕ → List ℕ
verify_packet image m a = packet verify_byte a (piece_bytes image m a)

-- R with address 1 (reset) or 0 (jump); to hold there is none
abbrev pub run_packet : RunKind → List ℕ
run_packet RunKind.Reset = packet run_byte 1 []
run_packet RunKind.Jump = packet run_byte 0 []
run_packet RunKind.Hold = []

-- the numbers below n that pass, ascending
unfoldable pub places : (ℕ → Bool) → ℕ → List ℕ
places p zero = []
places p (suc n) = pick (p n) (places p n ++ (n ∷ [])) (places p n)

-- all packets of the file
unfoldable pub plan : ℕ → List ℕ → List ℕ → RunKind → List (List ℕ)
plan board image m kind =
    map (erase_packet board m) (places (run_starts board m) board)
    ++ (map (write_packet image m) (places (piece_starts m) (start_of board))
    ++ (map (verify_packet image m) (places (piece_starts m) (start_of board))
    ++ pick (sends_r kind) (run_packet kind ∷ []) []))

-- the packets before the first V and before R, with e erases and w pieces: e + w and e + 2w
abbrev pub before_verify : ℕ → List ℕ → ℕ
before_verify board m = run_count board m + piece_count board m

abbrev pub before_r : ℕ → List ℕ → ℕ
before_r board m = run_count board m + 2 * piece_count board m

-- how many R there are
abbrev pub r_count : RunKind → ℕ
r_count kind = pick (sends_r kind) 1 0

-- the total is e + 2w + 1, and e + 2w to hold
abbrev pub total : ℕ → List ℕ → RunKind → ℕ
total board m kind = before_r board m + r_count kind
