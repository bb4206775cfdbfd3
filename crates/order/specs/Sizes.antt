-- What a session is lent.
use Rattle.std.specs.Prelude.{ℕ, Bool, leb}
use Rattle.basis.specs.Choice.{both}
use Rattle.basis.specs.Units.{start_of, right_sizes_in}
use Rattle.packet.specs.Packet.{packet_most}

-- an image of the board's size, a map of one bit for each byte, a packet buffer of at least 259
abbrev pub right_sizes : ℕ → ℕ → ℕ → ℕ → Bool
right_sizes board image m packet = both (right_sizes_in (start_of board) image m) (leb packet_most packet)
