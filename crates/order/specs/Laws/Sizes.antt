-- Laws of what a session is lent.
use Rattle.std.specs.Prelude.{ℕ, ◌≤◌, true, ◌≡◌, leb}
use Rattle.std.proofs.Common.{leb-true}
use Rattle.basis.specs.Laws.Choice.{both_true}
use Rattle.basis.specs.Laws.Units.{sizes-right as file-right}
use Rattle.basis.specs.Units.{start_of, map_bytes, right_sizes_in}
use Rattle.packet.specs.Packet.{packet_most}
use Rattle.order.specs.Sizes.{right_sizes}

-- what right sizes are
pub sizes-right : (board : ℕ) (i m p : ℕ) → right_sizes board i m p ≡ true
    → (i ≡ start_of board) × (m ≡ map_bytes board) × (packet_most ≤ p)
sizes-right board i m p e =
    let a = both_true (right_sizes_in (start_of board) i m) (leb packet_most p) e in
    let b = file-right (start_of board) i m a.0 in
    (b.0, b.1, leb-true packet_most p a.1)
