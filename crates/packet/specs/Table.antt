-- The command table: command, N, what follows the address.
use Rattle.std.specs.Prelude.{ℕ, Bool, not, List, [], ◌∷◌, leb, eqb}
use Rattle.basis.specs.Choice.{pick, both, either}
use Rattle.basis.specs.Refusals.{Rule, ◌when◌}

-- the commands E, W, V, P and R
abbrev pub erase_byte : ℕ
erase_byte = 0x45

abbrev pub write_byte : ℕ
write_byte = 0x57

abbrev pub verify_byte : ℕ
verify_byte = 0x56

abbrev pub protect_byte : ℕ
protect_byte = 0x50

abbrev pub run_byte : ℕ
run_byte = 0x52

-- a command that the table has
abbrev pub listed : ℕ → Bool
listed c =
    either (eqb c erase_byte)
    (either (eqb c write_byte)
    (either (eqb c verify_byte)
    (either (eqb c protect_byte)
    (eqb c run_byte))))

-- N of W and of V: 1 to 250 bytes
abbrev pub data_count : ℕ → Bool
data_count n = both (leb 6 n) (leb n 255)

-- the type of P
abbrev pub protect_type : ℕ → Bool
protect_type t = either (eqb t 0x00) (either (eqb t 0x0F) (eqb t 0x01))

-- the row of a listed command c: its N, and for P the byte t after the address
abbrev pub in_shape : ℕ → ℕ → ℕ → Bool
in_shape c n t =
    pick (eqb c erase_byte) (eqb n 6)
    (pick (eqb c write_byte) (data_count n)
    (pick (eqb c verify_byte) (data_count n)
    (pick (eqb c protect_byte) (both (eqb n 6) (protect_type t))
    (eqb n 5))))

-- 5: command not in the table; 6: N or P type not in the table
abbrev pub table : ℕ → ℕ → ℕ → List Rule
table c n t = 5 when not (listed c) ∷ 6 when not (in_shape c n t) ∷ []
