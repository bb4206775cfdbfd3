-- The byte turned for V, and turned back.
use Rattle.std.specs.Prelude.{ℕ, ◌+◌, ◌*◌, ◌/◌, ◌%◌}

-- b times 8 modulo 256, plus b divided by 32
abbrev pub turned_of : ℕ → ℕ
turned_of b = b * 8 % 256 + b / 32

-- turned back
abbrev pub restored_of : ℕ → ℕ
restored_of t = t * 32 % 256 + t / 8
