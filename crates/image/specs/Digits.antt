-- The characters of a hex file.
use Rattle.std.specs.Prelude.{ℕ, ◌+◌, ◌-◌, ◌*◌, List, [], ◌∷◌, drop, nat_le, nat_lt}
use Rattle.basis.specs.Choice.{pick, both}

-- the value of a digit, '0' to '9', 'A' to 'F' or 'a' to 'f'; 16 for a character that is none
unfoldable pub digit_of : ℕ → ℕ
digit_of c =
    pick (both (nat_le 0x30 c) (nat_le c 0x39)) (c - 0x30)
    (pick (both (nat_le 0x41 c) (nat_le c 0x46)) (c - 0x37)
    (pick (both (nat_le 0x61 c) (nat_le c 0x66)) (c - 0x57) 16))

-- how many digits stand before the first character that is none
unfoldable pub digits_before : List ℕ → ℕ
digits_before [] = 0
digits_before (c ∷ s) = pick (nat_lt (digit_of c) 16) (1 + digits_before s) 0

-- the place of the first character after the colon that is no digit; the line's end where all are
abbrev pub first_bad : List ℕ → ℕ
first_bad line = 1 + digits_before (drop 1 line)

-- the bytes that the characters spell, two digits a byte, the higher first, as far as all are digits
unfoldable pub decoded : List ℕ → List ℕ
decoded [] = []
decoded (c ∷ []) = []
decoded (c ∷ d ∷ s) =
    pick (both (nat_lt (digit_of c) 16) (nat_lt (digit_of d) 16))
    ((16 * digit_of c + digit_of d) ∷ decoded s) []
