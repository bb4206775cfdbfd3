-- Flash: single bytes stored one after another, from an address upward.
use Rattle.std.specs.Prelude.{◌≡◌, ℕ, ◌+◌, ◌<◌, List, replicate, bit_and, slice_index}
use Rattle.basis.specs.Lists.{stored, copy_of}

-- each byte becomes old AND new
abbrev pub store_of : List ℕ → ℕ → List ℕ → List ℕ
store_of flash a s = stored bit_and flash a s

-- n bytes become 0xFF
abbrev pub erase_of : List ℕ → ℕ → ℕ → List ℕ
erase_of flash a n = copy_of flash a (replicate n 0xFF)

-- the n bytes from a on are 0xFF
abbrev pub Blank : List ℕ → ℕ → ℕ → Type 0
Blank flash a n = (k : ℕ) → k < n → slice_index flash (a + k) ≡ 0xFF
