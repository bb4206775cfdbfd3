-- The units: addresses, pages and groups, and the sizes of a board. Every conversion rounds down.
use Rattle.std.specs.Prelude.{ℕ, ◌*◌, ◌/◌, Bool, ◌==◌}
use Rattle.basis.specs.Board.{page_size, group_pages, group_size}
use Rattle.basis.specs.Choice.{both}

-- the page of an address
abbrev pub page_of : ℕ → ℕ
page_of a = a / page_size

-- the group of an address
abbrev pub group_of : ℕ → ℕ
group_of a = a / group_size

-- the group of a page
abbrev pub page_group_of : ℕ → ℕ
page_group_of p = p / group_pages

-- the first address of a page
abbrev pub start_of : ℕ → ℕ
start_of p = p * page_size

-- a board is told by how many pages it has: its flash ends where one page more would start,
-- and its map has one bit for each byte
abbrev pub map_bytes : ℕ → ℕ
map_bytes board = start_of board / 8

-- an image as long as the board, and a map of one bit an address
abbrev pub right_sizes_in : ℕ → ℕ → ℕ → Bool
right_sizes_in size image map = both (image == size) (map == size / 8)
