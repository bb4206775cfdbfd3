-- A text as it comes, byte by byte, with what is lent: the line buffer, image and map.
use Rattle.std.specs.Prelude.{◌≡◌, ℕ, ◌+◌, ◌-◌, ◌%◌, ◌^◌, List, [], ◌∷◌, length, take, ◌==◌, nat_lt, slice_set}
use Rattle.basis.specs.Choice.{pick}
use Rattle.image.specs.Hex.{Settled, settled_as, settled, record_in, close_of}
use Rattle.image.specs.Record.{Pointed, wrong, right, pointed, no_line}
use Rattle.image.specs.declared.hex.Hex.{Hex}
use Rattle.listing.specs.Text.{Lined, stopped, going, at_line, Verdict, Result, result}
use Rattle.listing.specs.declared.text.Text.{Text}

-- of a text so far: refused, or open
abbrev pub Progress : Type 0
Progress = Lined Text

pub record Fed : Type 0 where
  pub progress : Progress
  pub line : List ℕ
  pub image : List ℕ
  pub map : List ℕ

abbrev pub state : Progress → List ℕ → List ℕ → List ℕ → Fed
state p line image map = record { progress = p; line = line; image = image; map = map }

-- n lines are taken, and none is open
abbrev pub text_at : ℕ → Hex → Text
text_at n h = record { hex = h; lines = n; len = 0; last = 0 }

-- after line n, by what the hex reader answered to it; after line 0, by its start
abbrev pub after_line : ℕ → Pointed Hex → Progress
after_line n = at_line n (text_at n)

abbrev pub fed_after : ℕ → Settled → List ℕ → Fed
fed_after n o line = state (after_line n o.answer) line o.image o.map

-- the number of the next line, in 64 bits
abbrev pub next_line : Text → ℕ
next_line t = (t.lines + 1) % 2 ^ 64

-- of a line of n bytes the reader sees no more than the k that are kept: where they end for it, the line ends
abbrev pub column_in : ℕ → ℕ → ℕ → ℕ
column_in n k c = pick (c == k) n c

abbrev pub wholly : ℕ → ℕ → Pointed Hex → Pointed Hex
wholly n k (wrong x c) = wrong x (column_in n k c)
wholly n k (right h) = right h

abbrev pub settled_wholly : ℕ → ℕ → Settled → Settled
settled_wholly n k o = settled_as (wholly n k o.answer) o.image o.map

-- a line of n bytes, as many of them as the buffer holds, as the next record
abbrev pub record_kept : ℕ → Hex → ℕ → List ℕ → List ℕ → List ℕ → Settled
record_kept size h n line image map =
    let l = take n line in
    settled_wholly n (length l) (settled (pointed l (record_in size h l image map)) image map)

abbrev pub fed_line : ℕ → Text → ℕ → List ℕ → List ℕ → List ℕ → Fed
fed_line size t n line image map =
    fed_after (next_line t) (record_kept size t.hex n line image map) line

-- the open line is one byte longer, as far as 64 bits count
unfoldable pub one_more : ℕ → ℕ
one_more n = pick (nat_lt (n + 1) (2 ^ 64)) (n + 1) n

-- with an open line of n bytes, b the last
abbrev pub with_open : Text → ℕ → ℕ → Text
with_open t n b = record { hex = t.hex; lines = t.lines; len = n; last = b }

-- the open line's length without the one 0D before its 0A
unfoldable pub ended_length : Text → ℕ
ended_length t = pick (t.last == 0x0D) (t.len - 1) t.len

-- 0A ends the line; any other byte is kept where the line buffer has room
unfoldable pub fed_byte : ℕ → Text → ℕ → List ℕ → List ℕ → List ℕ → Fed
fed_byte size t b line image map =
    pick (b == 0x0A) (fed_line size t (ended_length t) line image map)
    (state (going (with_open t (one_more t.len) b)) (slice_set line t.len b) image map)

abbrev pub progress_byte : ℕ → Progress → ℕ → List ℕ → List ℕ → List ℕ → Fed
progress_byte size (stopped x) b line image map = state (stopped x) line image map
progress_byte size (going t) b line image map = fed_byte size t b line image map

abbrev pub byte_in : ℕ → Fed → ℕ → Fed
byte_in size s b = progress_byte size s.progress b s.line s.image s.map

-- the bytes one by one
unfoldable pub feed_in : ℕ → Fed → List ℕ → Fed
feed_in size s [] = s
feed_in size s (b ∷ t) = feed_in size (byte_in size s b) t

-- bytes of the open line at once: as its bytes one by one, whatever the board
abbrev pub KeepsAll : Text → List ℕ → List ℕ → Text → List ℕ → Type 0
KeepsAll t line bytes u kept =
    (size : ℕ) (image map : List ℕ) → state (going u) kept image map
    ≡ feed_in size (state (going t) line image map) bytes

-- the line after the last 0A, as it stands
unfoldable pub last_in : ℕ → Text → List ℕ → List ℕ → List ℕ → Fed
last_in size t line image map =
    pick (t.len == 0) (state (going t) line image map)
    (fed_line size t t.len line image map)

-- the reader is closed
abbrev pub after_closing : Text → Pointed Hex → Progress
after_closing t = at_line 0 (λ h. t)

unfoldable pub shut_of : Progress → Progress
shut_of (stopped b) = stopped b
shut_of (going t) = after_closing t (pointed no_line (close_of t.hex))

abbrev pub fed_closing : Fed → Fed
fed_closing s = state (shut_of s.progress) s.line s.image s.map

abbrev pub progress_closed : ℕ → Progress → List ℕ → List ℕ → List ℕ → Fed
progress_closed size (stopped b) line image map = state (stopped b) line image map
progress_closed size (going t) line image map = fed_closing (last_in size t line image map)

abbrev pub close_in : ℕ → Fed → Fed
close_in size s = progress_closed size s.progress s.line s.image s.map

-- what a reading came to
abbrev pub ended_of : Progress → Verdict
ended_of (stopped b) = stopped b
ended_of (going t) = going tt

abbrev pub fed_result : Fed → Result
fed_result s = result (ended_of s.progress) s.image s.map

-- what a text comes to from a state on
abbrev pub came_to : ℕ → Fed → List ℕ → Result
came_to size s text = fed_result (close_in size (feed_in size s text))
