-- Hex text: its lines, and what reading them one after another gives.
use Rattle.std.specs.Prelude.{ℕ, ◌+◌, ◌-◌, List, [], ◌∷◌, ◌++◌, length, take, ◌==◌, slice_index}
use Rattle.basis.specs.Choice.{pick}
use Rattle.image.specs.Hex.{File, start_in, record_in, close_of}
use Rattle.image.specs.Record.{record_most, Pointed, wrong, right, pointed, no_line}

-- one 0D before the 0A is dropped
unfoldable pub trimmed_of : List ℕ → List ℕ
trimmed_of l = pick (slice_index l (length l - 1) == 0x0D) (take (length l - 1) l) l

-- how much of a line is enough: the longest record, and one more to tell a longer line
abbrev pub line_room : ℕ
line_room = record_most + 1

-- the lines of a text that follows an open line: a line ends at 0A, and nothing after the last 0A is no line
unfoldable pub lines_from : List ℕ → List ℕ → List (List ℕ)
lines_from l [] = pick (length l == 0) [] (l ∷ [])
lines_from l (b ∷ t) = pick (b == 0x0A) (trimmed_of l ∷ lines_from [] t) (lines_from (l ++ (b ∷ [])) t)

abbrev pub text_lines : List ℕ → List (List ℕ)
text_lines t = lines_from [] t

-- the paper's number of a refusal with its line, counted from 1, and its column, counted from 0;
-- line 0 where no line is to blame, as at closing
pub record Blame : Type 0 where
  pub line : ℕ
  pub number : ℕ
  pub column : ℕ

-- refused at a line, or going on
pub data Lined (A : Type 0) : Type 0 where
  stopped : Blame → Lined A
  going : A → Lined A

abbrev pub refused_at : {A : Type 0} → ℕ → ℕ → ℕ → Lined A
refused_at n k c = stopped (record { line = n; number = k; column = c })

-- an answer, refused at line n or going on as g says
abbrev pub at_line : {A B : Type 0} → ℕ → (A → B) → Pointed A → Lined B
at_line n g (wrong k c) = refused_at n k c
at_line n g (right x) = going (g x)

-- of a whole text: refused, or a file
abbrev pub Verdict : Type 0
Verdict = Lined Unit

-- with image and map as they then stand
pub record Result : Type 0 where
  pub verdict : Verdict
  pub image : List ℕ
  pub map : List ℕ

abbrev pub result : Verdict → List ℕ → List ℕ → Result
result v image map = record { verdict = v; image = image; map = map }

-- on with the file that a record gives, or refused at line n
abbrev pub unless_refused : ℕ → List ℕ → List ℕ → Pointed File → (File → Result) → Result
unless_refused n image map (wrong k c) g = result (refused_at n k c) image map
unless_refused n image map (right f) g = g f

-- records one after another, n before them; then closing
unfoldable pub read_from : ℕ → ℕ → List (List ℕ) → File → Result
read_from size n [] f = result (at_line 0 (λ h. tt) (pointed no_line (close_of f.reader))) f.image f.map
read_from size n (l ∷ ls) f =
    unless_refused (n + 1) f.image f.map (pointed l (record_in size f.reader l f.image f.map))
    (read_from size (n + 1) ls)

-- a whole text, under rule set 1: 20 where image or map has another size, else line by line
unfoldable pub read_in : ℕ → List ℕ → List ℕ → List ℕ → Result
read_in size t image map =
    unless_refused 0 image map (pointed no_line (start_in size 1 image map)) (read_from size 0 (text_lines t))
