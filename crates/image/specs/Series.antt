-- A series of records and the answer to each; what is the same under another rule set.
use Rattle.std.specs.Prelude.{ℕ, Bool, true, not, List, [], ◌∷◌, drop, ◌==◌}
use Rattle.basis.specs.Choice.{both}
use Rattle.image.specs.Digits.{decoded}
use Rattle.image.specs.Hex.{File, hex, file, record_in}
use Rattle.image.specs.Record.{kind, Pointed, wrong, right, pointed}
use Rattle.image.specs.declared.hex.Hex.{Hex}

-- the file after an answer: a refusal leaves it as it stood
abbrev pub file_after : File → Pointed File → File
file_after f (wrong n c) = f
file_after f (right g) = g

-- the answers to the records of a series, one by one, with reader, image and map as each leaves them
unfoldable pub answers : ℕ → List (List ℕ) → File → List (Pointed File)
answers size [] f = []
answers size (l ∷ s) f =
    let a = pointed l (record_in size f.reader l f.image f.map) in
    a ∷ answers size s (file_after f a)

-- the file after all of them
unfoldable pub last_file : ℕ → List (List ℕ) → File → File
last_file size [] f = f
last_file size (l ∷ s) f =
    last_file size s (file_after f (pointed l (record_in size f.reader l f.image f.map)))

-- the same reader under a rule set, and nothing else changed; so of a file and of an answer
abbrev pub ruled : ℕ → Hex → Hex
ruled rules h = hex rules h.linear h.segment h.segmented h.ended h.taken

abbrev pub under : ℕ → File → File
under rules f = file (ruled rules f.reader) f.image f.map

abbrev pub answer_under : ℕ → Pointed File → Pointed File
answer_under rules (wrong n c) = wrong n c
answer_under rules (right f) = right (under rules f)

-- no record of the series is of type 02
abbrev pub no_segments : List (List ℕ) → Bool
no_segments [] = true
no_segments (l ∷ s) = both (not (kind (decoded (drop 1 l)) == 2)) (no_segments s)
