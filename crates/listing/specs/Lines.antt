-- The lines that the programs print.
use Rattle.std.specs.Prelude.{ℕ, List, [], ◌∷◌, ◌++◌, codes}
use Rattle.basis.specs.Refusals.{Answer, refused, given}
use Rattle.image.specs.Writer.{spelt}
use Rattle.packet.specs.Packet.{command}
use Rattle.listing.specs.Numbers.{decimal_of}
use Rattle.listing.specs.Text.{Blame}
use Rattle.listing.specs.declared.lines.Line.{Line}
use Rattle.service_log.specs.declared.read.Record.{Record}

-- each line is closed by 0A
abbrev pub line_end : List ℕ
line_end = 0x0A ∷ []

-- a word and a number
abbrev pub field : List ℕ → ℕ → List ℕ
field word n = word ++ decimal_of n

abbrev pub refused_word : List ℕ
refused_word = codes "REFUSED "

-- REFUSED, the line number, the number and the column, with single spaces
abbrev pub refusal_text : Blame → List ℕ
refusal_text b = field refused_word b.line ++ (field (codes " ") b.number ++ field (codes " ") b.column)

-- closed by 0A
unfoldable pub refusal_at : Blame → List ℕ
refusal_at b = refusal_text b ++ line_end

-- no line of a refusal is longer: 8 characters, three numbers of 20 digits, two spaces and 0A
abbrev pub refusal_room : ℕ
refusal_room = 71

-- REFUSED and the number
unfoldable pub refusal_line : ℕ → List ℕ
refusal_line k = field refused_word k ++ line_end

-- ---- the plan

-- the line above the steps
abbrev pub head_text : List ℕ
head_text = codes "STEP KIND PACKET"

-- closed by 0A
abbrev pub head_line : List ℕ
head_line = head_text ++ line_end

-- step number, command letter and whole packet in hex; the command is the packet's fourth byte
unfoldable pub step_line : ℕ → List ℕ → List ℕ
step_line n p = decimal_of n ++ (0x20 ∷ command p ∷ 0x20 ∷ (spelt p ++ line_end))

-- no line above or below the steps is longer: 6 characters, 20 digits and 0A
abbrev pub total_room : ℕ
total_room = 27

-- TOTAL and the number of packets
abbrev pub total_text : ℕ → List ℕ
total_text n = field (codes "TOTAL ") n

-- closed by 0A
unfoldable pub total_line : ℕ → List ℕ
total_line n = total_text n ++ line_end

-- ---- a line by itself

-- of a line that is a word and at most a number
abbrev pub line_text : Line → List ℕ
line_text Line.Head = head_text
line_text (Line.Total n) = total_text n
line_text (Line.Refused k) = field refused_word k

-- ---- the log

-- VERSION, OUTCOME, ACKED, TOTAL and BYTES, each with its number
abbrev pub record_text : Record → List ℕ
record_text x =
    field (codes "VERSION ") x.version
    ++ (field (codes " OUTCOME ") x.outcome
    ++ (field (codes " ACKED ") x.acknowledged
    ++ (field (codes " TOTAL ") x.total
    ++ field (codes " BYTES ") x.bytes)))

-- closed by 0A
unfoldable pub record_line : Record → List ℕ
record_line x = record_text x ++ line_end

-- no line of a record is longer: 38 characters of words, five numbers of 20 digits and 0A
abbrev pub log_room : ℕ
log_room = 139

-- what a record says, or REFUSED and the number
abbrev pub log_text : Answer Record → List ℕ
log_text (refused k) = field refused_word k
log_text (given x) = record_text x

-- closed by 0A
abbrev pub log_line : Answer Record → List ℕ
log_line (refused k) = refusal_line k
log_line (given x) = record_line x
