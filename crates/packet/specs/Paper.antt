-- The paper's numbers and values for each case of the code's answers.
use Rattle.std.specs.Prelude.{ℕ, Bool, Result}
use Rattle.basis.specs.Choice.{pick}
use Rattle.basis.specs.Refusals.{Answer, refused, given, answer_of}
use Rattle.packet.specs.Packet.{Parts}
use Rattle.packet.specs.Table.{erase_byte, write_byte, verify_byte, protect_byte, run_byte}
use Rattle.packet.specs.declared.build.Unbuilt.{Unbuilt}
use Rattle.packet.specs.declared.build.Unbuilt.TheVariants.{NoRoom, Table}
use Rattle.packet.specs.declared.read.Packet.{Packet}
use Rattle.packet.specs.declared.table.Command.{Command}
use Rattle.packet.specs.declared.table.Command.TheVariants.{Erase, Write, Verify, Protect, Run}
use Rattle.packet.specs.declared.table.Refusal.{Refusal}
use Rattle.packet.specs.declared.table.Refusal.TheVariants.{Start, Length, Count, Checksum, Unlisted, Shape}

-- the command's byte
abbrev pub paper_command : Command → ℕ
paper_command Erase = erase_byte
paper_command Write = write_byte
paper_command Verify = verify_byte
paper_command Protect = protect_byte
paper_command Run = run_byte

-- the refusal's number
abbrev pub paper_refusal : Refusal → ℕ
paper_refusal Start = 1
paper_refusal Length = 2
paper_refusal Count = 3
paper_refusal Checksum = 4
paper_refusal Unlisted = 5
paper_refusal Shape = 6

-- why a packet is not built
abbrev pub paper_unbuilt : Unbuilt → ℕ
paper_unbuilt NoRoom = 20
paper_unbuilt (Table x) = paper_refusal x

-- the table's word on a packet: the command's byte, or the refusal
abbrev pub paper_row : Result Command Refusal → Answer ℕ
paper_row = answer_of paper_refusal paper_command

-- the row of a command that is listed: 6 where the rest does not fit it
abbrev pub shaped_of : Command → Bool → Answer ℕ
shaped_of c fits = pick fits (given (paper_command c)) (refused 6)

-- the packet's length, or the refusal
abbrev pub paper_built : Result ℕ Unbuilt → Answer ℕ
paper_built = answer_of paper_unbuilt (λ n. n)

-- what a packet says
abbrev pub parts_of : Packet → Parts
parts_of p = record { command = paper_command p.command; address = p.address.0; place = p.at; size = p.len }

-- what the packet says, or the refusal
abbrev pub paper_reading : Result Packet Refusal → Answer Parts
paper_reading = answer_of paper_refusal parts_of
