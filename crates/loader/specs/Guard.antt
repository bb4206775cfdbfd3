-- What protection guards, and the two inputs that change what is in force.
use Rattle.std.specs.Prelude.{ℕ, Bool, true, false, List, eqb, get_or}
use Rattle.basis.specs.Bits.{bit}
use Rattle.basis.specs.Choice.{both}
use Rattle.basis.specs.Refusals.{Answer, refused, given}
use Rattle.basis.specs.Units.{group_of, page_group_of}
use Rattle.loader.specs.Commands.{mass_erase}
use Rattle.loader.specs.Take.{sent_data}
use Rattle.loader.specs.declared.state.Loader.{Loader}
use Rattle.packet.specs.Packet.{Parts, read_of}
use Rattle.packet.specs.Table.{erase_byte, protect_byte}

-- the byte b, or the page q, lies in a protected group
abbrev pub guarded_byte : Loader → ℕ → Bool
guarded_byte l b = bit l.protection.groups (group_of b)

abbrev pub guarded_page : Loader → ℕ → Bool
guarded_page l q = bit l.protection.groups (page_group_of q)

-- the byte that a packet has after its address: E's page count, P's type
abbrev pub after_address : List ℕ → Parts → ℕ
after_address s p = get_or (sent_data s p) 0 0

-- what was read is a packet of which the test holds
abbrev pub packet_that : (Parts → Bool) → Answer Parts → Bool
packet_that t (refused n) = false
packet_that t (given p) = t p

-- the input is the mass erase
abbrev pub mass_erases : List ℕ → Bool
mass_erases s =
    packet_that (λ p. both (eqb p.command erase_byte) (mass_erase p.address (after_address s p))) (read_of s)

-- the input is a P of type 0x01
abbrev pub closes : List ℕ → Bool
closes s = packet_that (λ p. both (eqb p.command protect_byte) (eqb (after_address s p) 0x01)) (read_of s)

-- accepted, whatever it gives
abbrev pub accepts : {A : Type 0} → Answer A → Bool
accepts (refused n) = false
accepts (given x) = true
