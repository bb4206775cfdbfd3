-- Two outcomes that a contract permits are equal: the paper's numbers and values tell all cases apart.
use Rattle.std.specs.Prelude.{ℕ, ◌≤◌, List, ◌≡◌, refl, eqb, Result}
use Rattle.std.proofs.Common.{ap, sym, ◌∙◌, arith}
use Rattle.basis.specs.Choice.{pick}
use Rattle.basis.specs.Laws.Refusals.{answer-one, back_one, determined}
use Rattle.basis.specs.Lists.{overlay}
use Rattle.basis.specs.Refusals.{Answer, counted, written}
use Rattle.packet.specs.Packet.{Parts}
use Rattle.packet.specs.Paper.{paper_command, paper_refusal, paper_unbuilt, parts_of, paper_row, paper_built, paper_reading}
use Rattle.packet.specs.Table.{erase_byte, write_byte, verify_byte, protect_byte}
use Rattle.packet.specs.declared.build.Unbuilt.{Unbuilt}
use Rattle.packet.specs.declared.build.Unbuilt.TheVariants.{NoRoom, Table}
use Rattle.packet.specs.declared.read.Packet.{Packet}
use Rattle.packet.specs.declared.table.Command.{Command}
use Rattle.packet.specs.declared.table.Command.TheVariants.{Erase, Write, Verify, Protect, Run}
use Rattle.packet.specs.declared.table.Refusal.{Refusal}
use Rattle.packet.specs.declared.table.Refusal.TheVariants.{Start, Length, Count, Checksum, Unlisted, Shape}

-- the command of a byte, and the refusal of a number
command_by : ℕ → Command
command_by n =
    pick (eqb n erase_byte) Erase
    (pick (eqb n write_byte) Write (pick (eqb n verify_byte) Verify (pick (eqb n protect_byte) Protect Run)))

command-back : (c : Command) → command_by (paper_command c) ≡ c
unfolding command_by
command-back Erase = refl
command-back Write = refl
command-back Verify = refl
command-back Protect = refl
command-back Run = refl

command-one : (c d : Command) → paper_command c ≡ paper_command d → c ≡ d
command-one = back_one paper_command command_by command-back

unfoldable pub refusal_by : ℕ → Refusal
refusal_by n =
    pick (eqb n 1) Start
    (pick (eqb n 2) Length (pick (eqb n 3) Count (pick (eqb n 4) Checksum (pick (eqb n 5) Unlisted Shape))))

refusal-back : (x : Refusal) → refusal_by (paper_refusal x) ≡ x
unfolding refusal_by
refusal-back Start = refl
refusal-back Length = refl
refusal-back Count = refl
refusal-back Checksum = refl
refusal-back Unlisted = refl
refusal-back Shape = refl

refusal-small : (x : Refusal) → paper_refusal x ≤ 6
refusal-small Start = omega arith
refusal-small Length = omega arith
refusal-small Count = omega arith
refusal-small Checksum = omega arith
refusal-small Unlisted = omega arith
refusal-small Shape = omega arith

refusal-one : (x y : Refusal) → paper_refusal x ≡ paper_refusal y → x ≡ y
refusal-one = back_one paper_refusal refusal_by refusal-back

-- looking up
pub look-up-determined : {a : Answer ℕ} (r s : Result Command Refusal) → paper_row r ≡ a → paper_row s ≡ a
    → r ≡ s
look-up-determined = determined paper_row (answer-one paper_refusal paper_command refusal-one command-one)

-- building
room_apart : (x : Refusal) → 20 ≡ paper_refusal x → ⊥
room_apart x e = omega (arith, refusal-small x)

unbuilt-one : (x y : Unbuilt) → paper_unbuilt x ≡ paper_unbuilt y → x ≡ y
unbuilt-one NoRoom NoRoom e = refl
unbuilt-one NoRoom (Table y) e = absurd (room_apart y e)
unbuilt-one (Table x) NoRoom e = absurd (room_apart x (sym e))
unbuilt-one (Table x) (Table y) e = ap Table (refusal-one x y e)

pub build-determined : (b : Answer (List ℕ)) (r s : Result ℕ Unbuilt) (x y old : List ℕ)
    → (paper_built r ≡ counted b) × (x ≡ overlay (written b) old)
    → (paper_built s ≡ counted b) × (y ≡ overlay (written b) old)
    → (r ≡ s) × (x ≡ y)
build-determined b r s x y old p q = (
  determined paper_built (answer-one paper_unbuilt (λ n. n) unbuilt-one (λ n m e. e)) r s p.0 q.0,
  p.1 ∙ sym q.1,
)

-- reading
parts-one : (p q : Packet) → parts_of p ≡ parts_of q → p ≡ q
parts-one p q e =
    let c = command-one p.command q.command (ap (λ (x : Parts). x.command) e) in
    λ i. record { command = c i; address = record { 0 = (e i).address }; at = (e i).place; len = (e i).size }

pub read-determined : {a : Answer Parts} (r s : Result Packet Refusal)
    → paper_reading r ≡ a → paper_reading s ≡ a → r ≡ s
read-determined = determined paper_reading (answer-one paper_refusal parts_of refusal-one parts-one)
