-- `judge` meets its contract: each command is judged as its definition says.
use Rattle.std.proofs.Common.{ℕ, List, ◌≡◌, ap, sym, ◌∙◌}
use Rattle.basis.specs.Board.{pages_of}
use Rattle.loader.specs.Commands.{erasing, writing, keeping, protecting, obey_of}
use Rattle.loader.specs.Laws.Commands.{obey-erase, obey-write, obey-protect, obey-run}
use Rattle.packet.specs.Paper.{paper_command}
use Rattle.packet.specs.declared.table.Command.{Command}
use Rattle.loader.proofs.judge.judge.Goals as goal
use Rattle.loader.proofs.judge.judge.Goals.{Start}

-- a command is its byte
by_byte : (c : Start) {x : Command} → c.args.packet.command ≡ x → let a = c.args in
    let b = pages_of a.board in let p = a.packet in
    obey_of b a.loader (paper_command p.command) p.address.0 a.sent.now a.flash.now
    ≡ obey_of b a.loader (paper_command x) p.address.0 a.sent.now a.flash.now
by_byte c e =
    let a = c.args in
    ap (λ (x : Command). obey_of (pages_of a.board) a.loader (paper_command x) a.packet.address.0
    a.sent.now a.flash.now) e

pub returns-in-Erase : goal.returns-in-Erase
returns-in-Erase c =
    let a = c.args in let b = pages_of a.board in
    λ s h d. rw (by_byte (goal.at.returns-in-Erase c).Start c.in-Erase.is
    ∙ obey-erase b a.loader a.packet.address.0 a.sent.now a.flash.now
    ∙ ap (λ (n : ℕ). erasing b a.loader a.packet.address.0 n a.flash.now)
    (sym c.first_byte.ensures))
    (c.erase.ensures s a.flash.now)

pub returns-in-Write : goal.returns-in-Write
returns-in-Write c =
    let a = c.args in let b = pages_of a.board in
    λ s h d. rw (by_byte (goal.at.returns-in-Write c).Start c.in-Write.is
    ∙ obey-write b a.loader a.packet.address.0 a.sent.now a.flash.now
    ∙ ap (λ (w : List ℕ). writing b a.loader a.packet.address.0 w a.flash.now) d)
    (c.write.ensures s a.flash.now h)

pub returns-in-Protect : goal.returns-in-Protect
returns-in-Protect c =
    let a = c.args in let b = pages_of a.board in
    λ s h d. rw (by_byte (goal.at.returns-in-Protect c).Start c.in-Protect.is
    ∙ obey-protect b a.loader a.packet.address.0 a.sent.now a.flash.now
    ∙ ap (λ (n : ℕ). keeping a.flash.now (protecting b a.loader a.packet.address.0 n))
    (sym c.first_byte-in-Protect.ensures))
    (c.protect.ensures s a.flash.now)

pub returns-in-Run : goal.returns-in-Run
returns-in-Run c =
    let a = c.args in let b = pages_of a.board in
    λ s h d. rw (by_byte (goal.at.returns-in-Run c).Start c.in-Run.is
    ∙ obey-run b a.loader a.packet.address.0 a.sent.now a.flash.now)
    (c.run.ensures b s a.flash.now)
