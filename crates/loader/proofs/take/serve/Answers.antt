-- `serve` meets its contract: what was read is judged, on the bytes that it names.
use Rattle.std.specs.Prelude.{ℕ, ◌+◌, ◌≤◌, List, ◌≡◌, length, Result, Ok, Err, IsErrAnd}
use Rattle.std.proofs.Common.{ap, sym, ◌∙◌, arith}
use Rattle.basis.specs.Board.{pages_of}
use Rattle.basis.specs.Refusals.{refused, given}
use Rattle.loader.specs.Commands.{obey_of}
use Rattle.loader.specs.Laws.Take.{served-unread, served-packet}
use Rattle.packet.specs.Laws.Packet.{data-within}
use Rattle.packet.specs.Packet.{read_of}
use Rattle.packet.specs.Paper.{paper_command, paper_refusal, parts_of, paper_reading}
use Rattle.packet.specs.declared.read.Packet.{Packet}
use Rattle.packet.specs.declared.table.Refusal.{Refusal}
use Rattle.loader.specs.declared.deed.Deed.{Deed}
use Rattle.loader.specs.declared.verdict.Refusal as loader
use Rattle.loader.specs.declared.verdict.Refusal.TheVariants.{Unread}
use Rattle.loader.proofs.Judging.{refuses, part-data}
use Rattle.loader.proofs.take.serve.Goals as goal
use Rattle.loader.proofs.take.serve.Goals.{In_ok-packet}

-- what was read
module _ (r : Result Packet Refusal) (s : List ℕ) (e : paper_reading r ≡ read_of s) where
  told : (p : Packet) → r ≡ Ok p → read_of s ≡ given (parts_of p)
  told p f = sym e ∙ ap paper_reading f

  untold : (x : Refusal) → r ≡ Err x → read_of s ≡ refused (paper_refusal x)
  untold x f = sym e ∙ ap paper_reading f

  within : (p : Packet) → r ≡ Ok p → p.at + p.len ≤ length s
  within p f = data-within _ _ (told p f)

-- the packet's bytes lie within the input
inside : (c : In_ok-packet) → let p = c.in_ok-packet.packet in p.at + p.len ≤ length c.args.input.now
inside c = within c.read.result c.args.input.now c.read.ensures c.in_ok-packet.packet c.in_ok-packet.was

-- an error that `?` hands on is the one that was read
handed : (r : Result Deed loader.Refusal) (x : Refusal) → IsErrAnd r (λ (y : loader.Refusal). y ≡ Unread x)
    → r ≡ Err (Unread x)
handed (Ok d) x k = absurd k
handed (Err y) x k = ap Err k

pub returns-in_err-packet : goal.returns-in_err-packet
returns-in_err-packet c =
    let a = c.args in
    rw (handed _ _ c.from_residual.ensures.1)
    (refuses (served-unread _ _ _ _ (untold c.read.result a.input.now c.read.ensures _ c.in_err-packet.was)))

pub overflow_add-end : goal.overflow_add-end
overflow_add-end c =
    omega (arith, inside (goal.at.overflow_add-end c).In_ok-packet, c.well_formed)

pub slice_bounds-judge-end : goal.slice_bounds-judge-end
slice_bounds-judge-end c =
    let h = inside (goal.at.slice_bounds-judge-end c).In_ok-packet in omega arith

pub returns : goal.returns
returns c =
    let a = c.args in let b = pages_of a.board in
    let p : Packet = c.in_ok-packet.packet in
    let d = part-data a.input.now p in
    rw (served-packet b a.loader a.input.now a.flash.now _
    (told c.read.result a.input.now c.read.ensures p c.in_ok-packet.was)
    ∙ ap (λ (w : List ℕ). obey_of b a.loader (paper_command p.command) p.address.0 w a.flash.now) (sym d))
    (c.judge.ensures a.input.now (inside (goal.at.returns c).In_ok-packet) d)
