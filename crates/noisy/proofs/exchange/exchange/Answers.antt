-- `exchange` meets its contract: the board's part, then the session's.
use Rattle.std.proofs.Common.{◌≤◌, ◌≡◌, arith, rules, length}
use Rattle.basis.specs.Board.{pages_of}
use Rattle.noisy.proofs.Exchanging.{exchanges}
use Rattle.noisy.proofs.exchange.exchange.Goals as goal
use Rattle.noisy.proofs.exchange.exchange.Goals.{Start}

full : (c : Start) → length c.args.packet.now ≡ 259
full c = search rules

-- the packet that is out lies within its buffer
fits : (c : Start) → c.args.link.len ≤ length c.args.packet.now
fits c = omega (arith, full c, c.requires.len)

pub returns : goal.returns
returns c =
    let a = c.args in
    exchanges (pages_of a.file.map.board) a.file.image.now a.file.map.bits.now a.loss a.rubbish.now a.link
    a.flash.now a.packet.now (fits (goal.at.returns c).Start) (search rules) _ _ _ _ _ _
    c.deliver-fed.ensures
    c.hear-next.ensures.next c.hear-next.ensures.packet
