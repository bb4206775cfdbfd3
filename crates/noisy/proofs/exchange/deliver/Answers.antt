-- `deliver` meets its contract: the rubbish goes in, then the packet unless it is lost.
use Rattle.basis.specs.Board.{pages_of}
use Rattle.noisy.proofs.Joining.{joins-both, whole, unanswered}
use Rattle.noisy.proofs.exchange.deliver.Goals as goal

pub returns-in-Whole : goal.returns-in-Whole
returns-in-Whole c =
    let a = c.args in
    whole (pages_of a.board) a.port a.flash.now a.rubbish.now a.packet.now
    c.in-Whole.is
    (joins-both (pages_of a.board) a.port a.flash.now a.rubbish.now a.packet.now
    c.feed-start.ensures c.feed.ensures)

pub returns-in-Unanswered : goal.returns-in-Unanswered
returns-in-Unanswered c =
    let a = c.args in
    unanswered (pages_of a.board) a.port a.flash.now a.rubbish.now a.packet.now
    c.in-Unanswered.is
    (joins-both (pages_of a.board) a.port a.flash.now a.rubbish.now a.packet.now
    c.feed-start.ensures c.feed-last.ensures)
