-- `join` meets its contract: as much as there is room for goes behind what is joined.
use Rattle.noisy.proofs.Joining.{joined-fits, joined-more}
use Rattle.noisy.proofs.exchange.join.Goals as goal

pub returns-clause-fits : goal.returns-clause-fits
returns-clause-fits c =
    joined-fits c.args.joined.now _ _ c.args.heard c.requires c.first-more.ensures

pub returns-clause-bytes : goal.returns-clause-bytes
returns-clause-bytes c =
    joined-more c.args.joined.now _ _ _ c.args.heard c.requires c.first-more.ensures c.copy.ensures
