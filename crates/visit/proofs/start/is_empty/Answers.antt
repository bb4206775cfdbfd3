-- `is_empty` meets its contract: where no page is touched no byte is named.
use Rattle.visit.proofs.Bounds.{no-page}
use Rattle.visit.proofs.start.is_empty.Goals as goal

pub returns : goal.returns
returns c =
    let touched = c.next_touched.ensures in
    no-page _ _ c.requires.board c.args.map.fits _ touched.next touched.below _ c.is_none.ensures
