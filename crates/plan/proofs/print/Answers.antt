-- `print` meets its contract: each sheet lists some packets, so fewer are left.
use Rattle.std.proofs.Common.{refl, sym, ap, ◌∙◌, arith}
use Rattle.listing.specs.Laws.Plan.{begun-listed, sheet-listed, sheet-falls}
use Rattle.listing.specs.Paper.{paper_begun}
use Rattle.plan.proofs.print.Goals as goal

pub loop-listing-init : goal.loop-listing-init
loop-listing-init g c =
    (refl, begun-listed _ _ _ _ _ (sym (ap paper_begun c.in-Ok.is) ∙ c.start.ensures))

pub loop-listing-smaller : goal.loop-listing-smaller
loop-listing-smaller g c =
    sheet-falls _ _ _ _ c.loop-listing.invariant.1 _ _ c.sheet-sheet.ensures.listing
    (omega (arith, c.loop-listing.invariant.0, c.head_line-head.auto.buffer, c.requires))
    c.loop-listing-test.true

pub loop-listing-preserved : goal.loop-listing-preserved
loop-listing-preserved g c = (
  omega (arith, c.loop-listing.invariant.0, c.sheet-sheet.auto.buffer),
  sheet-listed _ _ _ _ c.loop-listing.invariant.1 _ _ c.sheet-sheet.ensures.listing,
)
