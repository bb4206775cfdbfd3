-- `sum` meets its contract: the total so far is the sum of the bytes passed.
use Rattle.std.proofs.Common.{arith, slice_index_or, take}
use Rattle.std.proofs.lemmas.List.{take_more}
use Rattle.basis.specs.Laws.Sums.{sum_more}
use Rattle.basis.proofs.sums.sum.Goals as goal

pub loop-b-preserved : goal.loop-b-preserved
loop-b-preserved c =
    let b = c.args.bytes.now in
    let i = c.loop-b.b-index in
    rw (take_more b i 0 c.loop-b-test.true)
    (omega (arith, c.loop-b.invariant, sum_more (take i b) (slice_index_or b i 0)))
