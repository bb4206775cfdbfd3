-- `decode` meets its contract: two digits more are one byte more.
use Rattle.std.proofs.Common.{◌∙◌, arith, length-set}
use Rattle.image.proofs.Decoding.{more-place, more-bytes}
use Rattle.image.proofs.digits.decode.Goals as goal

pub loop-i-preserved : goal.loop-i-preserved
loop-i-preserved c =
    let line = c.args.line.now in
    let loop = c.loop-i in
    let high = rw c.in_ok-high.ensures.ok_part at c.digit.ensures.value in
    let low = rw c.in_ok-low.ensures.ok_part at c.digit-in-loop-i.ensures.value in
    let high_below = rw c.in_ok-high.ensures.ok_part at c.digit.ensures.below in
    let low_below = rw c.in_ok-low.ensures.ok_part at c.digit-in-loop-i.ensures.below in
    let p = more-place line loop.bytes loop.i (omega arith) (omega arith) (omega arith) in
    let b = more-bytes line loop.bytes loop.i (omega arith) (omega arith) (omega arith) _ _ high low in
    (simp length-set (omega arith), omega (arith, p, loop.invariant.1), b ∙ loop.invariant.2)
