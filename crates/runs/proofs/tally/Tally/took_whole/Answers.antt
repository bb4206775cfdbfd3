-- `took_whole` meets its contract: a word that is all one run.
use Rattle.std.proofs.Common.{◌-◌, ◌^◌, refl, arith}
use Rattle.runs.proofs.WordSteps.{word-whole}
use Rattle.runs.proofs.tally.Tally.took_whole.Goals as goal

pub overflow_sub-result : goal.overflow_sub-result
overflow_sub-result c =
    let g = c.args in
    let j = c.joins-joined in
    (word-whole g.cap (2 ^ 64 - 1) g.self (omega arith) (omega arith) (omega arith) refl j.result
    j.ensures).0

pub returns : goal.returns
returns c =
    let g = c.args in
    let j = c.joins-joined in
    (word-whole g.cap (2 ^ 64 - 1) g.self (omega arith) (omega arith) (omega arith) refl j.result
    j.ensures).1 c.cut.result c.cut.ensures
