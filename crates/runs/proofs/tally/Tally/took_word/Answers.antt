-- `took_word` meets its contract: each run of a word starts a piece, but for one that goes on from before.
use Rattle.std.proofs.Common.{◌+◌, ◌/◌, ◌≤◌, arith, bit_and}
use lib.Count.{ones}
use Rattle.runs.proofs.WordSteps.{word-runs, word_none, word-mixed}
use Rattle.runs.proofs.tally.Tally.took_word.Goals as goal
use Rattle.runs.proofs.tally.Tally.took_word.Goals.{After-joins-joined}

-- what is taken off is no more than there is
within : (c : After-joins-joined) → let g = c.args in
    ones (bit_and g.word (g.word / 2)) + c.joins-joined.result ≤ g.self.pieces + ones g.word
within c =
    let g = c.args in
    let j = c.joins-joined in
    omega (
      arith,
      word-runs g.cap g.word g.self (omega arith) (omega arith) (omega arith) j.result
          j.ensures,
    )

pub returns-then-word-eq0 : goal.returns-then-word-eq0
returns-then-word-eq0 c =
    let g = c.args in
    word_none g.cap g.word g.self (omega arith) (omega arith) (omega arith) c.if-word-eq0.true

pub overflow_sub-result : goal.overflow_sub-result
overflow_sub-result c =
    omega (arith, within (goal.at.overflow_sub-result c).After-joins-joined)

pub overflow_sub-result-2 : goal.overflow_sub-result-2
overflow_sub-result-2 c =
    omega (arith, within (goal.at.overflow_sub-result-2 c).After-joins-joined)

pub returns : goal.returns
returns c =
    let g = c.args in
    let j = c.joins-joined in
    word-mixed g.cap g.word g.self (omega arith) (omega arith) (omega arith) j.result j.ensures
    c.if-gaps-eq0.false
