-- `gather` meets its contract: one byte is stored behind what is gathered.
use Rattle.std.proofs.Common.{◌≡◌, rules, length}
use Rattle.receiver.specs.Laws.Gathered.{gathers-in}
use Rattle.receiver.proofs.receiver.Receiver.gather.Goals as goal

pub returns-clause-state : goal.returns-clause-state
returns-clause-state c =
    let l : length c.args.self.bytes ≡ 259 = search rules in
    gathers-in c.args.self c.args.b (search rules)
