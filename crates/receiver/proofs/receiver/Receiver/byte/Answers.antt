-- `byte` meets its contract: a record with more gathered than its packet has is hunted in.
use Rattle.std.proofs.Common.{rules, ap, sym, ◌∙◌}
use Rattle.receiver.specs.Laws.Gathered.{at-past}
use Rattle.receiver.specs.Receiver.{keeping}
use Rattle.receiver.proofs.receiver.Receiver.byte.Goals as goal

pub returns-in_default-3-clause-state : goal.returns-in_default-3-clause-state
returns-in_default-3-clause-state c =
    c.quiet-in_default-3.ensures.state ∙ ap keeping c.hunt-in_default-3.ensures
    ∙ sym (at-past c.args.self c.args.b (search rules) (search rules) (search rules) (search rules))
