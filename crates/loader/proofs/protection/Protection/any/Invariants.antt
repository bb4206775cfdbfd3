-- What each turn of `any` keeps.
use Rattle.std.proofs.Common.{◌≡◌, ◌-◌}
use Rattle.loader.specs.Protection.{any_of}
use Rattle.loader.proofs.protection.Protection.any.Given as goal

abbrev pub invariant-loop-g : goal.invariant-loop-g
invariant-loop-g l =
    let g = l.self.groups in
    any_of g l.fn.from.0 (l.fn.to.0 - l.fn.from.0) ≡ any_of g l.g (l.fn.to.0 - l.g)
