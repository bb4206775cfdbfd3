-- A run kind's number asks for that run kind.
use Rattle.std.specs.Prelude.{◌≡◌, refl}
use Rattle.basis.specs.RunKinds.{paper_kind, kind_of}
use Rattle.basis.specs.declared.kind.RunKind.{RunKind}

pub kind-back : (k : RunKind) → kind_of (paper_kind k) ≡ k
kind-back RunKind.Reset = refl
kind-back RunKind.Jump = refl
kind-back RunKind.Hold = refl
