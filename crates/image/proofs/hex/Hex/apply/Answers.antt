-- `apply` meets its contract: what each check passes goes on.
use Rattle.std.proofs.Common.{◌≡◌, ◌+◌, length, sym, refl, arith, rules, eq-eqb, ne_eqb}
use Rattle.basis.specs.Refusals.{given}
use Rattle.image.specs.Record.{count, kind, framing_of, shape_of}
use Rattle.image.specs.Laws.Hex.{apply-cut, framing-count}
use Rattle.image.specs.Laws.Pointed.{pointed-given}
use Rattle.image.proofs.Handed.{handed-on}
use Rattle.image.proofs.hex.Hex.apply.Goals as goal
use Rattle.image.proofs.hex.Hex.apply.Goals.{In_ok-framing, In_ok-shape}

-- what is known where each passed
framed : (c : In_ok-framing) → framing_of (length c.args.line.now) c.args.bytes.now ≡ given tt
framed c = pointed-given c.args.line.now _ c.in_ok-framing.ensures

whole : (c : In_ok-framing) → let b = c.args.bytes.now in length b ≡ 5 + count b
whole c = omega (arith, framing-count (length c.args.line.now) c.args.bytes.now (framed c), c.requires.whole)

shaped : (c : In_ok-shape) → shape_of c.args.bytes.now ≡ given tt
shaped c = pointed-given c.args.line.now _ (c.in_ok-shape.ensures c.args.line.now c.requires.spelt)

pub returns-in_err-framing : goal.returns-in_err-framing
returns-in_err-framing c =
    let a = c.args in
    rw (apply-cut (length a.image.now) a.self a.image.now a.map.now (length a.line.now) a.bytes.now)
    (handed-on a.line.now a.image.now a.map.now _ _ _ _ c.from_residual.ensures.1 c.in_err-framing.ensures)

pub returns-in_err-shape : goal.returns-in_err-shape
returns-in_err-shape c =
    let a = c.args in
    rw (
      apply-cut (length a.image.now) a.self a.image.now a.map.now (length a.line.now) a.bytes.now,
      framed (goal.at.returns-in_err-shape c).In_ok-framing,
    )
    (handed-on a.line.now a.image.now a.map.now _ _ _ _ c.from_residual-in_err-shape.ensures.1
    (c.in_err-shape.ensures a.line.now c.requires.spelt))

pub data-requires-clause-whole : goal.data-requires-clause-whole
data-requires-clause-whole c = whole (goal.at.data-requires-clause-whole c).In_ok-framing

pub other-requires-clause-whole : goal.other-requires-clause-whole
other-requires-clause-whole c = whole (goal.at.other-requires-clause-whole c).In_ok-framing

pub returns-in-Some-Data : goal.returns-in-Some-Data
returns-in-Some-Data c =
    let a = c.args in
    rw (
      apply-cut (length a.image.now) a.self a.image.now a.map.now (length a.line.now) a.bytes.now,
      framed (goal.at.returns-in-Some-Data c).In_ok-framing,
      shaped (goal.at.returns-in-Some-Data c).In_ok-shape,
      eq-eqb _ _ (sym (rw c.in-Some-Data.field-0-is at c.in-Some-Data.ensures.kind)),
    )
    (c.data.ensures a.line.now)

pub returns-in_default : goal.returns-in_default
returns-in_default c =
    let a = c.args in
    let other : kind a.bytes.now ≡ 0 → ⊥ = search rules in
    rw (
      apply-cut (length a.image.now) a.self a.image.now a.map.now (length a.line.now) a.bytes.now,
      framed (goal.at.returns-in_default c).In_ok-framing,
      shaped (goal.at.returns-in_default c).In_ok-shape,
      ne_eqb (kind a.bytes.now) 0 other,
      c.other.ensures,
    )
    refl
