-- `other` meets its contract: types 02 and 04 have the two bytes that are read.
use Rattle.std.proofs.Common.{◌≡◌, ◌≤◌, length, sym, ap, arith}
use Rattle.image.specs.Record.{kind, count_for}
use Rattle.image.specs.Laws.Hex.{shape-count}
use Rattle.image.proofs.hex.Hex.other.Goals as goal
use Rattle.image.proofs.hex.Hex.other.Goals.{Start}

-- a record of a type that has two bytes has room for them
room : (c : Start) → let b = c.args.bytes.now in count_for (kind b) ≡ 2 → 6 ≤ length b
room c e = omega (arith, c.requires.whole, shape-count _ c.requires.shape c.requires.kind, e)

pub pair_at-requires : goal.pair_at-requires
pair_at-requires c = room (goal.at.pair_at-requires c).Start
    (ap count_for (sym (rw c.in-Some-Segment.field-0-is at c.in-Some-Segment.ensures.kind)))

pub pair_at-requires-in-Some-Linear : goal.pair_at-requires-in-Some-Linear
pair_at-requires-in-Some-Linear c = room (goal.at.pair_at-requires-in-Some-Linear c).Start
    (ap count_for (sym (rw c.in-Some-Linear.field-0-is at c.in-Some-Linear.ensures.kind)))
