-- What each turn of `spell` keeps.
use Rattle.std.proofs.Common.{◌≡◌, ◌+◌, ◌*◌, length, drop}
use Rattle.basis.specs.Lists.{copy_of}
use Rattle.image.specs.Writer.{spelt}
use Rattle.image.proofs.writer.spell.Given as goal

abbrev pub invariant-loop-i : goal.invariant-loop-i
invariant-loop-i l =
    (length l.buffer ≡ length l.initial.buffer) ×
    (copy_of l.buffer (l.at + 2 * l.i) (spelt (drop l.i l.bytes))
    ≡ copy_of l.initial.buffer l.at (spelt l.bytes))
