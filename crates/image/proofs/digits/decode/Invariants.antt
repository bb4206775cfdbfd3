-- What each turn of `decode` keeps.
use Rattle.std.proofs.Common.{◌≡◌, ◌+◌, ◌*◌, length, drop}
use Rattle.basis.specs.Lists.{copy_of}
use Rattle.image.specs.Digits.{digits_before, first_bad, decoded}
use Rattle.image.proofs.digits.decode.Given as goal

abbrev pub invariant-loop-i : goal.invariant-loop-i
invariant-loop-i l =
    (length l.bytes ≡ length l.initial.bytes)
    × (2 * l.i + digits_before (drop (2 * l.i + 1) l.line) + 1 ≡ first_bad l.line)
    × (copy_of l.bytes l.i (decoded (drop (2 * l.i + 1) l.line))
    ≡ copy_of l.initial.bytes 0 (decoded (drop 1 l.line)))
