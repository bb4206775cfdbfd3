-- What each turn of `erase` keeps.
use Rattle.std.proofs.Common.{◌≡◌, ◌+◌, ◌-◌, length}
use Rattle.image.specs.Flash.{erase_of}
use Rattle.image.proofs.flash.erase.Given as goal

abbrev pub invariant-loop-i : goal.invariant-loop-i
invariant-loop-i l =
    (length l.flash ≡ length l.initial.flash) ×
    (erase_of l.flash (l.at + l.i) (l.count - l.i) ≡ erase_of l.initial.flash l.at l.count)
