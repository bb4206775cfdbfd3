-- What each turn of `store` keeps.
use Rattle.std.proofs.Common.{◌≡◌, ◌+◌, length, drop}
use Rattle.image.specs.Flash.{store_of}
use Rattle.image.proofs.flash.store.Given as goal

abbrev pub invariant-loop-i : goal.invariant-loop-i
invariant-loop-i l =
    (length l.flash ≡ length l.initial.flash) ×
    (store_of l.flash (l.at + l.i) (drop l.i l.bytes) ≡ store_of l.initial.flash l.at l.bytes)
