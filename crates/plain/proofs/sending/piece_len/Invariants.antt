-- What each turn of `piece_len` keeps.
use Rattle.std.proofs.Common.{ℕ, ◌≡◌, ◌+◌, ◌<◌, true}
use Rattle.runs.specs.Map.{named}
use Rattle.plain.proofs.sending.piece_len.Given as goal

abbrev pub invariant-loop-n : goal.invariant-loop-n
invariant-loop-n l = (i : ℕ) → i < l.n → named l.map.bits.now (l.fn.from.0 + i) ≡ true
