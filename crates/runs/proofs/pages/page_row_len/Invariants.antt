-- What each turn of `page_row_len` keeps.
use Rattle.std.proofs.Common.{◌≡◌, ◌+◌, ◌-◌, ◌/◌, ◌≤◌, length}
use Rattle.std.specs.Prelude.{max}
use Rattle.runs.specs.Pages.{touched}
use Rattle.runs.specs.Runs.{len}
use Rattle.runs.proofs.pages.page_row_len.Given as goal

abbrev pub invariant-loop-n : goal.invariant-loop-n
invariant-loop-n l =
    let p = touched l.map in
    (len p l.fn.from.0 l.cap ≡ l.n + len p (l.fn.from.0 + l.n) (l.cap - l.n))
    × (l.fn.from.0 + l.n ≤ max l.fn.from.0 (length l.map / 64))
