-- Laws of marks: a byte that is not named has none, and one that is has it by its count.
use Rattle.std.specs.Prelude.{ℕ, ◌≤◌, true, false, List, ◌≡◌, length}
use Rattle.std.proofs.Math.Path.{sym, ap}
use Rattle.std.proofs.Common.{◌∙◌}
use Rattle.std.proofs.Math.Dec.{leb}
use Rattle.basis.specs.Laws.Choice.{both-second, both_false}
use Rattle.basis.specs.Units.{start_of, map_bytes}
use Rattle.order.specs.Marks.{marked_from, marked}
use Rattle.runs.specs.Laws.Files.{bytes_past}
use Rattle.runs.specs.Map.{named}

module _ (board : ℕ) (m : List ℕ) (k a : ℕ) where
  pub mark-unnamed : named m a ≡ false → false ≡ marked board m k a
  unfolding marked
  mark-unnamed e = sym (both_false _ _ e)

  pub mark-past : length m ≡ map_bytes board → start_of board ≤ a → false ≡ marked board m k a
  mark-past long l = mark-unnamed (bytes_past board m long a l)

  pub mark-by : named m a ≡ true → {n : ℕ} → n ≡ marked_from board m a → leb n k ≡ marked board m k a
  unfolding marked
  mark-by h e = ap (λ (x : ℕ). leb x k) e ∙ sym (both-second _ _ h)
