-- `print` meets its contract: head line, steps and total are the plan's text.
use Rattle.std.proofs.Common.{◌≡◌, ℕ, List, ◌++◌, Option, sym, rules}
use Rattle.std.proofs.KnownBytes.{Appends-trans}
use Rattle.std.specs.Io.KnownBytes.{Appends}
use Rattle.basis.specs.declared.kind.RunKind.{RunKind}
use Rattle.order.specs.Plan.{plan, total}
use Rattle.listing.specs.Lines.{line_end, head_line, total_line}
use Rattle.listing.specs.Plan.{step_lines, plan_text}
use Rattle.listing.proofs.plan.Printout.print.Goals as goal

module _ (board : ℕ) (image m : List ℕ) (n : ℕ) (h t : List ℕ) (e : n ≡ total board m RunKind.Reset)
    (head : h ++ line_end ≡ head_line) (foot : t ++ line_end ≡ total_line n) where
  text-is : (h ++ line_end) ++ (step_lines 0 (plan board image m RunKind.Reset) ++ (t ++ line_end))
      ≡ plan_text board image m
  unfolding plan_text
  text-is = rw (head, foot, e)

  text-goes : (a b c d : Option (List ℕ)) → Appends a b (h ++ line_end)
      → Appends b c (step_lines 0 (plan board image m RunKind.Reset)) → Appends c d (t ++ line_end)
      → Appends a d (plan_text board image m)
  text-goes a b c d f g k =
      rw (sym text-is) (Appends-trans a b d _ _ f (Appends-trans b c d _ _ g k))

pub returns : goal.returns
returns g c = search (rules, text-goes)
