-- What goes on turn by turn until it is over: after that nothing changes.
use Rattle.std.specs.Prelude.{ℕ, zero, suc, ◌+◌, ◌≤◌, Bool, true, false, ◌≡◌, eqb}
use Rattle.std.proofs.Common.{sym, ap, ◌∙◌, add-one, arith, eqb-true}
use Rattle.std.proofs.lemmas.Bool.{eqb-false}
use Rattle.basis.specs.Choice.{pick}
use Rattle.basis.specs.Laws.Choice.{decide}

module _ {A : Type 0} (over : A → Bool) (turn : ℕ → A → A) (at : ℕ → A)
    (next : (n : ℕ) → at (suc n) ≡ pick (over (at n)) (at n) (turn n (at n))) where
  pub turns-stay : (i n : ℕ) → i ≤ n → over (at i) ≡ true → at n ≡ at i
  turns-stay i zero b h = let z : 0 ≡ i = omega arith in ap at z
  turns-stay i (suc n) b h =
      decide (eqb i (suc n))
      (λ t. ap at (sym (eqb-true i (suc n) t)))
      (λ t. let e = turns-stay i n (omega (arith, eqb-false i (suc n) t)) h in
      next n ∙ ap (λ (y : Bool). pick y (at n) (turn n (at n))) (ap over e ∙ h) ∙ e)

  pub turn-follows : (n : ℕ) → over (at n) ≡ false → at (suc n) ≡ turn n (at n)
  turn-follows n h = next n ∙ ap (λ (y : Bool). pick y (at n) (turn n (at n))) h

  -- of what stands after i turns
  pub turns-done : (k i : ℕ) (x : A) → x ≡ at i → i ≤ k → over x ≡ true → at k ≡ x
  turns-done k i x e b t = turns-stay i k b (sym (ap over e) ∙ t) ∙ sym e

  pub turns-again : (i : ℕ) (x : A) → x ≡ at i → over x ≡ false → turn i x ≡ at (i + 1)
  turns-again i x e t = rw add-one (ap (turn i) e ∙ sym (turn-follows i (sym (ap over e) ∙ t)))
