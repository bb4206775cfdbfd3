-- Laws of the command table.
use Rattle.std.specs.Prelude.{ℕ, ◌≤◌, Bool, true, false, not, ◌≡◌, leb, eqb}
use Rattle.std.proofs.Common.{ap, sym, ◌∙◌, arith, eqb-true, leb-true}
use Rattle.std.proofs.lemmas.Bool.{not-false}
use Rattle.basis.specs.Choice.{pick, both}
use Rattle.basis.specs.Laws.Choice.{decide, both_true}
use Rattle.basis.specs.Laws.Refusals.{skip, passed, done}
use Rattle.basis.specs.Refusals.{Answer, given, first}
use Rattle.packet.specs.Table.{erase_byte, write_byte, verify_byte, protect_byte, listed, data_count, protect_type, in_shape, table}

module _ {A : Type 0} (c n t : ℕ) where
  -- what stands in the table passes it
  pub table-passes : (r : Answer A) → listed c ≡ true → in_shape c n t ≡ true → first (table c n t) r ≡ r
  table-passes r l s = skip _ _ _ _ (ap not l) ∙ skip _ _ _ _ (ap not s) ∙ done r

  -- what passes it stands there
  pub table-holds : {x : A} (r : Answer A) → first (table c n t) r ≡ given x
      → (listed c ≡ true) × (in_shape c n t ≡ true) × (r ≡ given x)
  table-holds r e =
      let p = passed 5 (not (listed c)) _ r e in
      let q = passed 6 (not (in_shape c n t)) _ r p.1 in
      (not-false _ p.0, not-false _ q.0, sym (done r) ∙ q.1)

-- no row allows more than N = 255
pub shape-short : (c n t : ℕ) → in_shape c n t ≡ true → n ≤ 255
shape-short c n t =
    row erase_byte (λ e. omega (arith, eqb-true n 6 e))
    (row write_byte many
    (row verify_byte many
    (row protect_byte (λ e. omega (arith, eqb-true n 6 (both_true (eqb n 6) (protect_type t) e).0))
    (λ e. omega (arith, eqb-true n 5 e)))))
  where
    many : data_count n ≡ true → n ≤ 255
    many e = leb-true n 255 (both_true (leb 6 n) (leb n 255) e).1

    row : (k : ℕ) {a b : Bool} → (a ≡ true → n ≤ 255) → (b ≡ true → n ≤ 255) → pick (eqb c k) a b ≡ true
        → n ≤ 255
    row k {a} {b} f g = go (eqb c k)
      where
        go : (x : Bool) → pick x a b ≡ true → n ≤ 255
        go true = f
        go false = g

-- the byte after the address counts for P alone
pub kind-counts : (c n t u : ℕ) → (c ≡ protect_byte → n ≡ 6 → t ≡ u) → in_shape c n t ≡ true
    → in_shape c n u ≡ true
kind-counts c n t u e h =
    decide (eqb c protect_byte)
    (λ p. let q : c ≡ protect_byte = eqb-true c protect_byte p in
    let b : both (eqb n 6) (protect_type t) ≡ true = rw q at h in
    let x = both_true (eqb n 6) (protect_type t) b in
    rw (q, ← e q (eqb-true n 6 x.0)) b)
    (λ p. rw p (rw p at h))
