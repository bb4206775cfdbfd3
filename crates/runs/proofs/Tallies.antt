-- Tallies: where they begin, how they go on, and what bounds them.
use Rattle.std.proofs.Common.{ℕ, suc, ◌+◌, ◌≤◌, ◌<◌, add-one, ◌≡◌, sym, ap₂, ◌∙◌, List, Bool, ltb, ◌^◌, arith}
use Rattle.basis.specs.Laws.Boards.{pages-few}
use Rattle.basis.specs.Units.{start_of}
use Rattle.runs.specs.Map.{named}
use Rattle.runs.specs.Pages.{touched}
use Rattle.runs.specs.declared.tally.Tally.{Tally}
use Rattle.runs.specs.Runs.{count, off, starts}
use Rattle.runs.specs.Tally.{tally_at, took_of}
use Rattle.runs.specs.Laws.Runs.{count-le}
use Rattle.runs.specs.Laws.Pieces.{off-below}
use Rattle.runs.specs.Laws.Pages.{touched-counts}

abbrev pub IsNone : Tally → Type 0
IsNone t = (t.passed ≡ 0) × ((t.pieces ≡ 0) × (t.off ≡ 0))

module _ (p : ℕ → Bool) (cap : ℕ) where
  -- before all places nothing is met
  none : (a b c : ℕ) → a ≡ 0 → b ≡ 0 → c ≡ 0 → record { passed = a; pieces = b; off = c } ≡ tally_at p cap 0
  unfolding tally_at count off
  none a b c e f g = rw (e, f, g)

  pub tally-none : {t : Tally} → IsNone t → t ≡ tally_at p cap 0
  tally-none {t} e = none t.passed t.pieces t.off e.0 e.1.0 e.1.1

  -- a place taken is a place more
  pub tally-next : (n : ℕ) → took_of cap (tally_at p cap n) (p n) ≡ tally_at p cap (suc n)
  unfolding tally_at took_of count off starts
  tally-next n = simp add-one

  pub tally-again : (n : ℕ) {t r : Tally} {b : Bool} → t ≡ tally_at p cap n → b ≡ p n → r ≡ took_of cap t b
      → r ≡ tally_at p cap (n + 1)
  tally-again n e f g = g ∙ ap₂ (took_of cap) e f ∙ tally-next n ∙ rw add-one

  -- what a tally has is bounded by the places that it has met
  pub tally-le : 0 < cap → (n : ℕ) {t : Tally} → t ≡ tally_at p cap n
      → (t.passed ≤ n) × (t.pieces ≤ n) × (t.off < cap)
  unfolding tally_at
  tally-le z n e = rw e (count-le p n, count-le (starts p cap) n, off-below p cap z n)

-- what a tally of few places has is few
module _ (p : ℕ → Bool) (cap n : ℕ) (z : 0 < cap) (t : Tally) (e : t ≡ tally_at p cap n) where
  pub passed-few : n < 2 ^ 31 → t.passed < 2 ^ 31
  passed-few l = omega (arith, tally-le p cap z n e)

  pub pieces-few : n < 2 ^ 31 → t.pieces < 2 ^ 31
  pieces-few l = omega (arith, tally-le p cap z n e)

  pub off-less : t.off < cap
  off-less = (tally-le p cap z n e).2

pub ruleset places = (passed-few, pieces-few, off-less, tally-again, pages-few)

-- the tallies of the bytes below a page's start and below its end tell whether it is touched
pub tallies-touched : (m : List ℕ) (cap q : ℕ) {t u : Tally} → t ≡ tally_at (named m) cap (start_of q)
    → u ≡ tally_at (named m) cap (start_of (q + 1)) → ltb t.passed u.passed ≡ touched m q
unfolding tally_at
tallies-touched m cap q e f = rw (e, f) (sym (touched-counts m q))
