-- Laws of touched pages.
use Rattle.std.specs.Prelude.{ℕ, ◌+◌, ◌-◌, ◌*◌, ◌≤◌, ◌<◌, ◌≡◌, true, false, List, ltb, length}
use Rattle.std.proofs.Common.{arith, sym, ◌∙◌, ltb-true, ltb-false, lt-ltb, le-ltb}
use Rattle.std.proofs.Math.Path.{ap}
use Rattle.basis.specs.Units.{page_of, start_of}
use Rattle.basis.specs.Laws.Choice.{decide, true-false}
use Rattle.runs.specs.Map.{named}
use Rattle.runs.specs.Pages.{touched}
use Rattle.runs.specs.Runs.{count, len, next}
use Rattle.runs.specs.Laws.Map.{named_past}
use Rattle.runs.specs.Laws.Runs.{count-skip, count-mono, rank_below, any_next, next-ge, next_le, next-pass, next-skip, next-only}
use Rattle.runs.specs.Laws.Pieces.{piece-passes}
use Rattle.basis.specs.Board.{page_size}

module _ (m : List ℕ) where
  -- a page is touched where the lowest named address from its start on lies in it
  touched-next : (q : ℕ) → touched m q ≡ ltb (next (named m) (start_of q) page_size) (start_of (q + 1))
  unfolding touched
  touched-next q =
      any_next (named m) page_size (start_of q)
      ∙ ap (ltb (next (named m) (start_of q) page_size)) (omega arith)

  -- a touched page holds a named byte
  pub touched-some : (q : ℕ) → touched m q ≡ true
      → (a : ℕ) × (named m a ≡ true) × (start_of q ≤ a) × (a < start_of (q + 1))
  touched-some q h =
      let l = ltb-true (next (named m) (start_of q) page_size) (start_of (q + 1))
      (sym (touched-next q) ∙ h) in (
        next (named m) (start_of q) page_size,
        next-pass (named m) page_size (start_of q) (omega arith),
        next-ge (named m) page_size (start_of q),
        l,
      )

  -- and a page that holds one is touched
  pub some-touched : (q a : ℕ) → named m a ≡ true → start_of q ≤ a → a < start_of (q + 1) → touched m q ≡ true
  some-touched q a t g l =
      touched-next q
      ∙ decide (ltb (next (named m) (start_of q) page_size) (start_of (q + 1)))
      (λ d. d)
      (λ d. absurd
      (true-false (sym t
      ∙ next-skip (named m) page_size (start_of q) a g
      (omega (arith, ltb-false (next (named m) (start_of q) page_size) (start_of (q + 1)) d)))))

  pub named-touched : (a : ℕ) → named m a ≡ true → touched m (page_of a) ≡ true
  named-touched a t = some-touched (page_of a) a t (omega arith) (omega arith)

  -- the lowest touched page is the page of the lowest named byte
  pub next-page : (q n : ℕ) → q ≤ n
      → next (touched m) q (n - q) ≡ page_of (next (named m) (start_of q) (start_of n - start_of q))
  next-page q n g =
      let a = next (named m) (start_of q) (start_of n - start_of q) in
      let from = next-ge (named m) (start_of n - start_of q) (start_of q) in
      let upto = next_le (named m) (start_of n - start_of q) (start_of q) in
      next-only (touched m) (n - q) q (page_of a) (omega arith) (omega arith)
      (λ j u v. decide (touched m j)
      (λ t. let s = touched-some j t in
      absurd (true-false (sym s.1
      ∙ next-skip (named m) (start_of n - start_of q) (start_of q) s.0 (omega (arith, s.2))
      (omega (arith, s.3)))))
      (λ t. t))
      (λ l. named-touched a (next-pass (named m) (start_of n - start_of q) (start_of q) (omega arith)))

  -- a piece lies in touched pages
  pub piece-touched : (cap s a : ℕ) → s ≤ a → a < s + len (named m) s cap → touched m (page_of a) ≡ true
  piece-touched cap s a g l = named-touched a (piece-passes (named m) cap s a g l)

  -- no page past the map's end is touched
  pub touched-past : (q : ℕ) → 8 * length m ≤ start_of q → touched m q ≡ false
  touched-past q h =
      decide (touched m q)
      (λ t. let s = touched-some q t in absurd (true-false (sym s.1 ∙ named_past m s.0 (omega arith))))
      (λ t. t)

  -- a page is touched where more bytes are named below its end than below its start
  pub touched-counts : (q : ℕ)
      → touched m q ≡ ltb (count (named m) (start_of q)) (count (named m) (start_of (q + 1)))
  touched-counts q = decide (touched m q) more none
    where
      more : touched m q ≡ true
          → touched m q ≡ ltb (count (named m) (start_of q)) (count (named m) (start_of (q + 1)))
      more t =
          let s = touched-some q t in
          t ∙ sym (lt-ltb (count (named m) (start_of q)) (count (named m) (start_of (q + 1)))
          (omega (
            arith,
            rank_below (named m) (start_of (q + 1)) s.0 s.3 s.1,
            count-mono (named m) s.0 (start_of q) s.2,
          )))

      none : touched m q ≡ false
          → touched m q ≡ ltb (count (named m) (start_of q)) (count (named m) (start_of (q + 1)))
      none t =
          let e : start_of (q + 1) ≡ start_of q + page_size = omega arith in
          let k = count-skip (named m) (start_of q) page_size
          (λ i g l. decide (named m i)
          (λ n. absurd (true-false (sym (some-touched q i n g (omega arith)) ∙ t))) (λ n. n)) in
          t ∙ sym (le-ltb (count (named m) (start_of q)) (count (named m) (start_of (q + 1)))
          (rw e (omega arith)))
