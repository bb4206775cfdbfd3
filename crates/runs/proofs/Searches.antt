-- What a search found, and a run's length from a walk over its pages.
use Rattle.std.proofs.Common.{refl, ◌≡◌, ◌+◌, ◌-◌, ◌/◌, ◌%◌, ◌<◌, ◌≤◌, ℕ, Bool, false, List, length, Option, Some, None, ap, sym, ◌∙◌, arith}
use Rattle.std.specs.Prelude.{IfSome, is_some, ltb}
use Rattle.std.proofs.Common.{lt-ltb, le-ltb}
use Rattle.basis.specs.Choice.{any}
use Rattle.basis.specs.Units.{page_of, start_of}
use Rattle.basis.specs.declared.units.Address.{Address}
use Rattle.runs.specs.Found.{address_or}
use Rattle.runs.specs.Laws.Pages.{next-page, touched-past}
use Rattle.runs.specs.Laws.Runs.{any_next}
use Rattle.runs.specs.Map.{named}
use Rattle.runs.specs.Pages.{touched}
use Rattle.runs.specs.Runs.{next, len}
use Rattle.runs.proofs.Turns.{next-end, len-stop, len-go, len-end}

-- one of n passes where the search among them found one
pub searched : (p : ℕ → Bool) (a n : ℕ) (r : Option Address)
    → address_or (a + (a + n - a)) r ≡ next p a (a + n - a) → IfSome r (λ x. x.0 < a + n)
    → is_some r ≡ any p a n
searched p a n r e h = let w : a + n - a ≡ n = omega arith in go r (rw w at e) h ∙ sym (any_next p n a)
  where
    go : (r : Option Address) → address_or (a + n) r ≡ next p a n → IfSome r (λ x. x.0 < a + n)
        → is_some r ≡ ltb (next p a n) (a + n)
    go None e h = sym (le-ltb (next p a n) (a + n) (omega arith))
    go (Some x) e h = sym (lt-ltb (next p a n) (a + n) (omega arith))

pub ruleset searches = (searched)

-- from the end on there is nothing
pub none-left : (p : ℕ → Bool) (n a : ℕ) → n ≤ a → a + (n - a) ≡ next p a (n - a)
none-left p n a h = let e : a + (n - a) ≡ a = omega arith in e ∙ sym (next-end p n a h)

module _ (m : List ℕ) (q n a b : ℕ) (g : q ≤ n) (ea : a ≡ start_of q) (eb : b ≡ start_of n) where
  -- no byte from a page's start on, so no page
  pub none-touched : a + (b - a) ≡ next (named m) a (b - a) → q + (n - q) ≡ next (touched m) q (n - q)
  none-touched e =
      let w : page_of (a + (b - a)) ≡ q + (n - q) = omega arith in
      sym w ∙ ap page_of (e ∙ rw (ea, eb) refl) ∙ sym (next-page m q n g)

  -- the page of the byte s that is found
  pub one-touched : (s r : ℕ) → s ≡ next (named m) a (b - a) → r ≡ page_of s → r ≡ next (touched m) q (n - q)
  one-touched s r e f = f ∙ ap page_of (e ∙ rw (ea, eb) refl) ∙ sym (next-page m q n g)

pub ruleset pages = (none-left, none-touched, one-touched)

-- a walk over the pages of a run from q on, after n of at most cap
module _ (m : List ℕ) (q cap n : ℕ)
    (inv : len (touched m) q cap ≡ n + len (touched m) (q + n) (cap - n)) where
  pub run-stop : touched m (q + n) ≡ false → n ≡ len (touched m) q cap
  run-stop h = sym (len-stop (touched m) q cap n inv h)

  -- past the map no page is touched
  pub run-past : length m % 64 ≡ 0 → length m / 64 ≤ q + n → n ≡ len (touched m) q cap
  run-past z l = run-stop (touched-past m (q + n) (omega arith))

  pub run-end : n ≡ cap → cap ≡ len (touched m) q cap
  run-end e = sym e ∙ sym (len-end (touched m) q cap n inv (omega arith))

pub ruleset runs = (run-stop, run-past, run-end, len-go)
