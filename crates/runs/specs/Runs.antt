-- Runs of the numbers that pass a test, cut into pieces of at most cap from the run's start.
-- Named bytes and touched pages both go by these.
use Rattle.std.specs.Prelude.{ℕ, zero, suc, ◌+◌, ◌-◌, Bool, eqb}
use Rattle.basis.specs.Choice.{pick, both}

-- how many of the numbers below n pass
unfoldable pub count : (ℕ → Bool) → ℕ → ℕ
count p zero = 0
count p (suc n) = pick (p n) (suc (count p n)) (count p n)

-- what is open of a piece of x: nothing once it has cap
abbrev pub wrapped_of : ℕ → ℕ → ℕ
wrapped_of x cap = pick (eqb x cap) 0 x

-- how much of a's piece stands before a: a piece ends where p fails, and when it has cap
unfoldable pub off : (ℕ → Bool) → ℕ → ℕ → ℕ
off p cap zero = 0
off p cap (suc a) = pick (p a) (wrapped_of (suc (off p cap a)) cap) 0

-- a piece starts at a
unfoldable pub starts : (ℕ → Bool) → ℕ → ℕ → Bool
starts p cap a = both (p a) (eqb (off p cap a) 0)

-- how many pass in a row from a on, at most f
unfoldable pub len : (ℕ → Bool) → ℕ → ℕ → ℕ
len p a zero = 0
len p a (suc f) = pick (p a) (suc (len p (suc a) f)) 0

-- the lowest that passes from a on, or a + f where none of f does
unfoldable pub next : (ℕ → Bool) → ℕ → ℕ → ℕ
next p a zero = a
next p a (suc f) = pick (p a) a (next p (suc a) f)

-- the one below n that passes with k that pass below it, or 0 where there is none
unfoldable pub select : (ℕ → Bool) → ℕ → ℕ → ℕ
select p k zero = 0
select p k (suc n) = pick (both (p n) (eqb (count p n) k)) n (select p k n)

-- where the piece that a lies in starts
abbrev pub home : (ℕ → Bool) → ℕ → ℕ → ℕ
home p cap a = a - off p cap a

-- where the piece after the one at s starts, or n where there is none below n
abbrev pub follow : (ℕ → Bool) → ℕ → ℕ → ℕ → ℕ
follow p cap n s = next p (s + len p s cap) (n - (s + len p s cap))
