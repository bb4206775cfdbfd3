-- What a walk over places has met so far, and how it goes on.
use Rattle.std.specs.Prelude.{ℕ, zero, suc, ◌+◌, ◌-◌, ◌/◌, ◌%◌, Bool, eqb, ltb}
use Rattle.basis.specs.Choice.{pick, both}
use Rattle.runs.specs.Runs.{count, wrapped_of, off, starts}
use Rattle.runs.specs.declared.tally.Tally.{Tally}

-- the tally of the places below n
unfoldable pub tally_at : (ℕ → Bool) → ℕ → ℕ → Tally
tally_at p cap n = record { passed = count p n; pieces = count (starts p cap) n; off = off p cap n }

-- one place more, which passes or not
unfoldable pub took_of : ℕ → Tally → Bool → Tally
took_of cap t b =
    record {
      passed = pick b (t.passed + 1) t.passed;
      pieces = pick (both b (eqb t.off 0)) (t.pieces + 1) t.pieces;
      off = pick b (wrapped_of (t.off + 1) cap) 0;
    }

-- k places more: the lowest k bits of a word, the lowest first
unfoldable pub took_bits : ℕ → Tally → ℕ → ℕ → Tally
took_bits cap t w zero = t
took_bits cap t w (suc k) = took_bits cap (took_of cap t (eqb (w % 2) 1)) (w / 2) k

-- 1 where an open piece of `off` takes in the whole of a row of `row`, else 0
unfoldable pub joins_of : ℕ → ℕ → ℕ → ℕ
joins_of off row cap = pick (eqb off 0) 0 (pick (eqb row 0) 0 (pick (ltb cap (off + row)) 0 1))

-- what is open of x that pass in a row, once a whole piece of cap is cut off
unfoldable pub cut_of : ℕ → ℕ → ℕ
cut_of x cap = pick (ltb x cap) x (x - cap)
