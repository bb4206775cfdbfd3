-- How the code walks: what it has come to place by place, and what the walks over pages and bytes tell of the
-- list. Only contracts inside the crate speak of these; Laws/List says what they come to.
use Rattle.std.specs.Prelude.{ℕ, zero, suc, ◌+◌, ◌-◌, Bool, eqb}
use Rattle.basis.specs.Choice.{pick}
use Rattle.plain.specs.declared.list.Walk.{Walk}

-- one place more: one that does not pass closes what is open; one that passes goes into it, or starts a
-- packet of at most so many places, which may be the one that is due
unfoldable pub met_of : ℕ → ℕ → ℕ → Walk → Bool → Walk
met_of most due at w passes =
    pick passes
    (pick (eqb w.left 0)
    (record {
      number = w.number + 1;
      left = most - 1;
      place = pick (eqb w.number due) at w.place;
    })
    (record { number = w.number; left = w.left - 1; place = w.place }))
    (record { number = w.number; left = 0; place = w.place })

-- the walk over the places below n, with packets numbered from b on
unfoldable pub walk_at : (ℕ → Bool) → ℕ → ℕ → ℕ → ℕ → Walk
walk_at p most b due zero = record { number = b; left = 0; place = 0 }
walk_at p most b due (suc n) = met_of most due n (walk_at p most b due n) (p n)
