-- An answer that is told as bytes or as none is heard as the two parts that say so.
use Rattle.std.specs.Prelude.{ℕ, Bool, true, false, not, List, Option, ◌≡◌, refl}
use Rattle.std.proofs.Common.{Bor}
use Rattle.std.specs.Bool.{then_some}
use Rattle.std.specs.Option.{option_copied}
use Rattle.events.specs.Events.{classify_of, silent_in, bytes_in}

pub told : (board : ℕ) (o : Option (Bor (List ℕ))) (t : Bool) (x : Bor (List ℕ)) → o ≡ then_some (not t) x
    → classify_of board (silent_in (option_copied o)) (bytes_in (option_copied o)) ≡ classify_of board t x.now
unfolding classify_of
told board o t x e = rw e (go t)
  where
    go : (t : Bool)
        → classify_of board (silent_in (option_copied (then_some (not t) x)))
        (bytes_in (option_copied (then_some (not t) x)))
        ≡ classify_of board t x.now
    go true = refl
    go false = refl
