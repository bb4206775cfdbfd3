-- Laws of the entry: what each condition lets in, and what is answered.
use Rattle.std.specs.Prelude.{ℕ, ◌≤◌, ◌<◌, true, false, Bool, List, ◌≡◌, eqb, length}
use Rattle.std.proofs.Math.Bool.{not}
use Rattle.std.proofs.Math.Path.{refl}
use Rattle.std.proofs.Common.{ap, ◌∙◌, lt-ltb, le-ltb, eq-eqb, ne_eqb}
use Rattle.basis.specs.Board.{answer_most}
use Rattle.basis.specs.Choice.{pick}
use Rattle.basis.specs.Laws.Choice.{either_first, either_second, either-false}
use Rattle.basis.specs.Laws.Refusals.{skip, stop, done}
use Rattle.basis.specs.Refusals.{refused, given, Answer, first}
use Rattle.basis.specs.Units.{start_of}
use Rattle.loader.specs.Commands.{obey_of, Effect, effect_after}
use Rattle.loader.specs.State.{with_condition}
use Rattle.loader.specs.Take.{opens_board, serve_of, hear_of, take_of, waiting, obeyed, sent_data, unheard, sizes_wrong}
use Rattle.loader.specs.declared.state.Condition.TheVariants.{Waiting, Serving, Left}
use Rattle.loader.specs.declared.state.Loader.{Loader}
use Rattle.packet.specs.Packet.{Parts, read_of}

-- ---- 20
module _ (board : ℕ) (f : List ℕ) (room : ℕ) where
  pub size-wrong : (length f ≡ start_of board → ⊥) → sizes_wrong board f room ≡ true
  size-wrong h = either_first (not (eqb (length f) (start_of board))) _ (ap not (ne_eqb _ _ h))

  pub room-wrong : room < answer_most → sizes_wrong board f room ≡ true
  room-wrong h = either_second (not (eqb (length f) (start_of board))) _ (lt-ltb room answer_most h)

  pub sizes-right : length f ≡ start_of board → answer_most ≤ room → sizes_wrong board f room ≡ false
  sizes-right e h =
      either-false (not (eqb (length f) (start_of board))) _ (ap not (eq-eqb _ _ e))
      (le-ltb room answer_most h)

module _ (board : ℕ) (l : Loader) (s f : List ℕ) where
  -- ---- by condition
  pub heard-waiting : l.condition ≡ Waiting → opens_board s ≡ true
      → hear_of board l s f ≡ given (record { loader = with_condition l Serving; flash = f })
  unfolding hear_of
  heard-waiting c o = rw c (skip 11 _ _ _ (ap not o) ∙ done _)

  pub waiting-unheard : l.condition ≡ Waiting → opens_board s ≡ false → hear_of board l s f ≡ refused 11
  unfolding hear_of
  waiting-unheard c o = rw c (stop 11 _ _ _ (ap not o))

  pub heard-serving : l.condition ≡ Serving → hear_of board l s f ≡ serve_of board l s f
  unfolding hear_of
  heard-serving c = rw c (skip 11 _ _ _ refl ∙ done _)

  pub left-unheard : l.condition ≡ Left → hear_of board l s f ≡ refused 11
  unfolding hear_of
  left-unheard c = rw c (stop 11 _ _ _ refl)

  -- ---- by what is read
  pub served-unread : {n : ℕ} → read_of s ≡ refused n → serve_of board l s f ≡ refused n
  unfolding serve_of
  served-unread e = rw e

  pub served-packet : (p : Parts) → read_of s ≡ given p
      → serve_of board l s f ≡ obey_of board l p.command p.address (sent_data s p) f
  unfolding serve_of
  served-packet p e = rw e

  -- ---- by size
  module _ (room : ℕ) where
    pub take-size : (length f ≡ start_of board → ⊥) → take_of board l s f room ≡ refused 20
    unfolding take_of
    take-size h = stop 20 _ _ _ (size-wrong board f room h)

    pub take-small : room < answer_most → take_of board l s f room ≡ refused 20
    unfolding take_of
    take-small h = stop 20 _ _ _ (room-wrong board f room h)

    pub take-heard : length f ≡ start_of board → answer_most ≤ room
        → take_of board l s f room ≡ hear_of board l s f
    unfolding take_of
    take-heard e h = skip 20 _ _ _ (sizes-right board f room e h) ∙ done _

-- ---- what any input leaves

-- what holds of loader and flash as they were, once the board is opened, and after the packet that was read
pub any-input : (P : Effect → Type 0) (board : ℕ) (l : Loader) (s f : List ℕ) (room : ℕ)
    → P (record { loader = l; flash = f })
    → P (record { loader = with_condition l Serving; flash = f })
    → ((p : Parts) → read_of s ≡ given p
    → P (effect_after l f (obey_of board l p.command p.address (sent_data s p) f)))
    → P (effect_after l f (take_of board l s f room))
unfolding take_of hear_of serve_of first
any-input P board l s f room as-was greeted obeys =
    go (sizes_wrong board f room) (unheard l.condition s) (waiting l.condition) (read_of s) refl
  where
    served : Effect
    served = record { loader = with_condition l Serving; flash = f }

    go : (a b w : Bool) (r : Answer Parts) → read_of s ≡ r
        → P (effect_after l f
        (pick a (refused 20) (pick b (refused 11) (pick w (given served) (obeyed board l s f r)))))
    go true b w r e = as-was
    go false true w r e = as-was
    go false false true r e = greeted
    go false false false (refused n) e = as-was
    go false false false (given p) e = obeys p e
