-- The moments of a noisy load, one after another.
use Rattle.std.specs.Prelude.{ℕ, suc, ◌+◌, ◌≤◌, Bool, true, false, List, ◌≡◌}
use Rattle.std.proofs.Math.Path.{refl}
use Rattle.std.proofs.Common.{ap, ◌∙◌}
use Rattle.basis.specs.Choice.{pick}
use Rattle.line.specs.Laws.Turns.{turns-stay, turn-follows, turns-done, turns-again}
use Rattle.line.specs.declared.exchange.Loss.{Loss}
use Rattle.noisy.specs.Noisy.{NoisyMoment, noisy_exchange_of, noisy_at}
use Rattle.session.specs.Phases.{ended}

module _ (board : ℕ) (image m : List ℕ) (losses : ℕ → Loss) (z : ℕ → List ℕ) (x : NoisyMoment) where
  abbrev at : ℕ → NoisyMoment
  at = noisy_at board image m losses z x

  abbrev over : NoisyMoment → Bool
  over y = ended y.session.phase

  abbrev turn : ℕ → NoisyMoment → NoisyMoment
  turn n = noisy_exchange_of board image m (losses n) (z n)

  next : (n : ℕ) → at (suc n) ≡ pick (over (at n)) (at n) (turn n (at n))
  unfolding noisy_at
  next n = refl

  -- after the end nothing changes
  pub noisy-stays : (i n : ℕ) → i ≤ n → ended (at i).session.phase ≡ true → at n ≡ at i
  noisy-stays = turns-stay over turn at next

  -- while the session goes on the next exchange takes place
  pub noisy-follows : (n : ℕ) → ended (at n).session.phase ≡ false
      → at (suc n) ≡ noisy_exchange_of board image m (losses n) (z n) (at n)
  noisy-follows = turn-follows over turn at next

  -- both of a moment that stands after i exchanges
  pub noisy-done : (k i : ℕ) (y : NoisyMoment) → y ≡ at i → i ≤ k → ended y.session.phase ≡ true
      → at k ≡ y
  noisy-done = turns-done over turn at next

  pub noisy-again : (i : ℕ) (y : NoisyMoment) (o : Loss) (w : List ℕ) → y ≡ at i
      → ended y.session.phase ≡ false → o ≡ losses i → w ≡ z i
      → noisy_exchange_of board image m o w y ≡ at (i + 1)
  noisy-again i y o w e t p q =
      ap (λ (v : Loss). noisy_exchange_of board image m v w y) p
      ∙ ap (λ (v : List ℕ). noisy_exchange_of board image m (losses i) v y) q
      ∙ turns-again over turn at next i y e t
