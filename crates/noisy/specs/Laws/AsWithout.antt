-- A whole load with rubbish between its packets ends as without.
use Rattle.std.specs.Prelude.{true, false, List, [], ◌≡◌, length}
use Rattle.std.proofs.Math.Path.{refl, sym, ap}
use Rattle.std.proofs.Common.{subst, ◌∙◌, arith, ℕ, zero, suc, ◌≤◌, ◌<◌}
use Rattle.basis.specs.Laws.Choice.{decide, true-false}
use Rattle.basis.specs.Lists.{Bytes}
use Rattle.basis.specs.Units.{start_of, map_bytes}
use Rattle.basis.specs.declared.kind.RunKind.{RunKind}
use Rattle.line.specs.Laws.Demand.{silent}
use Rattle.line.specs.Laws.Moments.{stays, follows}
use Rattle.line.specs.Laws.Stages.{Stage, starts, stands, ends, stage}
use Rattle.line.specs.Line.{Moment, reply, exchange_of, moment_at, load_at}
use Rattle.line.specs.declared.exchange.Loss.{Loss}
use Rattle.loader.specs.declared.state.Loader.{Loader}
use Rattle.noisy.specs.Laws.Board.{Alike, exchange-alike, exchange-idle, packet-alike, opening-alike}
use Rattle.noisy.specs.Laws.Moments.{noisy-stays, noisy-follows}
use Rattle.noisy.specs.Noisy.{NoisyMoment, plainly, noisy_at, noisy_load_at, NoOpening}
use Rattle.order.specs.Laws.Out.{Out, erases, writes, verifies, runs, out-after}
use Rattle.order.specs.Plan.{sends_r, run_packet, total}
use Rattle.order.specs.Steps.{packet_at}
use Rattle.receiver.specs.Hearing.{rubbish, Whole}
use Rattle.receiver.specs.Laws.Feeding.{built-whole}
use Rattle.receiver.specs.Receiver.{gathered}
use Rattle.session.specs.Phases.{ended}
use Rattle.session.specs.Session.{Loadable}

-- each packet of the file is whole
packet-whole : (board : ℕ) (image m : List ℕ) (long : length m ≡ map_bytes board) (kind : RunKind) (k : ℕ)
    → k < total board m kind → Whole (packet_at board image m kind k)
packet-whole board image m long kind k b = go (out-after board m long kind k b)
  where
    run-whole : (kind : RunKind) → sends_r kind ≡ true → Whole (run_packet kind)
    run-whole RunKind.Reset t = built-whole _ _ _
    run-whole RunKind.Jump t = built-whole _ _ _
    run-whole RunKind.Hold t = absurd (true-false (sym t))

    go : Out board m kind k → Whole (packet_at board image m kind k)
    go (erases q e r c) = rw e (built-whole _ _ _)
    go (writes a j e r t c) = rw e (built-whole _ _ _)
    go (verifies a j e r t c) = rw e (built-whole _ _ _)
    go (runs e t s) = rw e (run-whole kind s)

-- one file with at least one named byte, one run kind, any loader, any flash, any losses; before each
-- exchange rubbish. Where the opening byte is lost none of the rubbish before it opens the board, for nobody
-- could tell that from the real one; where it arrives, even that changes nothing
module _ (board : ℕ) (few : board ≤ 255) (image m before : List ℕ) (file : Loadable board image m)
    (bytes : Bytes image) (kind : RunKind) (l : Loader) (size : length before ≡ start_of board)
    (losses : ℕ → Loss) (z : ℕ → List ℕ) (only : (i : ℕ) → rubbish (z i) ≡ true)
    (unopened : losses 0 ≡ Loss.Lost → NoOpening (z 0)) where
  abbrev load : ℕ → Moment
  load = load_at board image m kind l losses before

  abbrev noisy : ℕ → NoisyMoment
  noisy = noisy_load_at board image m kind l losses z before

  -- without the receiver it is the plain load; while the session goes on nothing is gathered
  record Like (n : ℕ) : Type 0 where
    pub plain-is : plainly (noisy n) ≡ load n
    pub idle : ended (load n).session.phase ≡ false → gathered (noisy n).port.receiver ≡ []

  -- the exchange after it is as without rubbish
  next-alike : (n : ℕ) → Like n → ended (load n).session.phase ≡ false
      → Alike board (losses n) (z n) (noisy n)
  next-alike n h t =
      go (load n) (stage board few image m before file bytes kind l size losses n) h.plain-is t
    where
      go : (y : Moment) → Stage board image m before kind l n y → plainly (noisy n) ≡ y
          → ended y.session.phase ≡ false → Alike board (losses n) (z n) (noisy n)
      go y (starts e q) p o =
          opening-alike board (z n) (only n) (noisy n)
          (ap (λ (x : Moment). x.loader.condition) (p ∙ q)) (h.idle t)
          (ap (λ (x : Moment). x.wire) (p ∙ q))
          (ap (λ (x : Moment). length x.flash) (p ∙ q) ∙ size)
          (losses n) (subst (λ (i : ℕ). losses i ≡ Loss.Lost → NoOpening (z i)) (sym e) unopened)
      go y (stands e k i b s f q) p o =
          packet-alike board (z n) (only n) (noisy n)
          (ap (λ (x : Moment). x.loader.condition) (p ∙ q) ∙ ap (λ (x : Loader). x.condition) s)
          (h.idle t)
          (subst Whole (sym (ap (λ (x : Moment). x.wire) (p ∙ q)))
          (packet-whole board image m file.long kind k b))
          (losses n)
      go y (ends e u k f v q) p o =
          absurd (true-false (sym (ap (λ (x : Moment). ended x.session.phase) q) ∙ o))

  -- after an exchange whose packet was lost the session has ended
  not-lost : (n : ℕ) → ended (load n).session.phase ≡ false → ended (load (suc n)).session.phase ≡ false
      → losses n ≡ Loss.Lost → ⊥
  not-lost n t o e =
      true-false (sym (ap ended
      (silent board few image m before file bytes kind l size losses n t
      (ap (λ (x : Loss). reply board x (load n)) e) (suc n) (omega arith))) ∙ o)

  like : (n : ℕ) → Like n
  unfolding noisy_at moment_at
  like zero = record { plain-is = refl; idle = λ t. refl }
  like (suc n) =
      let h = like n in
      let same : ended (noisy n).session.phase ≡ ended (load n).session.phase
      = ap (λ (x : Moment). ended x.session.phase) h.plain-is in
      decide (ended (load n).session.phase)
      (λ t. let p = noisy-stays board image m losses z _ n (suc n) (omega arith) (same ∙ t) in
      let q = stays board image m losses _ n (suc n) (omega arith) t in
      record {
        plain-is = ap plainly p ∙ h.plain-is ∙ sym q;
        idle = λ o. absurd (true-false (sym t ∙ sym (ap (λ (x : Moment). ended x.session.phase) q) ∙ o));
      })
      (λ t. let a = next-alike n h t in
      let p = noisy-follows board image m losses z _ n (same ∙ t) in
      let q = follows board image m losses _ n t in
      record {
        plain-is = ap plainly p ∙ exchange-alike board image m (losses n) (z n) (noisy n) a
            ∙ ap (exchange_of board image m (losses n)) h.plain-is ∙ sym q;
        idle = λ o. ap (λ (x : NoisyMoment). gathered x.port.receiver) p
            ∙ exchange-idle board image m (losses n) (z n) (noisy n) a (not-lost n t o);
      })

  pub as-without : (n : ℕ) → plainly (noisy_load_at board image m kind l losses z before n)
      ≡ load_at board image m kind l losses before n
  as-without n = (like n).plain-is

  -- so is what stands between the board's part of an exchange and the session's, and what the session hears
  pub alike_at : (n : ℕ) → ended (noisy_load_at board image m kind l losses z before n).session.phase ≡ false
      → Alike board (losses n) (z n) (noisy_load_at board image m kind l losses z before n)
  alike_at n t =
      let h = like n in
      next-alike n h (sym (ap (λ (x : Moment). ended x.session.phase) h.plain-is) ∙ t)
