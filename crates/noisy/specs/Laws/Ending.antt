-- Whatever rubbish comes, a load ends by itself, after at most the total and one exchange more.
use Rattle.std.specs.Prelude.{true, false, List, ◌≡◌, ltb, length}
use Rattle.std.proofs.Math.Path.{refl, ap, subst}
use Rattle.std.proofs.Common.{sym, ◌∙◌, arith, eq-eqb, ltb-true, ltb-false, ℕ, zero, suc, ◌+◌, ◌≤◌, ◌<◌}
use Rattle.basis.specs.Laws.Choice.{decide, true-false}
use Rattle.basis.specs.Refusals.{Answer, given}
use Rattle.basis.specs.declared.kind.RunKind.{RunKind}
use Rattle.events.specs.Laws.Events.{ack-or, greeting-or}
use Rattle.events.specs.declared.event.Event.{Event}
use Rattle.line.specs.Line.{event_from}
use Rattle.line.specs.declared.exchange.Loss.{Loss}
use Rattle.loader.specs.declared.state.Loader.{Loader}
use Rattle.noisy.specs.Laws.Moments.{noisy-stays, noisy-follows}
use Rattle.noisy.specs.Noisy.{NoisyMoment, board_makes, heard_of, noisy_between, noisy_steps_on, noisy_exchange_of, noisy_at, noisy_load_at}
use Rattle.order.specs.Laws.Totals.{total-some}
use Rattle.order.specs.Plan.{total}
use Rattle.order.specs.Sizes.{right_sizes}
use Rattle.packet.specs.Packet.{packet_most}
use Rattle.session.specs.Laws.Series.{not-ack, not-greeting}
use Rattle.session.specs.Laws.States.{greeting-state, ack-next, ack-last, step-state, waiting-fits}
use Rattle.session.specs.Laws.Steps.{step-taken}
use Rattle.session.specs.Phases.{ended}
use Rattle.session.specs.Session.{Session, Sent, at_greeting, state_at, took_of, sent_of, step_of, Loadable}

-- after n exchanges: the greeting is awaited; or n - 1 packets are acknowledged and the next is out; or the
-- session has ended
data Goes (board : ℕ) (m : List ℕ) (kind : RunKind) (n : ℕ) (s : Session) : Type 0 where
  waits : n ≡ 0 → s ≡ at_greeting board m kind → Goes board m kind n s
  stands : (k : ℕ) → n ≡ k + 1 → k < total board m kind → s ≡ state_at board m kind k → Goes board m kind n s
  over : ended s.phase ≡ true → Goes board m kind n s

module _ (board : ℕ) (image m : List ℕ) (file : Loadable board image m) (kind : RunKind) where
  right-sizes : right_sizes board (length image) (length m) packet_most ≡ true
  right-sizes = rw (eq-eqb _ _ file.right, eq-eqb _ _ file.long)

  -- from the greeting, and from a packet, by whatever event
  greeted : (e : Event) → Goes board m kind 1 (took_of board m (at_greeting board m kind) e)
  greeted e =
      greeting-or e
      (λ t. stands 0 refl (total-some board m file.long file.some kind)
      (ap (took_of board m (at_greeting board m kind)) t
      ∙ greeting-state board m file.long file.some kind))
      (λ t. over (ap (λ (s : Session). ended s.phase)
      (not-greeting board m file.long file.some kind e t).2))

  answered : (k : ℕ) (e : Event) → k < total board m kind
      → Goes board m kind (suc (k + 1)) (took_of board m (state_at board m kind k) e)
  answered k e b =
      ack-or e
      (λ t. let q = ap (took_of board m (state_at board m kind k)) t in
      decide (ltb (k + 1) (total board m kind))
      (λ d. let n = ltb-true (k + 1) (total board m kind) d in
      stands (k + 1) (omega arith) n (q ∙ ack-next board m file.long file.some kind k n))
      (λ d. let n : k + 1 ≡ total board m kind = omega
      (arith, ltb-false (k + 1) (total board m kind) d) in
      over (ap (λ (s : Session). ended s.phase)
      (q ∙ ack-last board m file.long file.some kind k n))))
      (λ t. over (ap (λ (s : Session). ended s.phase)
      (not-ack board m file.long file.some kind k e t b).2))

  module _ (o : Loss) (z : List ℕ) (x : NoisyMoment) where
    abbrev heard : Event
    heard = event_from board (heard_of o (board_makes board o z x).answers)

    -- the session takes what it hears
    takes : (s : Session) → x.session ≡ s
        → step_of board image m packet_most s heard ≡ given (sent_of board image m s heard)
        → (noisy_exchange_of board image m o z x).session ≡ took_of board m s heard
    unfolding noisy_exchange_of
    takes s q g =
        ap (λ (a : Answer Sent). (noisy_steps_on (noisy_between board o z x) a).session)
        (ap (λ (y : Session). step_of board image m packet_most y heard) q ∙ g)

    goes-on : (n : ℕ) → Goes board m kind n x.session → ended x.session.phase ≡ false
        → Goes board m kind (suc n) (noisy_exchange_of board image m o z x).session
    goes-on n (waits e q) t =
        rw (
          e,
          takes (at_greeting board m kind) q
              (step-taken board image m packet_most (at_greeting board m kind) heard right-sizes refl
              (waiting-fits board m file.long file.some kind)),
        )
        (greeted heard)
    goes-on n (stands k e b q) t =
        rw (
          e,
          takes (state_at board m kind k) q
              (step-state board image m packet_most kind right-sizes file.long file.some k heard b),
        )
        (answered k heard b)
    goes-on n (over e) t = absurd (true-false (sym e ∙ t))

  module _ (l : Loader) (losses : ℕ → Loss) (z : ℕ → List ℕ) (before : List ℕ) where
    abbrev noisy : ℕ → NoisyMoment
    noisy = noisy_load_at board image m kind l losses z before

    goes : (n : ℕ) → Goes board m kind n (noisy n).session
    unfolding noisy_at
    goes zero = waits refl refl
    goes (suc n) =
        decide (ended (noisy n).session.phase)
        (λ t. over (ap (λ (x : NoisyMoment). ended x.session.phase)
        (noisy-stays board image m losses z _ n (suc n) (omega arith) t) ∙ t))
        (λ t. subst (λ (x : NoisyMoment). Goes board m kind (suc n) x.session)
        (sym (noisy-follows board image m losses z _ n t))
        (goes-on (losses n) (z n) (noisy n) n (goes n) t))

    pub noisy-going : (n : ℕ)
        → ended (noisy_load_at board image m kind l losses z before n).session.phase ≡ false
        → n ≤ total board m kind
    noisy-going n t = go (goes n)
      where
        go : Goes board m kind n (noisy n).session → n ≤ total board m kind
        go (waits e q) = omega arith
        go (stands k e b q) = omega arith
        go (over e) = absurd (true-false (sym e ∙ t))

    pub noisy-finite :
        ended (noisy_load_at board image m kind l losses z before (total board m kind + 1)).session.phase
        ≡ true
    noisy-finite =
        decide (ended (noisy (total board m kind + 1)).session.phase) (λ t. t)
        (λ t. let b = noisy-going (total board m kind + 1) t in absurd (omega arith))
