-- Rubbish and then what the session has sent: the board makes of both what it makes of the latter alone.
use Rattle.std.specs.Prelude.{ℕ, ◌+◌, ◌-◌, true, ◌≡◌, refl, length}
use Rattle.std.proofs.Math.Path.{ap}
use Rattle.std.proofs.Common.{subst, ◌∙◌, arith, List, [], ◌∷◌, ◌++◌}
use Rattle.basis.specs.Board.{answer_most, opening_byte}
use Rattle.basis.specs.Refusals.{Answer, refused, given}
use Rattle.basis.specs.Units.{start_of}
use Rattle.line.specs.Line.{Moment, between, reply, stepped, steps_on, exchange_of, event_from}
use Rattle.line.specs.declared.exchange.Loss.{Loss}
use Rattle.loader.specs.declared.state.Condition.TheVariants.{Waiting, Serving}
use Rattle.loader.specs.declared.state.Loader.{Loader}
use Rattle.noisy.specs.Noisy.{NoisyMoment, plainly, board_makes, heard_of, noisy_between, noisy_stepped, noisy_steps_on, noisy_exchange_of, NoOpening}
use Rattle.packet.specs.Packet.{packet_most}
use Rattle.port.specs.Laws.All.{Idles, Brings, all-idle, all-brings, all-unheard, all-opens}
use Rattle.port.specs.Port.{all_of}
use Rattle.receiver.specs.Hearing.{Fed, feed, rubbish, Whole}
use Rattle.receiver.specs.Laws.Feeding.{handed_after, rubbish-idle, rubbish-packet}
use Rattle.receiver.specs.Receiver.{gathered}
use Rattle.session.specs.Session.{Sent, step_of}

-- loader, flash and what is heard are as without rubbish; nothing is gathered unless the packet was lost
pub record Alike (board : ℕ) (o : Loss) (z : List ℕ) (x : NoisyMoment) : Type 0 where
  pub loader-is : (board_makes board o z x).port.loader ≡ (between board o (plainly x)).loader
  pub flash-is : (board_makes board o z x).flash ≡ (between board o (plainly x)).flash
  pub heard-is : heard_of o (board_makes board o z x).answers ≡ reply board o (plainly x)
  pub gathered-is : (o ≡ Loss.Lost → ⊥) → gathered (board_makes board o z x).port.receiver ≡ []

-- ---- then so is the whole exchange

plainly-steps : (x : NoisyMoment) (a : Answer Sent) → plainly (noisy_steps_on x a) ≡ steps_on (plainly x) a
plainly-steps x (refused n) = refl
plainly-steps x (given s) = refl

steps-port : (x : NoisyMoment) (a : Answer Sent) → (noisy_steps_on x a).port ≡ x.port
steps-port x (refused n) = refl
steps-port x (given s) = refl

module _ (board : ℕ) (image m : List ℕ) (o : Loss) (z : List ℕ) (x : NoisyMoment)
    (e : Alike board o z x) where
  pub amid-alike : plainly (noisy_between board o z x) ≡ between board o (plainly x)
  amid-alike = λ i.
      record { loader = e.loader-is i; flash = e.flash-is i; session = x.session; wire = x.wire }

  pub exchange-alike : plainly (noisy_exchange_of board image m o z x)
      ≡ exchange_of board image m o (plainly x)
  unfolding noisy_exchange_of exchange_of
  exchange-alike =
      plainly-steps (noisy_between board o z x) (noisy_stepped board image m o z x)
      ∙ ap (steps_on (plainly (noisy_between board o z x)))
      (ap (λ (b : List ℕ). step_of board image m packet_most x.session (event_from board b)) e.heard-is)
      ∙ ap (λ (y : Moment). steps_on y (stepped board image m o (plainly x))) amid-alike

  pub exchange-idle : (o ≡ Loss.Lost → ⊥)
      → gathered (noisy_exchange_of board image m o z x).port.receiver ≡ []
  unfolding noisy_exchange_of
  exchange-idle n =
      ap (λ (p : _). gathered p.receiver)
      (steps-port (noisy_between board o z x) (noisy_stepped board image m o z x))
      ∙ e.gathered-is n

-- ---- what makes them alike: the board gets the packet once, and of the rubbish nothing

alike : (board : ℕ) (z : List ℕ) (x : NoisyMoment)
    → (let p = x.port in let f = x.flash in
    Brings board answer_most p.loader f x.wire [] (all_of board answer_most p f (z ++ x.wire)))
    → (o : Loss)
    → (o ≡ Loss.Lost
    → (g : List ℕ)
    × Idles x.port.loader x.flash g (all_of board answer_most x.port x.flash z))
    → Alike board o z x
alike board z x b Loss.Whole i =
    record {
      loader-is = b.loader-is;
      flash-is = b.flash-is;
      heard-is = b.answers-is;
      gathered-is = λ n. b.gathered-is;
    }
alike board z x b Loss.Lost i =
    let d = (i refl).1 in
    record {
      loader-is = d.loader-is;
      flash-is = d.flash-is;
      heard-is = d.answers-is;
      gathered-is = λ n. absurd (n refl);
    }
alike board z x b Loss.Unanswered i =
    record {
      loader-is = b.loader-is;
      flash-is = b.flash-is;
      heard-is = refl;
      gathered-is = λ n. b.gathered-is;
    }

module _ (board : ℕ) (z : List ℕ) (only : rubbish z ≡ true) (x : NoisyMoment) where
  abbrev l : Loader
  l = x.port.loader

  -- a packet, once the board serves
  pub packet-alike : l.condition ≡ Serving → gathered x.port.receiver ≡ [] → Whole x.wire → (o : Loss)
      → Alike board o z x
  packet-alike c g w o =
      let b = all-brings board answer_most l c (z ++ x.wire) x.port.receiver x.flash x.wire
      (length z + (length x.wire - 1)) some (ap (λ (y : Fed). y.handed) fed) in
      let i = all-idle board answer_most l c z x.port.receiver x.flash
      (ap (λ (h : List ℕ). (feed h z).handed) g ∙ (rubbish-idle z only).0) in
      alike board z x
      (subst (λ (h : List ℕ). Brings board answer_most l x.flash x.wire h
      (all_of board answer_most x.port x.flash (z ++ x.wire)))
      (ap (λ (y : Fed). y.gathered) fed) b)
      o (λ e. (_, i))
    where
      fed : feed (gathered x.port.receiver) (z ++ x.wire)
          ≡ handed_after (length z + (length x.wire - 1)) x.wire
      fed = ap (λ (h : List ℕ). feed h (z ++ x.wire)) g ∙ rubbish-packet z x.wire only w

      some : x.wire ≡ [] → ⊥
      some e = let n = w.long in omega (arith, ap length e)

  -- the opening byte
  pub opening-alike : l.condition ≡ Waiting → gathered x.port.receiver ≡ [] → x.wire ≡ opening_byte ∷ []
      → length x.flash ≡ start_of board → (o : Loss) → (o ≡ Loss.Lost → NoOpening z) → Alike board o z x
  opening-alike c g w size o none =
      alike board z x
      (rw w (all-opens board answer_most l c x.flash size (omega arith) z x.port.receiver only))
      o
      (λ e. (
        [],
        all-unheard board answer_most l c x.flash size (omega arith) z x.port.receiver (none e) g,
      ))
