-- How a rehearsal begins: what the start gives is a moment that is begun.
use Rattle.std.proofs.Common.{ℕ, ◌+◌, List, [], ◌∷◌, ◌≡◌, sym, ap, ◌∙◌, take}
use Rattle.basis.specs.Board.{opening_byte}
use Rattle.basis.specs.Lists.{overlay}
use Rattle.basis.specs.Refusals.{Answer}
use Rattle.basis.specs.declared.kind.RunKind.{RunKind}
use Rattle.line.specs.declared.exchange.Loss.{Loss}
use Rattle.loader.specs.State.{reset_of}
use Rattle.loader.specs.declared.state.Loader.{Loader}
use Rattle.noisy.specs.Noisy.{NoisyMoment, plainly, begun_noisy, noisy_at, noisy_load_at, noisy_on}
use Rattle.noisy.specs.declared.exchange.Link.{Link}
use Rattle.order.specs.Plan.{total}
use Rattle.receiver.specs.Receiver.{fresh}
use Rattle.receiver.specs.declared.receiver.Receiver.{Receiver}
use Rattle.session.specs.Laws.Steps.{Starts}
use Rattle.session.specs.Session.{Next, Sent, sent_bytes, started}

-- with the loader reset and a new receiver that is a moment just begun, also by its own kind and loader
module _ {board : ℕ} {image m : List ℕ} {kind : RunKind} {room : ℕ} {y : Next}
    (s : Starts board image m room kind y)
    (l r : Loader) (reset : r ≡ reset_of l) (q : Receiver) (new : q ≡ fresh) (f packet old : List ℕ)
    (p : packet ≡ overlay (sent_bytes (started board image m room kind)) old) where
  abbrev first : Link
  first = record { port = record { loader = r; receiver = q }; session = y.session; len = y.len }

  pub begun-moment : noisy_on first f packet ≡ begun_noisy board m kind l f
  begun-moment = λ i.
      record {
        port = record { loader = reset i; receiver = new i };
        flash = f;
        session = (s.next-is i).session;
        wire = wire i;
      }
    where
      wire : take y.len packet ≡ opening_byte ∷ []
      wire =
          ap (λ (n : Next). take n.len packet) s.next-is
          ∙ ap (take 1) (p ∙ ap (λ (a : Answer Sent). overlay (sent_bytes a) old) s.started-is)

  pub begun-again : noisy_on first f packet ≡ begun_noisy board m y.session.kind r f
  begun-again =
      begun-moment
      ∙ sym (ap (λ (n : Next). begun_noisy board m n.session.kind l f) s.next-is)
      ∙ sym (ap (λ (x : Loader). begun_noisy board m y.session.kind x f) reset)

  -- so what it is driven to is the load's end
  pub begun-load : (losses : ℕ → Loss) (z : ℕ → List ℕ)
      → plainly (noisy_at board image m losses z (noisy_on first f packet)
      (total board m y.session.kind + 1))
      ≡ plainly (noisy_load_at board image m kind l losses z f (total board m kind + 1))
  begun-load losses z =
      ap (λ (x : NoisyMoment).
      plainly (noisy_at board image m losses z x (total board m x.session.kind + 1))) begun-moment
