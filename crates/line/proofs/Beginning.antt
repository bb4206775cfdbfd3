-- How a rehearsal begins: what the start gives is a moment that is begun.
use Rattle.std.specs.Prelude.{Result, Ok, Err, IsErrAnd}
use Rattle.std.proofs.Common.{ℕ, ◌+◌, List, [], ◌∷◌, ◌≡◌, sym, ap, ◌∙◌, take}
use Rattle.basis.specs.Board.{opening_byte}
use Rattle.basis.specs.Lists.{overlay}
use Rattle.basis.specs.Refusals.{Answer}
use Rattle.basis.specs.declared.kind.RunKind.{RunKind}
use Rattle.events.specs.declared.refusal.Refusal.{Refusal}
use Rattle.line.specs.Line.{Moment, begun, moment_at, load_at, moment_on}
use Rattle.line.specs.declared.exchange.Link.{Link}
use Rattle.line.specs.declared.exchange.Loss.{Loss}
use Rattle.line.specs.declared.rehearse.Load.{Load}
use Rattle.loader.specs.State.{reset_of}
use Rattle.loader.specs.declared.state.Loader.{Loader}
use Rattle.order.specs.Plan.{total}
use Rattle.session.specs.Laws.Steps.{Starts}
use Rattle.session.specs.Session.{Next, Sent, sent_bytes, started}

-- an error that `?` hands on is the one that was met
pub handed : (r : Result Load Refusal) (x : Refusal) → IsErrAnd r (λ (y : Refusal). y ≡ x) → r ≡ Err x
handed (Ok d) x k = absurd k
handed (Err y) x k = ap Err k

-- with the loader reset that is a moment just begun, also by its own kind and loader
module _ {board : ℕ} {image m : List ℕ} {kind : RunKind} {room : ℕ} {y : Next}
    (s : Starts board image m room kind y)
    (l r : Loader) (reset : r ≡ reset_of l) (f packet old : List ℕ)
    (p : packet ≡ overlay (sent_bytes (started board image m room kind)) old) where
  abbrev first : Link
  first = record { loader = r; session = y.session; len = y.len }

  pub begun-moment : moment_on first f packet ≡ begun board m kind l f
  begun-moment = λ i. record { loader = reset i; flash = f; session = (s.next-is i).session; wire = wire i }
    where
      wire : take y.len packet ≡ opening_byte ∷ []
      wire =
          ap (λ (n : Next). take n.len packet) s.next-is
          ∙ ap (take 1) (p ∙ ap (λ (a : Answer Sent). overlay (sent_bytes a) old) s.started-is)

  pub begun-again : moment_on first f packet ≡ begun board m y.session.kind r f
  begun-again =
      begun-moment
      ∙ sym (ap (λ (n : Next). begun board m n.session.kind l f) s.next-is)
      ∙ sym (ap (λ (x : Loader). begun board m y.session.kind x f) reset)

  -- so what it is driven to is the load's end
  pub begun-load : (losses : ℕ → Loss)
      → moment_at board image m losses (moment_on first f packet) (total board m y.session.kind + 1)
      ≡ load_at board image m kind l losses f (total board m kind + 1)
  begun-load losses =
      ap (λ (x : Moment). moment_at board image m losses x (total board m x.session.kind + 1)) begun-moment
