-- One turn of a load: after an exchange the buffer holds what is on the wire; and turns are not too many.
use Rattle.std.proofs.Common.{ℕ, ◌≤◌, false, List, ◌≡◌, sym, ap, ◌∙◌, arith, length, take, length-take-le}
use Rattle.basis.specs.Lists.{Bytes, overlay}
use Rattle.basis.specs.Refusals.{Answer, refused, given}
use Rattle.basis.specs.Units.{start_of}
use Rattle.line.proofs.Delivering.{Begins, overlay-begins}
use Rattle.basis.specs.declared.kind.RunKind.{RunKind}
use Rattle.line.specs.Laws.Moments.{going}
use Rattle.line.specs.Line.{Moment, begun, between, stepped, steps_on, exchange_of, moment_at, load_at, moment_on, Exchanges}
use Rattle.line.specs.declared.exchange.Link.{Link}
use Rattle.line.specs.declared.exchange.Loss.{Loss}
use Rattle.loader.specs.declared.state.Loader.{Loader}
use Rattle.order.specs.Plan.{total}
use Rattle.session.specs.Phases.{ended}
use Rattle.session.specs.Session.{Sent, sent_bytes, Loadable}

-- ---- what an exchange leaves in the packet buffer is what is on the wire

module _ (board : ℕ) (image m : List ℕ) (o : Loss) (link : Link) (before old : List ℕ)
    (fits : link.len ≤ length old) where
  abbrev here : Moment
  here = moment_on link before old

  wired : (a : Answer Sent) → Begins (steps_on (between board o here) a).wire (overlay (sent_bytes a) old)
  wired (refused n) =
      let e = length-take-le link.len old fits in
      (omega (arith, e), ap (λ (k : ℕ). take k old) e)
  wired (given s) = overlay-begins s.packet old

  module _ {old_answer flash packet answer : List ℕ} {r : Link}
      (x : Exchanges board image m o here old old_answer r flash packet answer) where
    pub len-fits : r.len ≤ length packet
    unfolding exchange_of
    len-fits = rw (x.len_is, x.packet-is) (wired (stepped board image m o here)).0

    wire : take r.len packet ≡ (exchange_of board image m o here).wire
    unfolding exchange_of
    wire = rw (x.len_is, x.packet-is) (wired (stepped board image m o here)).1

    pub exchanged : moment_on r flash packet ≡ exchange_of board image m o here
    exchanged = λ i.
        record { loader = x.loader-is i; flash = x.flash-is i; session = x.session-is i; wire = wire i }

-- ---- a session that goes on has not had its last turn

module _ (board : ℕ) (few : board ≤ 255) (image m before : List ℕ) (file : Loadable board image m)
    (bytes : Bytes image) (kind : RunKind) (l : Loader) (size : length before ≡ start_of board)
    (losses : ℕ → Loss) where
  pub not-past : (start : Moment) → start ≡ begun board m kind l before → (i : ℕ) (x : Moment)
      → x ≡ moment_at board image m losses start i → ended x.session.phase ≡ false → i ≤ total board m kind
  not-past start fresh i x e t =
      going board few image m before file bytes kind l size losses i
      (sym (ap (λ (y : Moment). ended y.session.phase) (e ∙ since)) ∙ t)
    where
      since : moment_at board image m losses start i ≡ load_at board image m kind l losses before i
      since = ap (λ (y : Moment). moment_at board image m losses y i) fresh
