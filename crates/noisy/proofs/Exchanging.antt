-- What the board's part and the session's make together is an exchange.
use Rattle.std.proofs.Common.{ℕ, ◌≤◌, List, [], ◌≡◌, ap, ◌∙◌, arith, length, take, length-append}
use Rattle.std.proofs.Math.Seq.{take-append_seam}
use Rattle.basis.specs.Board.{answer_most}
use Rattle.basis.specs.Lists.{overlay}
use Rattle.basis.specs.Refusals.{Answer, refused, given}
use Rattle.line.specs.Line.{event_from}
use Rattle.line.specs.declared.exchange.Loss.{Loss}
use Rattle.noisy.specs.Laws.Heard.{heard-told}
use Rattle.noisy.specs.Noisy.{NoisyMoment, reaching, board_makes, heard_of, noisy_between, noisy_stepped, noisy_steps_on, noisy_exchange_of, noisy_on, Joins, hearing, next_after, NoisyExchanges}
use Rattle.noisy.specs.declared.exchange.Link.{Link}
use Rattle.packet.specs.Packet.{packet_most}
use Rattle.port.specs.Port.{all_of}
use Rattle.port.specs.declared.port.Port.{Port}
use Rattle.session.specs.Session.{Next, Sent, sent_bytes, step_of}

module _ (board : ℕ) (image m : List ℕ) (o : Loss) (z : List ℕ) (link : Link) (before old : List ℕ)
    (fits : link.len ≤ length old) (full : length old ≡ packet_most) (port : Port) (heard : ℕ)
    (flash joined packet : List ℕ) (next : Next)
    (d : Joins
    (hearing o (all_of board answer_most link.port before (reaching o z (take link.len old))))
    [] port heard flash joined) where
  abbrev here : NoisyMoment
  here = noisy_on link before old

  abbrev says : Answer Sent
  says = step_of board image m (length old) link.session (event_from board (take heard joined))

  says_is : says ≡ noisy_stepped board image m o z here
  says_is =
      ap (λ (n : ℕ). step_of board image m n link.session (event_from board (take heard joined))) full
      ∙ ap (λ (b : List ℕ). step_of board image m packet_most link.session (event_from board b))
      d.joined_is
      ∙ ap (step_of board image m packet_most link.session)
      (heard-told board (heard_of o (board_makes board o z here).answers))

  abbrev after : Link
  after = record { port = port; session = next.session; len = next.len }

  shows : (a : Answer Sent) → next ≡ next_after link.session link.len a
      → packet ≡ overlay (sent_bytes a) old
      → (noisy_on after flash packet ≡ noisy_steps_on (noisy_between board o z here) a)
      × (next.len ≤ length packet)
  shows (refused n) e p =
      let w : take next.len packet ≡ take link.len old = rw (e, p) in (
        (λ i. record { port = d.port-is i; flash = d.flash-is i; session = (e i).session; wire = w i }),
        rw (e, p) fits,
      )
  shows (given s) e p =
      let w : take next.len packet ≡ s.packet = rw (e, p) (take-append_seam s.packet _) in (
        (λ i. record { port = d.port-is i; flash = d.flash-is i; session = (e i).session; wire = w i }),
        rw (e, p) (simp length-append (omega arith)),
      )

  pub exchanges : next ≡ next_after link.session link.len says → packet ≡ overlay (sent_bytes says) old
      → NoisyExchanges board image m o z (noisy_on link before old) after flash packet
  unfolding noisy_exchange_of
  exchanges e p =
      let s = shows (noisy_stepped board image m o z here)
      (e ∙ ap (next_after link.session link.len) says_is)
      (p ∙ ap (λ (a : Answer Sent). overlay (sent_bytes a) old) says_is) in
      record { moment-is = s.0; len-fits = s.1 }
