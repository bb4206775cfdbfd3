-- What the loader's part of an exchange shows, by what befalls it, and what the session's part makes of it.
use Rattle.std.proofs.Common.{ℕ, ◌≤◌, List, ◌≡◌, refl, sym, ap, ◌∙◌, arith, eqb, length, take, length-append}
use Rattle.std.proofs.Math.Seq.{take-append_seam}
use Rattle.basis.specs.Laws.Refusals.{apart, given-one}
use Rattle.basis.specs.Lists.{overlay}
use Rattle.basis.specs.Refusals.{Answer, refused, given}
use Rattle.events.specs.Events.{classify_of}
use Rattle.line.specs.Line.{Moment, sends, arrives, reply, stepped, between, steps_on, exchange_of, Delivers, Exchanges}
use Rattle.line.specs.declared.exchange.Loss.{Loss}
use Rattle.loader.specs.declared.state.Loader.{Loader}
use Rattle.session.specs.Session.{Next, Session, Sent, measured, sent_bytes, step_of}
use Rattle.packet.specs.Packet.{packet_most}

-- the bytes stand at the start of the buffer
abbrev pub Begins : List ℕ → List ℕ → Type 0
Begins w b = (length w ≤ length b) × (take (length w) b ≡ w)

pub overlay-begins : (w old : List ℕ) → Begins w (overlay w old)
overlay-begins w old = (simp length-append (omega arith), take-append_seam w _)

-- what arrives stands at the start of the answer buffer
arrival : (board : ℕ) (o : Loss) (l : Loader) (s f old : List ℕ)
    → Begins (arrives board o l s f) (overlay (sends board o l s f) old)
arrival board Loss.Whole l s f old = overlay-begins (arrives board Loss.Whole l s f) old
arrival board Loss.Lost l s f old = (omega arith, refl)
arrival board Loss.Unanswered l s f old = (omega arith, refl)

module _ {board : ℕ} {o : Loss} {l next : Loader} {s f old flash answer : List ℕ} {arrived : ℕ}
    (d : Delivers board o l s f old next arrived flash answer) where
  arrived-bytes : take arrived answer ≡ arrives board o l s f
  arrived-bytes = rw (d.arrived-is, d.answer-is) (arrival board o l s f old).1

-- the session's step changes neither loader nor flash
steps-kept : (y : Moment) (a : Answer Sent)
    → ((steps_on y a).loader ≡ y.loader) × ((steps_on y a).flash ≡ y.flash)
steps-kept y (refused n) = (refl, refl)
steps-kept y (given s) = (refl, refl)

module _ (board : ℕ) (image m : List ℕ) (o : Loss) (x : Moment)
    (old_packet packet old_answer answer flash : List ℕ) (room arrived : ℕ) (next : Loader)
    (full : room ≡ packet_most)
    (d : Delivers board o x.loader x.wire x.flash old_answer next arrived flash answer) where
  abbrev saying : ℕ → ℕ → List ℕ → Answer Sent
  saying space n b = step_of board image m space x.session (classify_of board (eqb n 0) b)

  abbrev said : Answer Sent
  said = saying room arrived (take arrived answer)

  said-is : said ≡ stepped board image m o x
  said-is =
      ap (λ (n : ℕ). saying n arrived (take arrived answer)) full
      ∙ ap (λ (n : ℕ). saying packet_most n (take arrived answer)) d.arrived-is
      ∙ ap (saying packet_most (length (reply board o x))) (arrived-bytes d)

  abbrev Shown : Session → ℕ → Type 0
  Shown s len =
      Exchanges board image m o x old_packet old_answer (record { loader = next; session = s; len = len })
      flash packet answer

  module _ (p : packet ≡ overlay (sent_bytes said) old_packet) where
    -- what the session and its packet are then is what an exchange shows
    shows : (a : Answer Sent) → stepped board image m o x ≡ a → (s : Session) (len : ℕ)
        → s ≡ (steps_on (between board o x) a).session → len ≡ length (steps_on (between board o x) a).wire
        → Shown s len
    unfolding exchange_of
    shows a q s len es el =
        let k = steps-kept (between board o x) (stepped board image m o x) in
        record {
          loader-is = d.loader-is ∙ sym k.0;
          session-is = es ∙ sym (ap (λ (b : Answer Sent). (steps_on (between board o x) b).session) q);
          len_is = el ∙ sym (ap (λ (b : Answer Sent). length (steps_on (between board o x) b).wire) q);
          flash-is = d.flash-is ∙ sym k.1;
          packet-is = p ∙ ap (λ (b : Answer Sent). overlay (sent_bytes b) old_packet) said-is;
          answer-is = d.answer-is;
        }

    -- the session goes on
    pub goes : (y : Next) → given y ≡ measured said → Shown y.session y.len
    goes y e = go (stepped board image m o x) refl (e ∙ ap measured said-is)
      where
        go : (a : Answer Sent) → stepped board image m o x ≡ a → given y ≡ measured a
            → Shown y.session y.len
        go (refused n) q t = absurd (apart (sym t))
        go (given s) q t =
            shows (given s) q y.session y.len (ap (λ (n : Next). n.session) (given-one t))
            (ap (λ (n : Next). n.len) (given-one t))

    -- or is as it was, and so is its packet
    pub keeps : {n : ℕ} (len : ℕ) → refused n ≡ measured said → len ≡ length x.wire
        → Shown x.session len
    keeps {n} len e w = go (stepped board image m o x) refl (e ∙ ap measured said-is)
      where
        go : (a : Answer Sent) → stepped board image m o x ≡ a → refused n ≡ measured a
            → Shown x.session len
        go (refused k) q t = shows (refused k) q x.session len refl w
        go (given s) q t = absurd (apart t)
