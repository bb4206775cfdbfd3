-- The plain session and the quick one are alike as a whole: for every file, every run kind and every series
-- of events, answers' bytes and silence alike, each step shows the same packet, byte for byte, the same
-- ending or refusal and the same log record.
use Rattle.std.specs.Prelude.{ℕ, ◌≡◌}
use Rattle.std.proofs.Math.Path.{refl, ap₂}
use Rattle.std.proofs.Common.{ap, ◌∙◌, List, [], ◌∷◌}
use Rattle.alike.specs.Alike.{quick_of, as_quick, Heard, Shown, quick_shows, plain_shows, quick_next, plain_next, quick_talk, plain_talk, quick_after, plain_after, quick_all, plain_all}
use Rattle.alike.specs.Laws.Steps.{same_start, same-stepped, same_outcome, same_log}
use Rattle.basis.specs.Refusals.{Answer, refused, given}
use Rattle.basis.specs.declared.kind.RunKind.{RunKind}
use Rattle.plain.specs.Plain as plain
use Rattle.plain.specs.Plain.{Plain}
use Rattle.session.specs.Session as quick
use Rattle.session.specs.Session.{Session}

-- what is shown of a step, and where both then stand
shows_same : (m : List ℕ) (log_room : ℕ) (a : Answer plain.Sent)
    → quick_shows log_room (as_quick m a) ≡ plain_shows log_room a
shows_same m log_room (refused n) = refl
shows_same m log_room (given x) =
    let o = same_outcome m x.session in
    let l = same_log m log_room x.session in
    λ i. given (record {
      packet = x.packet;
      outcome = o i;
      acknowledged = x.session.acknowledged;
      log = l i;
    })

next-same : (m : List ℕ) (p : Plain) (a : Answer plain.Sent)
    → quick_next (quick_of m p) (as_quick m a) ≡ quick_of m (plain_next p a)
next-same m p (refused n) = refl
next-same m p (given x) = refl

module _ (image m : List ℕ) (room log_room : ℕ) where
  -- from any record of a plain session on
  pub same-talk : (hs : List Heard) (p : Plain)
      → quick_talk image m room log_room (quick_of m p) hs ≡ plain_talk image m room log_room p hs
  unfolding quick_talk plain_talk
  same-talk [] p = refl
  same-talk (h ∷ hs) p =
      let a = plain.step_by image m room p h.silent h.answer in
      let e = same-stepped image m room p h.silent h.answer in
      ap₂ (λ (x : Answer Shown) (xs : List (Answer Shown)). x ∷ xs)
      (ap (quick_shows log_room) e ∙ shows_same m log_room a)
      (ap (λ (x : Session). quick_talk image m room log_room x hs)
      (ap (quick_next (quick_of m p)) e ∙ next-same m p a)
      ∙ same-talk hs (plain_next p a))

  -- and from a start on
  after_same : (hs : List Heard) (a : Answer plain.Sent)
      → quick_after image m room log_room (as_quick m a) hs ≡ plain_after image m room log_room a hs
  after_same hs (refused n) = refl
  after_same hs (given x) = same-talk hs x.session

  pub same-session : (board : ℕ) (kind : RunKind) (hs : List Heard)
      → quick_all image m room log_room board kind hs ≡ plain_all image m room log_room board kind hs
  same-session board kind hs =
      let a = plain.started board image m room kind in
      let e = same_start board image m room kind in
      ap₂ (λ (x : Answer Shown) (xs : List (Answer Shown)). x ∷ xs)
      (ap (quick_shows log_room) e ∙ shows_same m log_room a)
      (ap (λ (x : Answer quick.Sent). quick_after image m room log_room x hs) e ∙ after_same hs a)
