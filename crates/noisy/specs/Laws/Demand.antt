-- What demand 3 says of a load holds of it with rubbish between the packets, and so does the rehearsal.
use Rattle.std.specs.Prelude.{Bool, true, false, not, List, [], ◌≡◌, eqb, length}
use Rattle.std.proofs.Math.Path.{refl}
use Rattle.std.proofs.Common.{sym, ap, subst, ◌∙◌, arith, eqb-true, ℕ, ◌+◌, ◌≤◌, ◌<◌}
use Rattle.std.proofs.lemmas.Bool.{eqb-false, not-false}
use Rattle.basis.specs.Choice.{pick, both}
use Rattle.basis.specs.Laws.Choice.{both_true}
use Rattle.basis.specs.Lists.{Bytes}
use Rattle.basis.specs.Refusals.{refused, given, first}
use Rattle.basis.specs.Units.{start_of}
use Rattle.basis.specs.declared.kind.RunKind.{RunKind}
use Rattle.events.specs.declared.ending.Outcome.{Outcome}
use Rattle.line.specs.Demand.{Stands, Valid, Held, AsAsked, Safe, Free}
use Rattle.line.specs.Laws.Demand as plain
use Rattle.line.specs.Line.{Moment, between, reply, load_at, rehearsing, rehearse_of}
use Rattle.line.specs.declared.exchange.Loss.{Loss}
use Rattle.loader.specs.declared.state.Loader.{Loader}
use Rattle.noisy.specs.Laws.AsWithout.{as-without, alike_at}
use Rattle.noisy.specs.Laws.Board.{amid-alike}
use Rattle.noisy.specs.Noisy.{NoisyMoment, plainly, board_makes, heard_of, noisy_between, noisy_load_at, noisy_rehearse_of, NoOpening}
use Rattle.order.specs.Laws.Sizes.{sizes-right}
use Rattle.order.specs.Plan.{total}
use Rattle.order.specs.Sizes.{right_sizes}
use Rattle.packet.specs.Packet.{packet_most}
use Rattle.receiver.specs.Hearing.{rubbish}
use Rattle.runs.specs.Map.{named}
use Rattle.runs.specs.Pieces.{named_count}
use Rattle.session.specs.Phases.{ended}
use Rattle.session.specs.Session.{Loadable}
use Rattle.session.specs.declared.phase.Phase.{Phase}

module _ (board : ℕ) (few : board ≤ 255) (image m before : List ℕ) (file : Loadable board image m)
    (bytes : Bytes image) (kind : RunKind) (l : Loader) (size : length before ≡ start_of board)
    (losses : ℕ → Loss) (z : ℕ → List ℕ) (only : (i : ℕ) → rubbish (z i) ≡ true)
    (unopened : losses 0 ≡ Loss.Lost → NoOpening (z 0)) where
  abbrev noisy : ℕ → NoisyMoment
  noisy = noisy_load_at board image m kind l losses z before

  same : (n : ℕ) → plainly (noisy n) ≡ load_at board image m kind l losses before n
  same = as-without board few image m before file bytes kind l size losses z only unopened

  -- the session goes on there as without rubbish
  open-too : (n : ℕ) → ended (noisy n).session.phase ≡ false
      → ended (load_at board image m kind l losses before n).session.phase ≡ false
  open-too n t = sym (ap (λ (x : Moment). ended x.session.phase) (same n)) ∙ t

  -- 1. every moment is safe
  pub noisy-safe : (n : ℕ)
      → Safe board image m before kind (plainly (noisy_load_at board image m kind l losses z before n))
  noisy-safe n =
      subst (Safe board image m before kind) (sym (same n))
      (plain.safe board few image m before file bytes kind l size losses n)

  pub noisy-safe-amid : (n : ℕ)
      → ended (noisy_load_at board image m kind l losses z before n).session.phase ≡ false
      → Safe board image m before kind
      (plainly (noisy_between board (losses n) (z n) (noisy_load_at board image m kind l losses z before n)))
  noisy-safe-amid n t =
      subst (Safe board image m before kind)
      (sym (amid-alike board image m (losses n) (z n) (noisy n)
      (alike_at board few image m before file bytes kind l size losses z only unopened n t)
      ∙ ap (between board (losses n)) (same n)))
      (plain.safe-amid board few image m before file bytes kind l size losses n (open-too n t))

  -- 2. with nothing lost and no protection in the way it ends as asked, and flash has every file byte
  pub noisy-as-asked : ((n : ℕ) → losses n ≡ Loss.Whole) → Free m l → (n : ℕ) → total board m kind < n
      → (let x = noisy_load_at board image m kind l losses z before n in
      (AsAsked kind x.session) × ((a : ℕ) → named m a ≡ true → Stands x.flash image a))
  noisy-as-asked whole free n b =
      subst (λ (x : Moment). (AsAsked kind x.session)
      × ((a : ℕ) → named m a ≡ true → Stands x.flash image a)) (sym (same n))
      (plain.as-asked board few image m before file bytes kind l size losses whole free n b)

  -- 3. if any exchange brings no answer, the session ends with 40, and never valid nor held
  module _ (i : ℕ)
      (goes-on : ended (noisy_load_at board image m kind l losses z before i).session.phase ≡ false)
      (no_answer : (let x = noisy_load_at board image m kind l losses z before i in
      heard_of (losses i) (board_makes board (losses i) (z i) x).answers ≡ [])) where
    unanswered : reply board (losses i) (load_at board image m kind l losses before i) ≡ []
    unanswered =
        sym (ap (reply board (losses i)) (same i))
        ∙ sym (alike_at board few image m before file bytes kind l size losses z only unopened i goes-on
        ).heard-is
        ∙ no_answer

    pub noisy-silent : (n : ℕ) → i < n
        → (noisy_load_at board image m kind l losses z before n).session.phase ≡ Phase.Ended Outcome.Silence
    noisy-silent n b =
        ap (λ (x : Moment). x.session.phase) (same n)
        ∙ plain.silent board few image m before file bytes kind l size losses i (open-too i goes-on)
        unanswered n b

    pub noisy-never-valid : (n : ℕ)
        → Valid (noisy_load_at board image m kind l losses z before n).session → ⊥
    noisy-never-valid n v =
        plain.never-valid board few image m before file bytes kind l size losses i (open-too i goes-on)
        unanswered n (sym (ap (λ (x : Moment). x.session.phase) (same n)) ∙ v)

    pub noisy-never-held : (n : ℕ) → Held (noisy_load_at board image m kind l losses z before n).session → ⊥
    noisy-never-held n v =
        plain.never-held board few image m before file bytes kind l size losses i (open-too i goes-on)
        unanswered n (sym (ap (λ (x : Moment). x.session.phase) (same n)) ∙ v)

-- a rehearsal, refused or not, is the plain one
module _ (board : ℕ) (few : board ≤ 255) (image m : List ℕ) (bytes : Bytes image) (kind : RunKind)
    (l : Loader) (losses : ℕ → Loss) (z : ℕ → List ℕ) (only : (i : ℕ) → rubbish (z i) ≡ true)
    (unopened : losses 0 ≡ Loss.Lost → NoOpening (z 0)) (f : List ℕ) where
  abbrev right : Bool
  right = both (eqb (length f) (start_of board)) (right_sizes board (length image) (length m) packet_most)

  abbrev none : Bool
  none = eqb (named_count board m) 0

  pub rehearsal-as-without : noisy_rehearse_of board image m kind l losses z f
      ≡ rehearse_of board image m kind l losses f
  unfolding noisy_rehearse_of rehearse_of rehearsing first
  rehearsal-as-without = go (not right) none refl refl
    where
      k : ℕ
      k = total board m kind + 1

      go : (a b : Bool) → not right ≡ a → none ≡ b
          → pick a (refused 20) (pick b (refused 32)
          (given (plainly (noisy_load_at board image m kind l losses z f k))))
          ≡ pick a (refused 20) (pick b (refused 32) (given (load_at board image m kind l losses f k)))
      go true b e n = refl
      go false true e n = refl
      go false false e n =
          let s = both_true (eqb (length f) (start_of board)) _ (not-false _ e) in
          let c = sizes-right board (length image) (length m) packet_most s.1 in
          let d = eqb-false (named_count board m) 0 n in
          ap given
          (as-without board few image m f (record { right = c.0; long = c.1; some = omega arith }) bytes
          kind l (eqb-true (length f) (start_of board) s.0) losses z only unopened k)
