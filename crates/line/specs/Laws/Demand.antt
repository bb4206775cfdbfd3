-- Demand 3: a freshly reset loader driven by one session over one unchanged file, the opening byte and each
-- packet arriving whole or lost, each answer arriving as sent or lost, nothing else writing.
--
-- There are two kinds of moment and no other: an exchange is the loader's step, which alone changes loader
-- and flash, and then the session's, which alone changes session and wire; so what stands is either what n
-- exchanges leave (`load_at`), or what the loader's step of one more leaves before the session's (`between`).
use Rattle.std.specs.Prelude.{ℕ, ◌+◌, ◌≤◌, ◌<◌, true, false, List, [], ◌≡◌, refl, length}
use Rattle.std.proofs.Common.{arith}
use Rattle.basis.specs.Laws.Choice.{decide}
use Rattle.basis.specs.Lists.{Bytes}
use Rattle.basis.specs.Units.{start_of}
use Rattle.basis.specs.declared.kind.RunKind.{RunKind}
use Rattle.events.specs.Endings.{asked}
use Rattle.events.specs.declared.ending.Outcome.{Outcome}
use Rattle.line.specs.Demand.{AllProved, Stands, Valid, Held, AsAsked, Safe, Free}
use Rattle.line.specs.Laws.Moments as moments
use Rattle.line.specs.Laws.Stages.{stage}
use Rattle.line.specs.Line.{between, reply, load_at}
use Rattle.line.specs.declared.exchange.Loss.{Loss}
use Rattle.loader.specs.declared.state.Loader.{Loader}
use Rattle.order.specs.Plan.{total}
use Rattle.runs.specs.Map.{named}
use Rattle.session.specs.Phases.{ended}
use Rattle.session.specs.Session.{Loadable}
use Rattle.session.specs.declared.phase.Phase.{Phase}

-- one file with at least one named byte, one run kind; the loader with any protection and any key, any flash;
-- any losses
module _ (board : ℕ) (few : board ≤ 255) (image m before : List ℕ) (file : Loadable board image m)
    (bytes : Bytes image) (kind : RunKind) (l : Loader)
    (size : length before ≡ start_of board) (losses : ℕ → Loss) where
  -- 1. At every moment each byte marked proved stands in flash as in the file, pages the file does not touch
  --    are as before, and no run packet is out and no session has ended valid or held unless every file byte
  --    is proved. To hold no run packet is out at any moment and the session never valid; no other is held.
  pub safe : (n : ℕ) → Safe board image m before kind (load_at board image m kind l losses before n)
  safe n =
      moments.stage-safe board few image m before file kind l size n
      (load_at board image m kind l losses before n)
      (stage board few image m before file bytes kind l size losses n)

  pub safe-amid : (n : ℕ) → ended (load_at board image m kind l losses before n).session.phase ≡ false
      → Safe board image m before kind
      (between board (losses n) (load_at board image m kind l losses before n))
  safe-amid n =
      moments.amid-safe board few image m before file kind l size (losses n) n
      (load_at board image m kind l losses before n)
      (stage board few image m before file bytes kind l size losses n)

  -- 2. With nothing lost, no touched page in a protected group and no read protection, the session ends as
  --    asked, and flash has every file byte.
  pub as-asked : ((n : ℕ) → losses n ≡ Loss.Whole) → Free m l → (n : ℕ) → total board m kind < n
      → (AsAsked kind (load_at board image m kind l losses before n).session)
      × ((a : ℕ) → named m a ≡ true → Stands (load_at board image m kind l losses before n).flash image a)
  as-asked whole free n b =
      let v = moments.ends_asked board few image m before file bytes kind l size losses whole free n b in
      (v, λ a t. (safe n).proved-stands a (asked-proved n v a t))
    where
      asked-proved : (n : ℕ) → AsAsked kind (load_at board image m kind l losses before n).session
          → AllProved board m (load_at board image m kind l losses before n).session
      asked-proved n v = go kind v
        where
          go : (k : RunKind)
              → (load_at board image m kind l losses before n).session.phase ≡ Phase.Ended (asked k)
              → AllProved board m (load_at board image m kind l losses before n).session
          go RunKind.Reset v = (safe n).valid-proved v
          go RunKind.Jump v = (safe n).valid-proved v
          go RunKind.Hold v = (safe n).held-proved v

  -- 3. If any exchange of the load brings no answer, the session ends with 40, and never valid nor held.
  module _ (i : ℕ) (goes-on : ended (load_at board image m kind l losses before i).session.phase ≡ false)
      (no_answer : reply board (losses i) (load_at board image m kind l losses before i) ≡ []) where
    pub silent : (n : ℕ) → i < n
        → (load_at board image m kind l losses before n).session.phase ≡ Phase.Ended Outcome.Silence
    silent =
        moments.silent board few image m before file bytes kind l size losses i goes-on no_answer

    pub never-valid : (n : ℕ) → Valid (load_at board image m kind l losses before n).session → ⊥
    never-valid =
        moments.never-good board few image m before file bytes kind l size losses i goes-on no_answer
        Outcome.Valid refl

    pub never-held : (n : ℕ) → Held (load_at board image m kind l losses before n).session → ⊥
    never-held =
        moments.never-good board few image m before file bytes kind l size losses i goes-on no_answer
        Outcome.Held refl

  -- A load ends by itself, after at most the total and one exchange more.
  pub finite : ended (load_at board image m kind l losses before (total board m kind + 1)).session.phase
      ≡ true
  finite =
      decide (ended (load_at board image m kind l losses before (total board m kind + 1)).session.phase)
      (λ t. t)
      (λ t. let b = moments.going board few image m before file bytes kind l size losses
      (total board m kind + 1) t in
      absurd (omega arith))
