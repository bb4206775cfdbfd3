-- What demand 3 says of `rehearse`: of the verdict and the flash that it leaves.
use Rattle.std.proofs.lemmas.Bool.{eqb-false, not-false}
use Rattle.std.specs.Prelude.{ℕ, ◌+◌, ◌≤◌, true, ◌≡◌, refl, eqb, length}
use Rattle.std.proofs.Common.{sym, subst, ◌∙◌, List, arith, eqb-true}
use Rattle.std.proofs.Math.Path.{ap}
use Rattle.std.proofs.Math.ListN.{get_or}
use Rattle.basis.specs.Laws.Choice.{both_true}
use Rattle.basis.specs.Laws.Refusals.{passed, done, apart, given-one}
use Rattle.basis.specs.Lists.{Bytes}
use Rattle.basis.specs.Refusals.{Answer, refused, given}
use Rattle.basis.specs.Units.{start_of}
use Rattle.basis.specs.declared.kind.RunKind.{RunKind}
use Rattle.events.specs.declared.ending.Outcome.{Outcome}
use Rattle.line.specs.Demand.{AllProved, Stands, Untouched, Valid, Held, Safe}
use Rattle.line.specs.Laws.Demand.{safe, finite}
use Rattle.line.specs.Line.{Moment, load_at, rehearsing, rehearse_of, loaded, left_flash, Rehearses}
use Rattle.line.specs.declared.exchange.Loss.{Loss}
use Rattle.line.specs.declared.rehearse.Load.{Load}
use Rattle.loader.specs.declared.state.Loader.{Loader}
use Rattle.order.specs.Laws.Sizes.{sizes-right}
use Rattle.order.specs.Plan.{total}
use Rattle.packet.specs.Packet.{packet_most}
use Rattle.runs.specs.Map.{named}
use Rattle.runs.specs.Pieces.{named_count}
use Rattle.session.specs.Phases.{ended}
use Rattle.session.specs.Session.{Session, Loadable}
use Rattle.session.specs.declared.phase.Phase.{Phase}

module _ (board : ℕ) (few : board ≤ 255) (image m : List ℕ) (kind : RunKind) (l : Loader) (losses : ℕ → Loss)
    (before : List ℕ) where
  abbrev whole : Answer Moment
  whole = rehearse_of board image m kind l losses before

  -- a rehearsal that is not refused has what demand 3 asks for
  record Given (x : Moment) : Type 0 where
    pub file : Loadable board image m
    pub flash-size : length before ≡ start_of board
    pub moment-is : x ≡ load_at board image m kind l losses before (total board m kind + 1)

  given_is : (x : Moment) → whole ≡ given x → Given x
  unfolding rehearse_of rehearsing
  given_is x e =
      let p = passed 20 _ _ _ e in
      let q = passed 32 _ _ _ p.1 in
      let b = both_true (eqb (length before) (start_of board)) _ (not-false _ p.0) in
      let c = sizes-right board (length image) (length m) packet_most b.1 in
      let n = eqb-false (named_count board m) 0 q.0 in
      record {
        file = record { right = c.0; long = c.1; some = omega arith };
        flash-size = eqb-true (length before) (start_of board) b.0;
        moment-is = given-one (sym q.1 ∙ done _);
      }

  module _ (bytes : Bytes image) (x : Moment) (g : Given x) where
    given-safe : Safe board image m before kind x
    given-safe =
        subst (Safe board image m before kind) (sym g.moment-is)
        (safe board few image m before g.file bytes kind l g.flash-size losses (total board m kind + 1))

    given-ended : ended x.session.phase ≡ true
    given-ended =
        ap (λ (y : Moment). ended y.session.phase) g.moment-is
        ∙ finite board few image m before g.file bytes kind l g.flash-size losses

  module _ (bytes : Bytes image) (r : Answer Load) (flash : List ℕ) (h : Rehearses whole before r flash) where
    -- whatever the verdict, flash differs from before only in touched pages
    pub untouched-stays : Untouched m before flash
    untouched-stays a t = go whole refl h.flash-is
      where
        go : (w : Answer Moment) → whole ≡ w → flash ≡ left_flash before w → Stands flash before a
        go (refused n) e f = ap (λ (s : List ℕ). get_or s a 0) f
        go (given x) e f =
            ap (λ (s : List ℕ). get_or s a 0) f ∙ (given-safe bytes x (given_is x e)).untouched-stays a t

    module _ (y : Load) (v : r ≡ given y) where
      -- the last moment, and what the rehearsal shows of it
      abbrev Last : Type 0
      Last = (x : Moment) × (Given x) × (flash ≡ x.flash) × (y.session ≡ x.session)

      last-moment : Last
      last-moment = go whole refl (sym v ∙ h.result-is) h.flash-is
        where
          go : (w : Answer Moment) → whole ≡ w → given y ≡ loaded w → flash ≡ left_flash before w → Last
          go (refused n) e s f = absurd (apart (sym s))
          go (given x) e s f = (x, given_is x e, f, ap (λ (z : Load). z.session) (given-one s))

      -- it has ended
      pub rehearsal-ends : ended y.session.phase ≡ true
      rehearsal-ends =
          let o = last-moment in
          ap (λ (s : Session). ended s.phase) o.3 ∙ given-ended bytes o.0 o.1

      -- and where it says valid or held, every named byte of flash is as in the file
      AllStand : Type 0
      AllStand = (a : ℕ) → named m a ≡ true → Stands flash image a

      proved-stand : (let o = last-moment in AllProved board m o.0.session) → AllStand
      unfolding AllStand
      proved-stand p a n =
          let o = last-moment in
          ap (λ (f : List ℕ). get_or f a 0) o.2
          ∙ (given-safe bytes o.0 o.1).proved-stands a (p a n)

      here : (u : Outcome) → y.session.phase ≡ Phase.Ended u
          → let o = last-moment in o.0.session.phase ≡ Phase.Ended u
      here u t = let o = last-moment in sym (ap (λ (x : Session). x.phase) o.3) ∙ t

      pub valid-stands : Valid y.session → (a : ℕ) → named m a ≡ true → Stands flash image a
      unfolding AllStand
      valid-stands t =
          let o = last-moment in
          proved-stand ((given-safe bytes o.0 o.1).valid-proved (here Outcome.Valid t))

      pub held-stands : Held y.session → (a : ℕ) → named m a ≡ true → Stands flash image a
      unfolding AllStand
      held-stands t =
          let o = last-moment in
          proved-stand ((given-safe bytes o.0 o.1).held-proved (here Outcome.Held t))
