-- Each test of `came` decides what the definition decides.
use Rattle.std.proofs.Common.{ℕ, ◌+◌, ◌*◌, ◌≤◌, ◌<◌, Bool, true, false, List, ◌≡◌, refl, sym, ap, ◌∙◌, arith, eq-eqb, ne_eqb, lt-ltb, le-ltb, eqb, ltb, length}
use Rattle.basis.specs.Board.{pages_most}
use Rattle.basis.specs.Choice.{both}
use Rattle.basis.specs.Laws.Boards.{pages-few, pages-some}
use Rattle.basis.specs.Units.{start_of, map_bytes}
use Rattle.basis.specs.declared.kind.RunKind.{RunKind}
use Rattle.course.specs.Course as course
use Rattle.events.specs.Endings.{ends_at, asked}
use Rattle.order.specs.Laws.Surveys.{Told, told, told-stands, past-stands}
use Rattle.order.specs.Plan.{r_count, total}
use Rattle.order.specs.Steps.{stands_by}
use Rattle.order.specs.declared.step.Step.{Step}
use Rattle.events.specs.declared.ending.Outcome.{Outcome}
use Rattle.runs.specs.Pieces.{named_count}
use Rattle.runs.specs.Survey.{survey_of}
use Rattle.runs.specs.declared.survey.Surveyed.{Surveyed}
use Rattle.session.specs.Phases.{cursor_of}
use Rattle.session.specs.Session.{Session, came_at, came_of}
use Rattle.session.specs.declared.phase.Phase.{Phase}

-- a cursor past the board stands nowhere
module _ (board : ℕ) (some : 0 < board) (m : List ℕ) (long : length m ≡ map_bytes board) where
  past-came : (kind : RunKind) (ph : Phase) (k : ℕ) → start_of board ≤ cursor_of board ph
      → came_at board m kind ph k ≡ false
  past-came kind Phase.Greeting k l = absurd (omega arith)
  past-came kind (Phase.Out s) k l = past-stands board m kind some long s k l
  past-came kind (Phase.Ended o) k l = absurd (omega arith)

  pub fits-past : (s : Session) → start_of board ≤ cursor_of board s.phase → false ≡ came_of board m s
  unfolding course.came_of
  fits-past s l =
      sym (last (ltb 0 (named_count board m)) (eqb s.named (named_count board m))
      (eqb s.total (total board m s.kind)) (past-came s.kind s.phase s.acknowledged l))
    where
      last : (a b c : Bool) {d : Bool} → d ≡ false → both a (both b (both c d)) ≡ false
      last true true true e = e
      last true true false e = refl
      last true false c e = refl
      last false b c e = refl

-- what the survey says of a phase of a session over a file of n packets
abbrev pub came_by : Surveyed → RunKind → ℕ → Phase → ℕ → Bool
came_by f kind n Phase.Greeting k = eqb k 0
came_by f kind n (Phase.Out s) k = stands_by f kind s k
came_by f kind n (Phase.Ended o) k = ends_at (asked kind) n o k

module _ (board : ℕ) (few : board ≤ pages_most) (m : List ℕ) {f : Surveyed} (kind : RunKind) {n : ℕ}
    (same : n ≡ total board m kind) (k : ℕ) where
  -- is what the file says of it
  told-came : (ph : Phase) → f ≡ survey_of board m (cursor_of board ph) → cursor_of board ph < start_of board
      → came_by f kind n ph k ≡ came_at board m kind ph k
  told-came Phase.Greeting e l = refl
  told-came (Phase.Out s) e l = told-stands board m kind few s k e l
  told-came (Phase.Ended o) e l = ap (λ (x : ℕ). ends_at (asked kind) x o k) same

-- the tests of the counts, in their order
module _ (board : ℕ) (few : board ≤ pages_most) (m : List ℕ) (s : Session) {f : Surveyed}
    (e : f ≡ survey_of board m (cursor_of board s.phase)) where
  t : Told board m (cursor_of board s.phase) f
  t = told board few m (cursor_of board s.phase) e

  pub fits-empty : f.all.named ≡ 0 → false ≡ came_of board m s
  unfolding course.came_of
  fits-empty h = let l : named_count board m ≤ 0 = omega (arith, t.bytes) in rw (le-ltb _ _ l)

  module _ (some : f.all.named ≡ 0 → ⊥) where
    l : 0 < named_count board m
    l = omega (arith, t.bytes)

    pub fits-named : (s.named ≡ f.all.named → ⊥) → false ≡ came_of board m s
    unfolding course.came_of
    fits-named h = rw (lt-ltb _ _ l, ne_eqb s.named (named_count board m) (λ q. h (q ∙ sym t.bytes)))

    module _ (same : s.named ≡ f.all.named) where
      pub fits-total : (n : ℕ) → n ≡ f.all.runs + 2 * f.all.pieces + r_count s.kind → (s.total ≡ n → ⊥)
          → false ≡ came_of board m s
      unfolding course.came_of
      fits-total n g h =
          rw (
            lt-ltb _ _ l,
            eq-eqb s.named (named_count board m) (same ∙ t.bytes),
            ne_eqb s.total (total board m s.kind) (λ q. h (omega (arith, t.runs, t.pieces))),
          )

      -- all counts are the file's, so the phase decides
      pub fits-place : (n : ℕ) → n ≡ f.all.runs + 2 * f.all.pieces + r_count s.kind → s.total ≡ n
          → cursor_of board s.phase < start_of board
          → (ph : Phase) → s.phase ≡ ph
          → came_by f s.kind s.total ph s.acknowledged ≡ came_of board m s
      unfolding course.came_of
      fits-place n g h b ph q =
          let all : s.total ≡ total board m s.kind = omega (arith, t.runs, t.pieces) in
          rw (
            lt-ltb _ _ l,
            eq-eqb s.named (named_count board m) (same ∙ t.bytes),
            eq-eqb s.total (total board m s.kind) all,
          )
          (ap (λ (x : Phase). came_by f s.kind s.total x s.acknowledged) (sym q)
          ∙ told-came board few m s.kind all s.acknowledged s.phase e b)

      module _ (n : ℕ) (g : n ≡ f.all.runs + 2 * f.all.pieces + r_count s.kind) (h : s.total ≡ n)
          (b : cursor_of board s.phase < start_of board) where
        pub fits-greeting : s.phase ≡ Phase.Greeting → eqb s.acknowledged 0 ≡ came_of board m s
        fits-greeting q = fits-place n g h b Phase.Greeting q

        pub fits-out : (x : Step) → s.phase ≡ Phase.Out x
            → stands_by f s.kind x s.acknowledged ≡ came_of board m s
        fits-out x q = fits-place n g h b (Phase.Out x) q

        pub fits-ended : (o : Outcome) → s.phase ≡ Phase.Ended o
            → ends_at (asked s.kind) s.total o s.acknowledged ≡ came_of board m s
        fits-ended o q = fits-place n g h b (Phase.Ended o) q

pub ruleset comes = (
  fits-past,
  fits-empty,
  fits-named,
  fits-total,
  fits-greeting,
  fits-out,
  fits-ended,
  pages-few,
  pages-some,
)
