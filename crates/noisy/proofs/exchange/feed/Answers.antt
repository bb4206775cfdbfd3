-- `feed` meets its contract: what is left, from here, gives what was to be given.
use Rattle.std.proofs.lemmas.Bool.{eqb-false}
use Rattle.std.proofs.Common.{◌≤◌, ◌<◌, ◌≡◌, true, false, eqb, eqb-true, sym, ◌∙◌, refl, arith, length, take, length-take, length-drop}
use Rattle.basis.specs.Board.{pages_of, answer_most}
use Rattle.noisy.proofs.Joining.{remains-less, remains-none, serves-rest, rest-taken, room-full, answered-bytes}
use Rattle.port.specs.Port.{turn_of, Serves}
use Rattle.noisy.proofs.exchange.feed.Goals as goal
use Rattle.noisy.proofs.exchange.feed.Goals.{After-serve-served}

-- what the call shows of the bytes that are left, and how many of them it takes
served : (c : After-serve-served) → let l = c.loop-rest in
    Serves (turn_of (pages_of c.args.board) answer_most l.fed.port l.flash l.rest.now)
    l.answer c.serve-served.result c.serve-served.new.flash c.serve-served.new.answer
served c =
    let l = c.loop-rest in
    serves-rest (pages_of c.args.board) l.fed.port l.rest.now l.flash l.answer l.invariant.0 l.invariant.1
    c.serve-served.ensures

taken : (c : After-serve-served) → let n = c.serve-served.result.taken in
    (0 < n) × (n ≤ length c.loop-rest.rest.now)
taken c =
    let l = c.loop-rest in
    let e : eqb (length l.rest.now) 0 ≡ false = sym c.is_empty.ensures ∙ c.loop-rest-test.true in
    let n = eqb-false (length l.rest.now) 0 e in
    rest-taken (pages_of c.args.board) l.fed.port l.rest.now l.flash _ (served c).taken_is (omega arith)

pub slice_bounds-rest-start : goal.slice_bounds-rest-start
slice_bounds-rest-start c = (taken (goal.at.slice_bounds-rest-start c).After-serve-served).1

pub slice_bounds-rest-count : goal.slice_bounds-rest-count
slice_bounds-rest-count c = omega (arith, (taken (goal.at.slice_bounds-rest-count c).After-serve-served).1)

pub loop-rest-smaller : goal.loop-rest-smaller
loop-rest-smaller c =
    let n = c.loop-rest.rest.now in
    let t = taken (goal.at.loop-rest-smaller c).After-serve-served in
    simp (length-take, length-drop) (omega (arith, t.0, t.1))

pub loop-rest-preserved : goal.loop-rest-preserved
loop-rest-preserved c =
    let j = c.join in
    let l = c.loop-rest in
    let n = l.invariant in
    let h = served (goal.at.loop-rest-preserved c).After-serve-served in (
      c.serve-served.auto.flash ∙ n.0,
      c.serve-served.auto.answer ∙ n.1,
      j.auto.joined ∙ n.2,
      omega (arith, j.ensures.fits, n.2),
      remains-less n.4 _ _ _ _ _ h.port-is h.flash-is
          (room-full (take l.fed.heard l.joined) _ (answered-bytes h) n.2 j.ensures.bytes)
          h.taken_is refl,
    )

pub returns : goal.returns
returns c =
    let l = c.loop-rest in
    let n = length-take l.fed.heard l.joined in
    let t : eqb (length l.rest.now) 0 ≡ true = sym c.is_empty.ensures ∙ c.loop-rest-test.false in
    let e = remains-none l.rest.now l.invariant.4 (eqb-true (length l.rest.now) 0 t)
    (omega (arith, n, l.invariant.3)) in
    record {
      port-is = e.0;
      flash-is = e.1;
      heard-fits = omega (arith, l.invariant.2, l.invariant.3);
      joined_is = e.2;
    }
