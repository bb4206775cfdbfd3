-- A plan of which some packets are printed.
use Rattle.std.proofs.Common.{◌≡◌, ℕ, ◌+◌, ◌-◌, ◌^◌, ◌<◌, ◌≤◌, List, [], ◌∷◌, ◌++◌, length, take, drop, get_or, Option, true, sym, ap, ◌∙◌, add-one, arith, take-suc, take_all, take_at, length-take, length-take-le}
use Rattle.std.proofs.KnownBytes.{Appends-nil, Appends-trans}
use Rattle.std.specs.Io.KnownBytes.{Appends}
use Rattle.basis.specs.Lists.{overlay}
use Rattle.basis.specs.Units.{map_bytes}
use Rattle.basis.specs.declared.kind.RunKind.{RunKind}
use Rattle.order.specs.Laws.Plan.{plan-length, plan-at}
use Rattle.order.specs.Laws.Totals.{total-most}
use Rattle.order.specs.Laws.Walk.{steps-first, steps-end, steps-length, step-starts}
use Rattle.order.specs.Plan.{plan, total}
use Rattle.order.specs.Steps.{packet_of, at_start}
use Rattle.order.specs.Walk.{steps_from, steps_of}
use Rattle.order.specs.declared.step.Step.{Step}
use Rattle.listing.specs.Laws.Plan.{lines-append}
use Rattle.listing.specs.Lines.{step_line}
use Rattle.listing.specs.Plan.{step_lines}

module _ (board : ℕ) (image m : List ℕ) where
  abbrev packets : List (List ℕ)
  packets = plan board image m RunKind.Reset

  abbrev last : ℕ
  last = total board m RunKind.Reset

  -- k packets are printed behind what the writer held, and these steps are left
  pub record Printed (left : List Step) (k : ℕ) (old new : Option (List ℕ)) : Type 0 where
    pub steps : left ≡ steps_from board m k (last - k)
    pub within : k ≤ last
    pub lines : Appends old new (step_lines 0 (take k packets))

  module _ (left : List Step) (old : Option (List ℕ)) where
    pub printed-none : (k : ℕ) → k ≡ 0 → left ≡ steps_of board m RunKind.Reset → Printed left k old old
    unfolding step_lines
    printed-none k n e =
        let z : last ≡ last - 0 = omega arith in
        rw n (record {
          steps = e ∙ ap (steps_from board m 0) z;
          within = omega arith;
          lines = Appends-nil old;
        })

    pub printed-all : (k : ℕ) (new : Option (List ℕ)) → [] ≡ left → Printed left k old new
        → Appends old new (step_lines 0 packets)
    printed-all k new e p =
        let h : last ≤ k = steps-end board m k last (e ∙ p.steps) in
        let t : length packets ≤ k = omega (arith, plan-length board image m RunKind.Reset) in
        rw (take_all k packets t) at p.lines

  -- one step more
  module _ (left rest : List Step) (s : Step) (k : ℕ) (old new : Option (List ℕ)) (e : left ≡ s ∷ rest)
      (p : Printed left k old new) where
    pub printed-below : k < last
    printed-below = (steps-first board m k last s rest (sym e ∙ p.steps)).0

    pub printed-start : length m ≡ map_bytes board → at_start board m s ≡ true
    printed-start long =
        ap (at_start board m) (steps-first board m k last s rest (sym e ∙ p.steps)).1
        ∙ step-starts board m long RunKind.Reset k printed-below

    pub printed-more : (next : Option (List ℕ))
        → Appends new next (step_line (k + 1) (packet_of board image m RunKind.Reset s))
        → Printed rest (k + 1) old next
    printed-more next a =
        let h = steps-first board m k last s rest (sym e ∙ p.steps) in
        let l : k < length packets = omega (arith, plan-length board image m RunKind.Reset, printed-below) in
        let n : length (take k packets) ≡ k = length-take-le k packets (omega arith) in
        let x : packet_of board image m RunKind.Reset s ≡ get_or packets k [] =
        ap (packet_of board image m RunKind.Reset) h.1
        ∙ sym (plan-at board image m RunKind.Reset k [] printed-below) in
        let q : 0 + length (take k packets) + 1 ≡ k + 1 = omega arith in
        let y : step_lines 0 (take k packets) ++ step_line (k + 1) (packet_of board image m RunKind.Reset s)
        ≡ step_lines 0 (take (k + 1) packets) =
        ap (λ (z : List ℕ). step_lines 0 (take k packets) ++ step_line (k + 1) z) x
        ∙ ap (λ (j : ℕ). step_lines 0 (take k packets) ++ step_line j (get_or packets k [])) (sym q)
        ∙ sym (lines-append 0 (take k packets) (get_or packets k []))
        ∙ ap (step_lines 0) (sym (rw add-one (take-suc packets k [] l))) in
        record {
          steps = h.2;
          within = omega (arith, printed-below);
          lines = rw y at (Appends-trans old new next _ _ p.lines a);
        }

  -- the counter fits
  pub printed-few : board ≤ 248 → (left : List Step) (k : ℕ) (old new : Option (List ℕ))
      → Printed left k old new → k + length left < 2 ^ 64
  printed-few few left k old new p =
      omega (
        arith,
        ap length p.steps,
        steps-length board m k (last - k),
        p.within,
        total-most board m RunKind.Reset,
      )

-- what a lent buffer holds of a packet
module _ (p old x : List ℕ) (n : ℕ) (e : x ≡ overlay p old) (l : n ≡ length p) where
  pub packet-taken : take n x ≡ p
  packet-taken = rw e (take_at p (drop (length p) old) n (sym l))

  pub packet-fits : length x ≡ length old → length (take n x) ≤ length old
  packet-fits h =
      omega (
        arith,
        length-take n x,
        h,
      )
