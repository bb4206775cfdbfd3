-- A sheet of which some lines are written: what is left to write, from here, gives what was to be given.
use Rattle.std.proofs.Common.{◌≡◌, ℕ, ◌+◌, ◌-◌, ◌*◌, ◌<◌, ◌≤◌, true, List, [], ◌∷◌, ◌++◌, length, take, drop, sym, refl, ap, ◌∙◌, arith, length-append}
use Rattle.basis.specs.Laws.Lists.{copy-overlay}
use Rattle.basis.specs.Lists.{overlay, stored, copy_of}
use Rattle.basis.specs.Units.{map_bytes}
use Rattle.basis.specs.declared.kind.RunKind.{RunKind}
use Rattle.order.specs.Laws.Walk.{steps-first, steps-end, step-starts, packets-next, packets-end}
use Rattle.order.specs.Plan.{plan, total}
use Rattle.order.specs.Steps.{packet_of, at_start}
use Rattle.order.specs.Walk.{steps_from}
use Rattle.order.specs.declared.step.Step.{Step}
use Rattle.packet.specs.Packet.{packet_most}
use Rattle.listing.specs.Laws.Plan.{sheet-end, sheet-full, sheet-line}
use Rattle.listing.specs.Lines.{step_line}
use Rattle.listing.specs.Plan.{longest_line, Sheet, sheet, sheet_of}
use Rattle.listing.proofs.Buffers.{copy-then}
use Rattle.listing.proofs.Printed.{packet-taken, packet-fits}

module _ (board : ℕ) (image m : List ℕ) where
  abbrev packets : List (List ℕ)
  packets = plan board image m RunKind.Reset

  abbrev last : ℕ
  last = total board m RunKind.Reset

  -- what is left to write after k packets
  abbrev pub rest_of : ℕ → ℕ → Sheet
  rest_of room k = sheet_of room k (drop k packets)

  -- of sheet g, to be written into old, the buffer holds what comes before `at`; k packets are
  -- listed, and these steps are left
  pub record Written (g : Sheet) (old : List ℕ) (left : List Step) (k : ℕ) (buffer : List ℕ)
      (at : ℕ) : Type 0 where
    pub steps : left ≡ steps_from board m k (last - k)
    pub within : k ≤ last
    pub same : length buffer ≡ length old
    pub inside : at ≤ length buffer
    pub text : copy_of buffer at (rest_of (length buffer - at) k).text ≡ copy_of old 0 g.text
    pub long : at + length (rest_of (length buffer - at) k).text ≡ length g.text
    pub count : (rest_of (length buffer - at) k).listed ≡ g.listed

  pub written-none : (old : List ℕ) (left : List Step) (k n : ℕ) → n ≡ last
      → left ≡ steps_from board m k (n - k) → k ≤ n → Written (rest_of (length old) k) old left k old 0
  written-none old left k n e s l =
      let z : length old - 0 ≡ length old = omega arith in
      record {
        steps = s ∙ ap (λ (j : ℕ). steps_from board m k (j - k)) e;
        within = omega (arith, e, l);
        same = refl;
        inside = omega arith;
        text = rw z;
        long = rw z (omega arith);
        count = rw z;
      }

  module _ (g : Sheet) (old : List ℕ) (left : List Step) (k : ℕ) (buffer : List ℕ) (at : ℕ)
      (w : Written g old left k buffer at) where
    ended : rest_of (length buffer - at) k ≡ sheet [] k
        → (k ≡ g.listed) × (at ≡ length g.text) × (buffer ≡ overlay g.text old)
    unfolding stored
    ended e =
        let n : k ≡ g.listed = sym (ap (λ (x : Sheet). x.listed) e) ∙ w.count in
        let l : at ≡ length g.text = omega
        (arith, sym (ap (λ (x : Sheet). at + length x.text) e) ∙ w.long) in
        let t : buffer ≡ copy_of old 0 g.text = sym (ap (λ (x : Sheet). copy_of buffer at x.text) e)
        ∙ w.text in
        (n, l, t ∙ copy-overlay [] old g.text 0 refl (omega (arith, l, w.inside, w.same)))

    -- no room for one more, or none is left
    pub written-full : length buffer - at < longest_line
        → (k ≡ g.listed) × (at ≡ length g.text) × (buffer ≡ overlay g.text old)
    written-full s = ended (sheet-full (length buffer - at) k (drop k packets) s)

    pub written-end : [] ≡ left → (k ≡ g.listed) × (at ≡ length g.text) × (buffer ≡ overlay g.text old)
    written-end e =
        let h : last ≤ k = steps-end board m k last (e ∙ w.steps) in
        ended (ap (sheet_of (length buffer - at) k) (packets-end board image m RunKind.Reset k h)
        ∙ sheet-end (length buffer - at) k)

    -- one line more
    module _ (rest : List Step) (s : Step) (e : left ≡ s ∷ rest) where
      pub written-below : k < last
      written-below = (steps-first board m k last s rest (sym e ∙ w.steps)).0

      pub written-start : length m ≡ map_bytes board → at_start board m s ≡ true
      written-start long =
          ap (at_start board m) (steps-first board m k last s rest (sym e ∙ w.steps)).1
          ∙ step-starts board m long RunKind.Reset k written-below

      pub written-more : longest_line ≤ length buffer - at → (next : List ℕ) (end : ℕ)
          → length next ≡ length buffer
          → end ≡ at + length (step_line (k + 1) (packet_of board image m RunKind.Reset s))
          → next ≡ copy_of buffer at (step_line (k + 1) (packet_of board image m RunKind.Reset s))
          → length (step_line (k + 1) (packet_of board image m RunKind.Reset s)) ≤ longest_line
          → Written g old rest (k + 1) next end
      written-more room next end same ee en short =
          let h = steps-first board m k last s rest (sym e ∙ w.steps) in
          let p : List ℕ = packet_of board image m RunKind.Reset s in
          let line : List ℕ = step_line (k + 1) p in
          let after : Sheet = rest_of (length buffer - at - length line) (k + 1) in
          let d : drop k packets ≡ p ∷ drop (k + 1) packets =
          packets-next board image m RunKind.Reset k h.0
          ∙ ap (λ (x : Step). packet_of board image m RunKind.Reset x ∷ drop (k + 1) packets) (sym h.1) in
          let q : rest_of (length buffer - at) k ≡ sheet (line ++ after.text) after.listed =
          ap (sheet_of (length buffer - at) k) d
          ∙ sheet-line (length buffer - at) k p (drop (k + 1) packets) room in
          let r : length next - end ≡ length buffer - at - length line = omega (arith, ee, same) in
          record {
            steps = h.2;
            within = omega (arith, h.0);
            same = same ∙ w.same;
            inside = omega (arith, ee, same, short, room, w.inside);
            text = rw r
                (copy-then buffer at line after.text next end ee en
                ∙ ap (λ (z : Sheet). copy_of buffer at z.text) (sym q) ∙ w.text);
            long = rw r
                (omega (
                  arith,
                  ee,
                  length-append line after.text,
                  sym (ap (λ (z : Sheet). at + length z.text) q) ∙ w.long,
                ));
            count = rw r (sym (ap (λ (z : Sheet). z.listed) q) ∙ w.count);
          }

      -- with the packet as a lent buffer has it
      pub written-put : longest_line ≤ length buffer - at → (packet sent : List ℕ) (n step : ℕ)
          → length packet ≡ packet_most → length sent ≡ length packet
          → n ≡ length (packet_of board image m RunKind.Reset s)
          → sent ≡ overlay (packet_of board image m RunKind.Reset s) packet
          → step ≡ k + 1 → (next : List ℕ) (end : ℕ) → length next ≡ length buffer
          → end ≡ at + length (step_line step (take n sent))
          → next ≡ copy_of buffer at (step_line step (take n sent))
          → length (step_line step (take n sent)) ≤ 2 * length (take n sent) + 24
          → Written g old rest (k + 1) next end
      written-put room packet sent n step full keeps en es ek next end same f t l =
          let p : List ℕ = packet_of board image m RunKind.Reset s in
          let x : step_line step (take n sent) ≡ step_line (k + 1) p =
          ap (λ (j : ℕ). step_line j (take n sent)) ek
          ∙ ap (step_line (k + 1)) (packet-taken p packet sent n es en) in
          let few : length (take n sent) ≤ length packet = packet-fits p packet sent n es en keeps in
          written-more room next end same
          (f ∙ ap (λ (y : List ℕ). at + length y) x)
          (t ∙ ap (copy_of buffer at) x)
          (omega (arith, l, few, full, ap length x))
