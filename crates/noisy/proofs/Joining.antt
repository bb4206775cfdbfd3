-- Answers joined one behind the other, and the bytes that are still to go in.
use Rattle.std.proofs.lemmas.List.{take-append-le}
use Rattle.std.proofs.Common.{ℕ, ◌+◌, ◌-◌, ◌≤◌, ◌<◌, List, [], ◌∷◌, ◌++◌, append_assoc, append-nil, ◌≡◌, refl, sym, ap, ◌∙◌, arith, leb-true, leb-false, leb, length, take, drop, length-append, length-take, length-drop, take-append-drop, length-take-le, take_all, take_at, take-take}
use Rattle.std.proofs.Math.Seq.{take-append-add, take-append_seam}
use Rattle.basis.specs.Board.{answer_most}
use Rattle.basis.specs.Laws.Choice.{decide}
use Rattle.basis.specs.Laws.Lists.{copy-overlay}
use Rattle.basis.specs.Lists.{overlay, copy_of}
use Rattle.basis.specs.Units.{start_of}
use Rattle.line.specs.declared.exchange.Loss.{Loss}
use Rattle.noisy.specs.Noisy.{reaching, heard_most, Joins, hearing}
use Rattle.port.specs.Laws.All.{of_turn, and_then, all_none, all_append, turn-all, turn-takes}
use Rattle.port.specs.Laws.Port.{port-turn, serves-as}
use Rattle.port.specs.Port.{All, all_of, Turn, turn_of, port_of, turn_after, Serves}
use Rattle.port.specs.declared.port.Port.{Port}
use Rattle.port.specs.declared.port.Served.{Served}

-- ---- what has no room is dropped

module _ (buffer answer : List ℕ) (heard : ℕ) (fits : heard ≤ length buffer) where
  abbrev kept : List ℕ
  kept = take heard buffer

  abbrev more : List ℕ
  more = take (length buffer - heard) answer

  more-fits : heard + length more ≤ length buffer
  more-fits = omega (arith, length-take (length buffer - heard) answer)

  joins-more : take (heard + length more) (copy_of buffer heard more)
      ≡ take (length buffer) (kept ++ answer)
  joins-more =
      let l : length kept ≡ heard = length-take-le heard buffer fits in
      let e : overlay kept buffer ≡ buffer = rw l (take-append-drop heard buffer) in
      let n : length kept + (length buffer - heard) ≡ length buffer = omega arith in
      ap (λ (b : List ℕ). take (heard + length more) (copy_of b heard more)) (sym e)
      ∙ ap (take (heard + length more)) (copy-overlay kept buffer more heard l more-fits)
      ∙ take_at (kept ++ more) _ (heard + length more)
      (length-append kept more ∙ ap (λ (k : ℕ). k + length more) l)
      ∙ sym (ap (λ (k : ℕ). take k (kept ++ answer)) (sym n)
      ∙ take-append-add kept answer (length buffer - heard))

-- by what was taken of the answer, and what stands in the buffer then
pub joined-fits : (buffer answer more : List ℕ) (heard : ℕ) → heard ≤ length buffer
    → more ≡ take (length buffer - heard) answer → heard + length more ≤ length buffer
joined-fits buffer answer more heard fits e = rw e (more-fits buffer answer heard fits)

pub joined-more : (buffer answer more new : List ℕ) (heard : ℕ) → heard ≤ length buffer
    → more ≡ take (length buffer - heard) answer → new ≡ copy_of buffer heard more
    → take (heard + length more) new ≡ take (length buffer) (take heard buffer ++ answer)
joined-more buffer answer more new heard fits e n = rw (n, e) (joins-more buffer answer heard fits)

-- as many of some bytes as of those behind which more come
take-joined : (n : ℕ) (s t : List ℕ) → take n (take n s ++ t) ≡ take n (s ++ t)
take-joined n s t =
    decide (leb (length s) n)
    (λ d. rw (take_all n s (leb-true (length s) n d)))
    (λ d. let h : n ≤ length s = omega (arith, leb-false (length s) n d) in
    let l : n ≤ length (take n s) = omega (arith, length-take-le n s h) in
    take-append-le n (take n s) t l ∙ take-take n n s (omega arith) ∙ sym (take-append-le n s t h))

-- ---- the rest of the bytes is still to go in: it leaves port, flash and answers as all do

pub record Remains (board : ℕ) (a : All) (joined₀ : List ℕ) (p : Port) (f rest joined : List ℕ) : Type 0 where
  pub port-is : (all_of board answer_most p f rest).port ≡ a.port
  pub flash-is : (all_of board answer_most p f rest).flash ≡ a.flash
  pub joined_is : take heard_most (joined ++ (all_of board answer_most p f rest).answers)
      ≡ take heard_most (joined₀ ++ a.answers)

module _ {board : ℕ} {a : All} {joined₀ : List ℕ} {p : Port} {f rest joined : List ℕ}
    (r : Remains board a joined₀ p f rest joined) where
  abbrev turn : Turn
  turn = turn_of board answer_most p f rest

  abbrev left : List ℕ
  left = drop turn.taken rest

  cut : all_of board answer_most p f rest ≡ and_then board answer_most (of_turn turn) left
  cut =
      let k = turn.taken in
      ap (all_of board answer_most p f) (sym (take-append-drop k rest))
      ∙ all_append board answer_most p f (take k rest) (drop k rest)
      ∙ ap (λ (x : All). and_then board answer_most x (drop k rest)) (turn-all board answer_most p f rest)

  pub remains-less : (next : Port) (flash new less : List ℕ) (k : ℕ) → next ≡ turn.port → flash ≡ turn.flash
      → new ≡ take heard_most (joined ++ turn.answer) → k ≡ turn.taken
      → less ≡ take (length rest - k) (drop k rest)
      → Remains board a joined₀ next flash less new
  remains-less next flash new less k ep ef ej ek el =
      let e : less ≡ left
      = el ∙ take_all (length rest - k) (drop k rest) (omega (arith, length-drop k rest))
      ∙ ap (λ (n : ℕ). drop n rest) ek in
      rw (ep, ef, ej, e)
      (record {
        port-is = sym (ap (λ (x : All). x.port) cut) ∙ r.port-is;
        flash-is = sym (ap (λ (x : All). x.flash) cut) ∙ r.flash-is;
        joined_is = take-joined heard_most (joined ++ turn.answer)
            (all_of board answer_most turn.port turn.flash left).answers
            ∙ ap (take heard_most) (append_assoc joined turn.answer
            (all_of board answer_most turn.port turn.flash left).answers)
            ∙ sym (ap (λ (x : All). take heard_most (joined ++ x.answers)) cut) ∙ r.joined_is;
      })

-- nothing is left
pub remains-none : {board : ℕ} {a : All} {joined₀ : List ℕ} {p : Port} {f joined : List ℕ} (rest : List ℕ)
    → Remains board a joined₀ p f rest joined → length rest ≡ 0 → length joined ≤ heard_most
    → (p ≡ a.port) × (f ≡ a.flash) × (joined ≡ take heard_most (joined₀ ++ a.answers))
remains-none {board} {a} {joined₀} {p} {f} {joined} [] r n l =
    let e = all_none board answer_most p f in (
      sym (ap (λ (x : All). x.port) e) ∙ r.port-is,
      sym (ap (λ (x : All). x.flash) e) ∙ r.flash-is,
      sym (ap (λ (x : All). take heard_most (joined ++ x.answers)) e
          ∙ ap (take heard_most) (append-nil joined) ∙ take_all heard_most joined l) ∙ r.joined_is,
    )
remains-none (b ∷ s) r n l = absurd (omega arith)

-- by the answer that came, and the buffer's size
pub room-full : (h : List ℕ) {b t w : List ℕ} (n : ℕ) → b ≡ t → n ≡ heard_most → w ≡ take n (h ++ b)
    → w ≡ take heard_most (h ++ t)
room-full h {b} n e f q =
    q ∙ ap (λ (k : ℕ). take k (h ++ b)) f ∙ ap (λ (x : List ℕ). take heard_most (h ++ x)) e

-- ---- one call of the port, which has its sizes

pub serves-rest : (board : ℕ) (p : Port) (rest f old : List ℕ) {r : Served} {flash answer : List ℕ}
    → length f ≡ start_of board → length old ≡ answer_most
    → Serves (turn_after p f (port_of board p rest f (length old))) old r flash answer
    → Serves (turn_of board answer_most p f rest) old r flash answer
serves-rest board p rest f old size room h =
    serves-as
    (sym (ap (λ (n : ℕ). turn_after p f (port_of board p rest f n)) room
    ∙ ap (turn_after p f) (port-turn board p rest f answer_most size (omega arith))))
    h

-- while bytes are left at least one is taken, and no more than there are
pub rest-taken : (board : ℕ) (p : Port) (rest f : List ℕ) (k : ℕ)
    → k ≡ (turn_of board answer_most p f rest).taken → 0 < length rest → (0 < k) × (k ≤ length rest)
rest-taken board p rest f k e h =
    let t = turn-takes board answer_most p f rest h in
    (omega (arith, t.0), omega (arith, t.1))

module _ {t : Turn} {old : List ℕ} {r : Served} {flash answer : List ℕ}
    (h : Serves t old r flash answer) where
  pub answered-bytes : take r.answered answer ≡ t.answer
  answered-bytes = rw (h.answered-is, h.answer-is) (take-append_seam t.answer _)

-- ---- the board's part, by what befalls the exchange

module _ (board : ℕ) (p : Port) (f z w : List ℕ) where
  abbrev all : List ℕ → All
  all = all_of board answer_most p f

  -- the rubbish, and then the packet
  pub joins-both : {p₁ p₂ : Port} {h₁ h₂ : ℕ} {f₁ f₂ j₁ j₂ : List ℕ} → Joins (all z) [] p₁ h₁ f₁ j₁
      → Joins (all_of board answer_most p₁ f₁ w) (take h₁ j₁) p₂ h₂ f₂ j₂
      → Joins (all (z ++ w)) [] p₂ h₂ f₂ j₂
  joins-both {p₁} {p₂} {h₁} {h₂} {f₁} {f₂} {j₁} {j₂} a b =
      let e = all_append board answer_most p f z w in
      let s : all_of board answer_most p₁ f₁ w ≡ all_of board answer_most (all z).port (all z).flash w
      = rw (a.port-is, a.flash-is) in
      record {
        port-is = b.port-is ∙ ap (λ (x : All). x.port) s ∙ sym (ap (λ (x : All). x.port) e);
        flash-is = b.flash-is ∙ ap (λ (x : All). x.flash) s ∙ sym (ap (λ (x : All). x.flash) e);
        heard-fits = b.heard-fits;
        joined_is = b.joined_is
            ∙ ap (λ (x : All). take heard_most (take h₁ j₁ ++ x.answers)) s
            ∙ ap (λ (x : List ℕ). take heard_most
            (x ++ (all_of board answer_most (all z).port (all z).flash w).answers)) a.joined_is
            ∙ take-joined heard_most (all z).answers
            (all_of board answer_most (all z).port (all z).flash w).answers
            ∙ sym (ap (λ (x : All). take heard_most x.answers) e);
      }

  module _ {o : Loss} {q : Port} {h : ℕ} {g j : List ℕ} where
    pub whole : o ≡ Loss.Whole → Joins (all (z ++ w)) [] q h g j
        → Joins (hearing o (all (reaching o z w))) [] q h g j
    whole e a = rw e a

    pub unanswered : o ≡ Loss.Unanswered → Joins (all (z ++ w)) [] q h g j
        → Joins (hearing o (all (reaching o z w))) [] q 0 g j
    unanswered e a =
        rw e
        (record { port-is = a.port-is; flash-is = a.flash-is; heard-fits = omega arith; joined_is = refl })
