-- What a receiver hands on is refused with 3 at least: the loader never says 1 or 2 to it, and to a short
-- count it says 3.
use Rattle.std.specs.Prelude.{ℕ, ◌≤◌, not, List, [], ◌∷◌, ◌⊎◌, ◌≡◌, length}
use Rattle.std.proofs.Common.{inl, inr, sym, ap, subst, ◌∙◌, arith, lt-ltb, le-ltb, eq-eqb}
use Rattle.std.proofs.lemmas.Bool.{lt-leb}
use Rattle.basis.specs.Board.{answer_most}
use Rattle.basis.specs.Laws.Refusals.{skip, stop}
use Rattle.basis.specs.Refusals.{refused}
use Rattle.basis.specs.Units.{start_of}
use Rattle.loader.specs.Laws.Numbers.{From, row_from, end-from, take-from}
use Rattle.loader.specs.Laws.Take.{take-heard, heard-serving, served-unread}
use Rattle.loader.specs.Take.{take_of}
use Rattle.loader.specs.declared.state.Condition.TheVariants.{Serving}
use Rattle.loader.specs.declared.state.Loader.{Loader}
use Rattle.packet.specs.Packet.{rows, tabled_of, read_of}
use Rattle.receiver.specs.Hearing.{feed, Whole, Short, Handed}
use Rattle.receiver.specs.Laws.Handed.{Proper, AllProper, new-proper}

tabled-from : (s : List ℕ) → From 3 (tabled_of s)
unfolding tabled_of
tabled-from s =
    row_from 3 5 _ _ _ (omega arith) (row_from 3 6 _ _ _ (omega arith) (end-from 3 _ tt))

-- past 1 and 2, where the count is below 5
short-refused : (s : List ℕ) → Short s → read_of s ≡ refused 3
unfolding read_of rows
short-refused s h =
    let l = h.three in
    skip 1 _ _ _ (ap not h.starts) ∙ skip 2 _ _ _ (lt-leb (length s) 2 (omega arith))
    ∙ stop 3 _ _ _ (lt-ltb _ 5 h.few)

-- a loader that serves says 3 to it
pub short-told : (board : ℕ) (l : Loader) (s f : List ℕ) (room : ℕ) → length f ≡ start_of board
    → answer_most ≤ room → l.condition ≡ Serving → Short s → take_of board l s f room ≡ refused 3
short-told board l s f room size fits c h =
    take-heard board l s f room size fits ∙ heard-serving board l s f c
    ∙ served-unread board l s f (short-refused s h)

whole_from : (s : List ℕ) → Whole s → From 3 (read_of s)
unfolding read_of rows
whole_from s h =
    let l = h.long in
    let e = h.enough in
    subst (From 3)
    (sym (skip 1 _ _ _ (ap not h.starts) ∙ skip 2 _ _ _ (lt-leb (length s) 2 (omega arith))
    ∙ skip 3 _ _ _ (le-ltb _ 5 e) ∙ skip 2 _ _ _ (ap not (eq-eqb _ _ l))))
    (row_from 3 4 _ _ _ (omega arith) (end-from 3 (tabled_of s) (tabled-from s)))

handed-from : (s : List ℕ) → Handed s → From 3 (read_of s)
handed-from s (inl h) = whole_from s h
handed-from s (inr h) = rw (short-refused s h) (omega arith)

-- a loader's word on what a hunt hands on: accepted, or a number from 3 on
pub handed-heard : (board : ℕ) (l : Loader) (s f : List ℕ) (room : ℕ) → Handed s
    → From 3 (take_of board l s f room)
handed-heard board l s f room h = take-from board l s f room 3 (omega arith) (handed-from s h)

-- each of the packets
abbrev pub AllHeard : ℕ → Loader → List ℕ → ℕ → List (List ℕ) → Type 0
AllHeard board l f room [] = Unit {0}
AllHeard board l f room (p ∷ t) = ((p ≡ []) ⊎ From 3 (take_of board l p f room)) × AllHeard board l f room t

-- of a new receiver, by any feeding, whatever the loader and its flash
pub new-heard : (board : ℕ) (l : Loader) (f : List ℕ) (room : ℕ) (s : List ℕ)
    → AllHeard board l f room (feed [] s).handed
new-heard board l f room s = go (feed [] s).handed (new-proper s)
  where
    one : (p : List ℕ) → Proper p → (p ≡ []) ⊎ From 3 (take_of board l p f room)
    one p (inl e) = inl e
    one p (inr h) = inr (handed-heard board l p f room h)

    go : (t : List (List ℕ)) → AllProper t → AllHeard board l f room t
    go [] h = tt
    go (p ∷ t) h = (one p h.0, go t h.1)
