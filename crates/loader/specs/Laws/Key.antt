-- The key is never answered, and what a sequence has added counts for nothing before type 0x01.
use Rattle.std.specs.Prelude.{ℕ, Bool, List, [], ◌∷◌, ◌≡◌, eqb, get_or}
use Rattle.std.proofs.Math.Bool.{true, false}
use Rattle.std.proofs.Math.Path.{refl}
use Rattle.std.proofs.Common.{sym, ap, ap₂, subst, ◌∙◌, eqb-true}
use Rattle.basis.specs.Choice.{pick, either}
use Rattle.basis.specs.Laws.Choice.{decide, true-false}
use Rattle.basis.specs.Laws.Refusals.{first_then}
use Rattle.basis.specs.Refusals.{Answer, refused, given, Rule, first, and_then, bare}
use Rattle.loader.specs.Commands.{Effect, effect_after, mass_erase, erase_rows, erasing, write_rows, writing, verify_rows, opening, added_of, adding, closing, protecting, running, keeping, obey_of}
use Rattle.loader.specs.Guard.{closes}
use Rattle.loader.specs.Laws.Protection.{unclosed}
use Rattle.loader.specs.Protection.{none}
use Rattle.loader.specs.Alike.{unkeyed, unadded, TakenAlike, Arrival, input, reset, course_from, CourseAlike}
use Rattle.loader.specs.State.{reset_of, with_condition, with_added, joined_of, cleared_of}
use Rattle.loader.specs.Take.{waiting, sent_data, obeyed, serve_of, hear_of, take_of, tell_of}
use Rattle.loader.specs.declared.protection.Protection.{Protection}
use Rattle.loader.specs.declared.state.Condition.{Condition}
use Rattle.loader.specs.declared.state.Condition.TheVariants.{Left, Serving}
use Rattle.loader.specs.declared.state.Loader.{Loader}
use Rattle.packet.specs.Packet.{Parts, read_of}
use Rattle.packet.specs.Table.{erase_byte, write_byte, verify_byte, protect_byte}

-- what the entry's tests look at
abbrev tested : Loader → Condition × Bool × Protection
tested l = (l.condition, l.sequence.opened, l.protection)

-- a view of the loader goes through a change: what it shows afterwards is told by what it shows before
abbrev Through : (Loader → Loader) → (Loader → Loader) → Type 0
Through hide op = (l : Loader) → hide (op l) ≡ hide (op (hide l))

-- a view that shows all that is tested, and goes through every change but the closing of a sequence
record View (hide : Loader → Loader) : Type 0 where
  shown : (l : Loader) → tested (hide l) ≡ tested l
  set : (c : Condition) → Through hide (λ l. with_condition l c)
  cleared : Through hide cleared_of
  begun : Through hide (λ l. with_added l none)
  added : (board a : ℕ) → Through hide (λ l. with_added l (added_of board l.sequence.added a))

-- two outcomes that look alike
data Alike (hide : Loader → Loader) : Answer Effect → Answer Effect → Type 0 where
  both-refused : (n : ℕ) → Alike hide (refused n) (refused n)
  both-given : {m n : Loader} (f : List ℕ) → hide m ≡ hide n
      → Alike hide (given (record { loader = m; flash = f })) (given (record { loader = n; flash = f }))

module _ (hide : Loader → Loader) where
  -- one table, over what looks alike
  first_alike : {t u : List Rule} {x y : Answer Effect} → t ≡ u → Alike hide x y
      → Alike hide (first t x) (first u y)
  first_alike {t} {u} {x} {y} e a =
      subst (λ (w : List Rule). Alike hide (first t x) (first w y)) e
      (rw (first_then t x, first_then t y) (go (first t (given tt))))
    where
      go : (b : Answer (Unit {0})) → Alike hide (and_then b x) (and_then b y)
      go (refused n) = both-refused n
      go (given w) = a

  -- and of what leaves flash as it was
  kept-alike : (f : List ℕ) {t u : List Rule} {m n : Loader} → t ≡ u → hide m ≡ hide n
      → Alike hide (keeping f (first t (given m))) (keeping f (first u (given n)))
  kept-alike f {t} {u} {m} {n} e q =
      subst (λ (w : List Rule). Alike hide (keeping f (first t (given m))) (keeping f (first w (given n)))) e
      (rw (first_then t (given m), first_then t (given n)) (go (first t (given tt))))
    where
      go : (b : Answer (Unit {0}))
          → Alike hide (keeping f (and_then b (given m))) (keeping f (and_then b (given n)))
      go (refused n) = both-refused n
      go (given w) = both-given f q

  -- one choice, of what looks alike
  pick-alike : (t : Bool) {a b c d : Answer Effect} → (t ≡ true → Alike hide a b)
      → (t ≡ false → Alike hide c d)
      → Alike hide (pick t a c) (pick t b d)
  pick-alike true x y = x refl
  pick-alike false x y = y refl

module _ (hide : Loader → Loader) (v : View hide) (l k : Loader) (q : hide l ≡ hide k) where
  tested-same : tested l ≡ tested k
  tested-same = sym (v.shown l) ∙ ap tested q ∙ v.shown k

  condition-same : l.condition ≡ k.condition
  condition-same = ap (λ (t : Condition × Bool × Protection). t.0) tested-same

  opened-same : l.sequence.opened ≡ k.sequence.opened
  opened-same = ap (λ (t : Condition × Bool × Protection). t.1) tested-same

  protection-same : l.protection ≡ k.protection
  protection-same = ap (λ (t : Condition × Bool × Protection). t.2) tested-same

  -- after a change that the view goes through the two look alike again
  through : (op : Loader → Loader) → Through hide op → hide (op l) ≡ hide (op k)
  through op b = b l ∙ ap (λ (m : Loader). hide (op m)) q ∙ sym (b k)

  -- ---- each command
  module _ (board a : ℕ) (f : List ℕ) where
    erasing-alike : (n : ℕ) → Alike hide (erasing board l a n f) (erasing board k a n f)
    unfolding erasing erase_rows
    erasing-alike n =
        first_alike hide (rw opened-same)
        (pick-alike hide (mass_erase a n)
        (λ t. both-given _ (through cleared_of v.cleared))
        (λ t. first_alike hide (rw protection-same) (both-given _ q)))

    writing-alike : (d : List ℕ) → Alike hide (writing board l a d f) (writing board k a d f)
    unfolding writing write_rows
    writing-alike d = first_alike hide (rw (opened-same, protection-same)) (both-given _ q)

    verifying-alike : (d : List ℕ)
        → Alike hide (keeping f (first (verify_rows board l a d f) (given l)))
        (keeping f (first (verify_rows board k a d f) (given k)))
    unfolding verify_rows
    verifying-alike d = kept-alike hide f (rw (opened-same, protection-same)) q

    running-alike : Alike hide (keeping f (running l a)) (keeping f (running k a))
    unfolding running
    running-alike =
        kept-alike hide f (rw opened-same) (through (λ m. with_condition m Left) (v.set Left))

    -- the closing of a sequence must look alike where a type comes that makes it
    protecting-alike : (t : ℕ)
        → (either (eqb t 0x00) (eqb t 0x0F) ≡ false → hide (joined_of l a) ≡ hide (joined_of k a))
        → Alike hide (keeping f (protecting board l a t)) (keeping f (protecting board k a t))
    unfolding protecting opening adding closing
    protecting-alike t joins = go (eqb t 0x00) (eqb t 0x0F) joins
      where
        go : (o g : Bool) → (either o g ≡ false → hide (joined_of l a) ≡ hide (joined_of k a))
            → Alike hide (keeping f (pick o (opening l) (pick g (adding board l a) (closing l a))))
            (keeping f (pick o (opening k) (pick g (adding board k a) (closing k a))))
        go true g j = kept-alike hide f (rw opened-same) (through (λ m. with_added m none) v.begun)
        go false true j =
            kept-alike hide f (rw opened-same)
            (through (λ m. with_added m (added_of board m.sequence.added a)) (v.added board a))
        go false false j = kept-alike hide f (rw opened-same) (j refl)

    obeying-alike : (c : ℕ) (d : List ℕ)
        → (c ≡ protect_byte → either (eqb (get_or d 0 0) 0x00) (eqb (get_or d 0 0) 0x0F) ≡ false
        → hide (joined_of l a) ≡ hide (joined_of k a))
        → Alike hide (obey_of board l c a d f) (obey_of board k c a d f)
    unfolding obey_of
    obeying-alike c d j =
        pick-alike hide (eqb c erase_byte) (λ t. erasing-alike (get_or d 0 0))
        (λ t. pick-alike hide (eqb c write_byte) (λ t. writing-alike d)
        (λ t. pick-alike hide (eqb c verify_byte) (λ t. verifying-alike d)
        (λ t. pick-alike hide (eqb c protect_byte)
        (λ t. protecting-alike (get_or d 0 0) (j (eqb-true c protect_byte t)))
        (λ t. running-alike))))

  -- ---- the entry
  module _ (board : ℕ) (s f : List ℕ) (room : ℕ)
      (joins : closes s ≡ true → (a : ℕ) → hide (joined_of l a) ≡ hide (joined_of k a)) where
    serving-alike : Alike hide (serve_of board l s f) (serve_of board k s f)
    unfolding serve_of
    serving-alike = go (read_of s) refl
      where
        go : (r : Answer Parts) → read_of s ≡ r → Alike hide (obeyed board l s f r) (obeyed board k s f r)
        go (refused n) e = both-refused n
        go (given p) e =
            obeying-alike board p.address f p.command (sent_data s p)
            (λ c n. decide (closes s) (λ t. joins t p.address)
            (λ t. absurd (true-false (sym (unclosed s t p e c) ∙ n))))

    taking-alike : Alike hide (take_of board l s f room) (take_of board k s f room)
    unfolding take_of hear_of
    taking-alike =
        first_alike hide refl
        (first_alike hide (rw condition-same)
        (subst
        (λ (c : Condition). Alike hide
        (pick (waiting l.condition) (given (record { loader = with_condition l Serving; flash = f }))
        (serve_of board l s f))
        (pick (waiting c) (given (record { loader = with_condition k Serving; flash = f }))
        (serve_of board k s f)))
        condition-same
        (pick-alike hide (waiting l.condition)
        (λ t. both-given f (through (λ m. with_condition m Serving) (v.set Serving)))
        (λ t. serving-alike))))

    taken-alike : TakenAlike hide board l k s f room
    taken-alike = go taking-alike
      where
        verdict : {x y : Answer Effect} → Alike hide x y → bare x ≡ bare y
        verdict (both-refused n) = refl
        verdict (both-given g e) = refl

        flash : {x y : Answer Effect} → Alike hide x y
            → (effect_after l f x).flash ≡ (effect_after k f y).flash
        flash (both-refused n) = refl
        flash (both-given g e) = refl

        loader : {x y : Answer Effect} → Alike hide x y
            → hide (effect_after l f x).loader ≡ hide (effect_after k f y).loader
        loader (both-refused n) = q
        loader (both-given g e) = e

        go : Alike hide (take_of board l s f room) (take_of board k s f room)
            → TakenAlike hide board l k s f room
        go a =
            record {
              verdict-same = verdict a;
              answer-same = ap₂ (tell_of board) (ap waiting condition-same) (verdict a);
              flash-same = flash a;
              loader-same = loader a;
            }

-- ---- the key

unkeyed-view : View unkeyed
unkeyed-view =
    record {
      shown = λ l. refl;
      set = λ c l. refl;
      cleared = λ l. refl;
      begun = λ l. refl;
      added = λ board a l. refl;
    }

-- two loaders that differ in the key alone take every input alike
pub key-unseen : (board : ℕ) (l k : Loader) (s f : List ℕ) (room : ℕ) → unkeyed l ≡ unkeyed k
    → TakenAlike unkeyed board l k s f room
key-unseen board l k s f room q =
    taken-alike unkeyed unkeyed-view l k q board s f room
    (λ t a. ap (λ (m : Loader). unkeyed (joined_of m a)) q)

-- and so every series of inputs, and of resets between them
pub key-unseen-series : (board : ℕ) (l k : Loader) (f : List ℕ) (es : List Arrival) → unkeyed l ≡ unkeyed k
    → CourseAlike (course_from board l f es) (course_from board k f es)
unfolding course_from
key-unseen-series board l k f [] q = record { told_same = refl; flash-same = refl; loader-same = q }
key-unseen-series board l k f (reset ∷ es) q =
    key-unseen-series board (reset_of l) (reset_of k) f es (ap reset_of q)
key-unseen-series board l k f (input s room ∷ es) q =
    let a = key-unseen board l k s f room q in
    let m = effect_after l f (take_of board l s f room) in
    let n = effect_after k f (take_of board k s f room) in
    let rest = subst (λ (g : List ℕ). CourseAlike (course_from board m.loader m.flash es)
    (course_from board n.loader g es)) a.flash-same
    (key-unseen-series board m.loader n.loader m.flash es a.loader-same) in
    record {
      told_same = λ i. record { verdict = a.verdict-same i; answer = a.answer-same i } ∷ rest.told_same i;
      flash-same = rest.flash-same;
      loader-same = rest.loader-same;
    }

-- ---- what a sequence has added

unadded-view : View unadded
unadded-view =
    record {
      shown = λ l. refl;
      set = λ c l. refl;
      cleared = λ l. refl;
      begun = λ l. refl;
      added = λ board a l. refl;
    }

-- two loaders that differ in it alone take every input alike but a P of type 0x01
pub added-unseen : (board : ℕ) (l k : Loader) (s f : List ℕ) (room : ℕ) → unadded l ≡ unadded k
    → closes s ≡ false
    → TakenAlike unadded board l k s f room
added-unseen board l k s f room q n =
    taken-alike unadded unadded-view l k q board s f room (λ t. absurd (true-false (sym t ∙ n)))
