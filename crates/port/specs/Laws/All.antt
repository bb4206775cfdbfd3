-- Laws of bytes that go in one after another: cuts change nothing, and what the loader gets of them.
use Rattle.std.proofs.lemmas.Bool.{eqb-false}
use Rattle.std.specs.Prelude.{true, false, eqb, get_or, take}
use Rattle.std.proofs.Common.{inl, inr, ◌∙◌, arith, length-append, ℕ, zero, suc, ◌+◌, ◌≤◌, ◌<◌, List, [], ◌∷◌, ◌++◌, append_assoc, append-nil, eq-eqb, ne_eqb, eqb-true}
use Rattle.std.proofs.Math.Path.{◌≡◌, refl, sym, ap, subst}
use Rattle.std.proofs.Math.ListN.{length}
use Rattle.basis.specs.Board.{answer_most, opening_byte}
use Rattle.basis.specs.Laws.Choice.{decide}
use Rattle.basis.specs.Refusals.{Answer, given}
use Rattle.basis.specs.Units.{start_of}
use Rattle.loader.specs.Commands.{Effect, effect_after}
use Rattle.loader.specs.Laws.Host.{sent-opening}
use Rattle.loader.specs.Laws.Take.{take-heard, waiting-unheard}
use Rattle.loader.specs.State.{with_condition}
use Rattle.loader.specs.Take.{take_of, answer_bytes}
use Rattle.loader.specs.declared.state.Condition.{Condition}
use Rattle.loader.specs.declared.state.Condition.TheVariants.{Waiting, Serving, Left}
use Rattle.loader.specs.declared.state.Loader.{Loader}
use Rattle.port.specs.Laws.Port.{turn-gathers, turn-passes, through-packet}
use Rattle.port.specs.Port.{serving, still, brings, through, as_it_comes, Turn, turn_of, All, all_of}
use Rattle.port.specs.declared.port.Port.{Port}
use Rattle.receiver.specs.Hearing.{hear, Fed, feed, rubbish}
use Rattle.receiver.specs.Laws.Bytes.{ending, first_on, first_found}
use Rattle.receiver.specs.Laws.Feeding.{nothing, nothing-joined, feed-append, rubbish-tail, rubbish-idle, Idle}
use Rattle.receiver.specs.Laws.Record.{no_bytes, byte-gathered, byte-packet}
use Rattle.receiver.specs.Receiver.{emptied, gathered, further, byte_of, bytes_of}
use Rattle.receiver.specs.declared.receiver.Receiver.{Receiver}
use Rattle.receiver.specs.declared.receiver.Stretch.{Stretch}

-- ---- cuts

-- what one turn leaves and answers
abbrev pub of_turn : Turn → All
of_turn t = record { port = t.port; flash = t.flash; answers = t.answer }

module _ (board room : ℕ) where
  -- more bytes, after those that went in
  abbrev pub and_then : All → List ℕ → All
  and_then a s =
      let r = all_of board room a.port a.flash s in
      record { port = r.port; flash = r.flash; answers = a.answers ++ r.answers }

  pub all_none : (p : Port) (f : List ℕ)
      → all_of board room p f [] ≡ record { port = p; flash = f; answers = [] }
  unfolding all_of
  all_none p f = refl

  pub all_first : (p : Port) (f : List ℕ) (b : ℕ) (s : List ℕ)
      → all_of board room p f (b ∷ s) ≡ and_then (of_turn (turn_of board room p f (b ∷ []))) s
  unfolding all_of
  all_first p f b s = refl

  all_one : (p : Port) (f : List ℕ) (b : ℕ)
      → all_of board room p f (b ∷ []) ≡ of_turn (turn_of board room p f (b ∷ []))
  unfolding all_of
  all_one p f b = rw (append-nil (turn_of board room p f (b ∷ [])).answer)

  pub all_append : (p : Port) (f s t : List ℕ)
      → all_of board room p f (s ++ t) ≡ and_then (all_of board room p f s) t
  unfolding all_of
  all_append p f [] t = refl
  all_append p f (b ∷ s) t =
      let x = turn_of board room p f (b ∷ []) in
      rw (all_append x.port x.flash s t, append_assoc)

-- ---- the loader serves: what it gets is what the receiver hands on

-- loader and flash, the answers, and what is gathered then
pub record Leaves (l : Loader) (f answers g : List ℕ) (a : All) : Type 0 where
  pub loader-is : a.port.loader ≡ l
  pub flash-is : a.flash ≡ f
  pub answers-is : a.answers ≡ answers
  pub gathered-is : gathered a.port.receiver ≡ g

-- the loader gets nothing: it and flash are as they were, and nothing is answered
abbrev pub Idles : Loader → List ℕ → List ℕ → All → Type 0
Idles l f g a = Leaves l f [] g a

-- the loader gets one input
abbrev pub Brings : ℕ → ℕ → Loader → List ℕ → List ℕ → List ℕ → All → Type 0
Brings board room l f w g a =
    let x = take_of board l w f room in
    let e = effect_after l f x in
    Leaves e.loader e.flash (answer_bytes board l x) g a

module _ (board room : ℕ) (l : Loader) (c : l.condition ≡ Serving) where
  abbrev port_with : Receiver → Port
  port_with r = record { loader = l; receiver = r }

  -- one byte
  module _ (r : Receiver) (f : List ℕ) (b : ℕ) where
    abbrev next : Receiver
    next = (byte_of r b).receiver

    byte-still : (hear (gathered r) b).packet ≡ []
        → turn_of board room (port_with r) f (b ∷ []) ≡ still l next f 1
    unfolding bytes_of
    byte-still e =
        turn-gathers board (port_with r) (b ∷ []) f room (ap serving c)
        ∙ rw (eq-eqb (byte_of r b).packet 0 (ap length e))

    byte-brings : ((hear (gathered r) b).packet ≡ [] → ⊥)
        → turn_of board room (port_with r) f (b ∷ [])
        ≡ brings board room l next f 1 (hear (gathered r) b).packet
    byte-brings n =
        let m : (byte_of r b).packet ≡ 0 → ⊥ = λ e. n (no_bytes _ e) in
        turn-gathers board (port_with r) (b ∷ []) f room (ap serving c)
        ∙ ap (through board room l f) (first_found r b [] m)
        ∙ through-packet board room l f (ending next (byte_of r b).packet 1) m
        ∙ ap (brings board room l next f 1) (byte-packet r b)

    byte-on : (s : List ℕ) → (hear (gathered r) b).packet ≡ []
        → all_of board room (port_with r) f (b ∷ s) ≡ all_of board room (port_with next) f s
    byte-on s e =
        all_first board room (port_with r) f b s
        ∙ ap (λ (t : Turn). and_then board room (of_turn t) s) (byte-still e)

    -- what the bytes behind it leave, all leave
    on-leaves : (s : List ℕ) {k : Loader} {h answers : List ℕ} → (hear (gathered r) b).packet ≡ []
        → Leaves k h answers (feed (gathered next) s).gathered (all_of board room (port_with next) f s)
        → Leaves k h answers (feed (gathered r) (b ∷ s)).gathered (all_of board room (port_with r) f (b ∷ s))
    unfolding feed
    on-leaves s e i = rw (byte-on s e) (rw (byte-gathered r b) at i)

  -- nothing is handed on
  pub all-idle : (s : List ℕ) (r : Receiver) (f : List ℕ) → (feed (gathered r) s).handed ≡ nothing (length s)
      → Idles l f (feed (gathered r) s).gathered (all_of board room (port_with r) f s)
  unfolding all_of feed
  all-idle [] r f e = record { loader-is = refl; flash-is = refl; answers-is = refl; gathered-is = refl }
  all-idle (b ∷ s) r f e =
      let q : (hear (gathered r) b).packet ≡ [] = cc in
      let t : (feed (hear (gathered r) b).gathered s).handed ≡ nothing (length s) = cc in
      on-leaves r f b s q (all-idle s (next r f b) f (rw (byte-gathered r b) t))

  -- one packet is handed on, at the last byte
  pub all-brings : (s : List ℕ) (r : Receiver) (f w : List ℕ) (k : ℕ) → (w ≡ [] → ⊥)
      → (feed (gathered r) s).handed ≡ nothing k ++ (w ∷ [])
      → Brings board room l f w (feed (gathered r) s).gathered (all_of board room (port_with r) f s)
  unfolding all_of feed
  all-brings [] r f w zero n e = absurd (let z : ◌≡◌ {A = ℕ} 0 1 = cc in omega arith)
  all-brings [] r f w (suc k) n e = absurd (let z : ◌≡◌ {A = ℕ} 0 1 = cc in omega arith)
  all-brings (b ∷ []) r f w zero n e =
      let q : (hear (gathered r) b).packet ≡ w = cc in
      rw (byte-brings r f b (λ z. n (sym q ∙ z)))
      (record {
        loader-is = ap (λ (x : List ℕ). (effect_after l f (take_of board l x f room)).loader) q;
        flash-is = ap (λ (x : List ℕ). (effect_after l f (take_of board l x f room)).flash) q;
        answers-is = append-nil _ ∙ ap (λ (x : List ℕ). answer_bytes board l (take_of board l x f room)) q;
        gathered-is = byte-gathered r b;
      })
  all-brings (b ∷ d ∷ s) r f w zero n e = absurd (let z : ◌≡◌ {A = ℕ} 0 1 = cc in omega arith)
  all-brings (b ∷ s) r f w (suc k) n e =
      let q : (hear (gathered r) b).packet ≡ [] = cc in
      let t : (feed (hear (gathered r) b).gathered s).handed ≡ nothing k ++ (w ∷ []) = cc in
      on-leaves r f b s q (all-brings s (next r f b) f w k n (rw (byte-gathered r b) t))

-- ---- rubbish and then the opening byte

-- nothing is gathered after it, and nothing handed on
past-opening : (g : List ℕ) → Idle g → feed g (opening_byte ∷ []) ≡ record { gathered = []; handed = [] ∷ [] }
unfolding feed hear
past-opening g (inl e) = rw e
past-opening g (inr e) = rw e

opening-fed : (z : List ℕ) → rubbish z ≡ true
    → feed [] (z ++ (opening_byte ∷ []))
    ≡ record { gathered = []; handed = nothing (length (z ++ (opening_byte ∷ []))) }
opening-fed z e =
    let u = rubbish-idle z e in
    let n : length (z ++ (opening_byte ∷ [])) ≡ length z + 1 = length-append z (opening_byte ∷ []) in
    feed-append [] z (opening_byte ∷ [])
    ∙ rw (past-opening (feed [] z).gathered u.1, u.0, n)
    (ap (λ (h : List (List ℕ)). record { gathered = []; handed = h })
    (nothing-joined (length z) 1 [] ∙ append-nil (nothing (length z + 1))))

-- ---- the loader waits: what is not the opening byte is not heard

module _ (board room : ℕ) (l : Loader) (c : l.condition ≡ Waiting) (f : List ℕ)
    (size : length f ≡ start_of board) (fits : answer_most ≤ room) where
  byte-unheard : (r : Receiver) (b : ℕ) → (b ≡ opening_byte → ⊥)
      → of_turn (turn_of board room (record { loader = l; receiver = r }) f (b ∷ []))
      ≡ record { port = record { loader = l; receiver = emptied r }; flash = f; answers = [] }
  byte-unheard r b n =
      ap of_turn (turn-passes board (record { loader = l; receiver = r }) (b ∷ []) f room (ap serving c))
      ∙ rw (take-heard board l (b ∷ []) f room size fits
      ∙ waiting-unheard board l (b ∷ []) f c (ne_eqb b opening_byte n))

  pub all-unheard : (s : List ℕ) (r : Receiver) → ((k : ℕ) → get_or s k 0 ≡ opening_byte → ⊥)
      → gathered r ≡ []
      → Idles l f [] (all_of board room (record { loader = l; receiver = r }) f s)
  unfolding all_of
  all-unheard [] r n g = record { loader-is = refl; flash-is = refl; answers-is = refl; gathered-is = g }
  all-unheard (b ∷ s) r n g =
      let i = all-unheard s (emptied r) (λ k. n (suc k)) refl in
      subst (Idles l f [])
      (sym (all_first board room (record { loader = l; receiver = r }) f b s
      ∙ ap (λ (a : All). and_then board room a s) (byte-unheard r b (n 0)))) i

  abbrev opening : Answer Effect
  opening = take_of board l (opening_byte ∷ []) f room

  opens : opening ≡ given (record { loader = with_condition l Serving; flash = f })
  opens = sent-opening board l f room size fits c

  byte-opens : (r : Receiver)
      → of_turn (turn_of board room (record { loader = l; receiver = r }) f (opening_byte ∷ []))
      ≡ record {
        port = record { loader = with_condition l Serving; receiver = emptied r };
        flash = f;
        answers = answer_bytes board l opening;
      }
  byte-opens r =
      ap of_turn
      (turn-passes board (record { loader = l; receiver = r }) (opening_byte ∷ []) f room (ap serving c))
      ∙ ap (λ (x : Answer Effect). record {
        port = record { loader = (effect_after l f x).loader; receiver = emptied r };
        flash = (effect_after l f x).flash;
        answers = answer_bytes board l opening;
      }) opens

  -- a second opening byte changes nothing, whatever rubbish is between
  opens-once : (z : List ℕ) (r : Receiver) → rubbish z ≡ true
      → Brings board room l f (opening_byte ∷ []) []
      (all_of board room (record { loader = l; receiver = r }) f
      (opening_byte ∷ z ++ (opening_byte ∷ [])))
  opens-once z r e =
      let s = z ++ (opening_byte ∷ []) in
      let h = opening-fed z e in
      let i = all-idle board room (with_condition l Serving) refl s (emptied r) f
      (ap (λ (x : Fed). x.handed) h) in
      subst (Brings board room l f (opening_byte ∷ []) [])
      (sym (all_first board room (record { loader = l; receiver = r }) f opening_byte s
      ∙ ap (λ (a : All). and_then board room a s) (byte-opens r)))
      (record {
        loader-is = i.loader-is ∙ sym (ap (λ (x : Answer Effect). (effect_after l f x).loader) opens);
        flash-is = i.flash-is ∙ sym (ap (λ (x : Answer Effect). (effect_after l f x).flash) opens);
        answers-is = ap (λ (t : List ℕ). answer_bytes board l opening ++ t) i.answers-is ∙ append-nil _;
        gathered-is = i.gathered-is ∙ ap (λ (x : Fed). x.gathered) h;
      })

  -- the opening byte opens the board, also when rubbish came before it
  pub all-opens : (z : List ℕ) (r : Receiver) → rubbish z ≡ true
      → Brings board room l f (opening_byte ∷ []) []
      (all_of board room (record { loader = l; receiver = r }) f
      (z ++ (opening_byte ∷ [])))
  unfolding all_of
  all-opens [] r e =
      rw (turn-passes board (record { loader = l; receiver = r }) (opening_byte ∷ []) f room (ap serving c))
      (record { loader-is = refl; flash-is = refl; answers-is = append-nil _; gathered-is = refl })
  all-opens (b ∷ z) r e =
      decide (eqb b opening_byte)
      (λ t. rw (eqb-true b opening_byte t) (opens-once z r (rubbish-tail b z e)))
      (λ t. subst (Brings board room l f (opening_byte ∷ []) [])
      (sym (all_first board room (record { loader = l; receiver = r }) f b (z ++ (opening_byte ∷ []))
      ∙ ap (λ (a : All). and_then board room a (z ++ (opening_byte ∷ [])))
      (byte-unheard r b (eqb-false b opening_byte t))))
      (all-opens z (emptied r) (rubbish-tail b z e)))

-- ---- a call over a stretch is the same as the bytes that it takes, one after another

-- how many bytes were taken before changes nothing else
further_same : (board room : ℕ) (l : Loader) (f : List ℕ) (n : ℕ) (x : Stretch)
    → of_turn (through board room l f (further n x)) ≡ of_turn (through board room l f x)
further_same board room l f n x = decide (eqb x.packet 0) (λ t. rw t) (λ t. rw t)

take_more : (k b : ℕ) (s : List ℕ) → take (1 + k) (b ∷ s) ≡ b ∷ take k s
take_more k b s = let e : 1 + k ≡ suc k = omega arith in rw e

through-taken : (board room : ℕ) (l : Loader) (f : List ℕ) (x : Stretch)
    → (through board room l f x).taken ≡ x.taken
through-taken board room l f x = decide (eqb x.packet 0) (λ t. rw t) (λ t. rw t)

module _ (board room : ℕ) where
  gathers-all : (l : Loader) (c : l.condition ≡ Serving) (f s : List ℕ) (r : Receiver)
      → all_of board room (record { loader = l; receiver = r }) f (take (bytes_of r s).taken s)
      ≡ of_turn (through board room l f (bytes_of r s))
  unfolding bytes_of all_of
  gathers-all l c f [] r = refl
  gathers-all l c f (b ∷ s) r =
      decide (eqb (byte_of r b).packet 0)
      (λ t. let e = eqb-true (byte_of r b).packet 0 t in
      let k = (bytes_of (byte_of r b).receiver s).taken in
      ap (λ (x : Stretch). all_of board room (record { loader = l; receiver = r }) f (take x.taken (b ∷ s)))
      (first_on r b s e)
      ∙ ap (all_of board room (record { loader = l; receiver = r }) f) (take_more k b s)
      ∙ byte-on board room l c r f b (take k s) (no_bytes _ e)
      ∙ gathers-all l c f s (byte_of r b).receiver
      ∙ sym (ap (λ (x : Stretch). of_turn (through board room l f x)) (first_on r b s e)
      ∙ further_same board room l f 1 (bytes_of (byte_of r b).receiver s)))
      (λ t. let n = eqb-false (byte_of r b).packet 0 t in
      ap (λ (x : Stretch). all_of board room (record { loader = l; receiver = r }) f (take x.taken (b ∷ s)))
      (first_found r b s n)
      ∙ all_one board room (record { loader = l; receiver = r }) f b
      ∙ ap of_turn (turn-gathers board (record { loader = l; receiver = r }) (b ∷ []) f room (ap serving c))
      ∙ ap (λ (x : Stretch). of_turn (through board room l f x)) (first_found r b [] n)
      ∙ sym (ap (λ (x : Stretch). of_turn (through board room l f x)) (first_found r b s n)))

  passes-all : (p : Port) (f s : List ℕ) → serving p.loader.condition ≡ false
      → (let t = as_it_comes board room p.loader p.receiver f s in
      all_of board room p f (take t.taken s) ≡ of_turn t)
  passes-all p f [] c = all_none board room p f
  passes-all p f (b ∷ s) c =
      all_one board room p f b ∙ ap of_turn (turn-passes board p (b ∷ []) f room c)

  pub turn-all : (p : Port) (f s : List ℕ)
      → (let t = turn_of board room p f s in all_of board room p f (take t.taken s) ≡ of_turn t)
  turn-all p f s = go p.loader.condition refl
    where
      go : (c : Condition) → p.loader.condition ≡ c
          → (let t = turn_of board room p f s in all_of board room p f (take t.taken s) ≡ of_turn t)
      go Waiting e = rw (turn-passes board p s f room (ap serving e)) (passes-all p f s (ap serving e))
      go Serving e =
          rw (turn-gathers board p s f room (ap serving e))
          (ap (λ (n : ℕ). all_of board room p f (take n s))
          (through-taken board room p.loader f (bytes_of p.receiver s))
          ∙ gathers-all p.loader e f s p.receiver)
      go Left e = rw (turn-passes board p s f room (ap serving e)) (passes-all p f s (ap serving e))

-- of some bytes at least one is taken, and no more than there are
bytes-taken : (s : List ℕ) (r : Receiver) → (bytes_of r s).taken ≤ length s
unfolding bytes_of
bytes-taken [] r = omega arith
bytes-taken (b ∷ s) r =
    decide (eqb (byte_of r b).packet 0)
    (λ t. rw t (omega (arith, bytes-taken s (byte_of r b).receiver)))
    (λ t. rw t (omega arith))

bytes-some : (s : List ℕ) (r : Receiver) → 0 < length s → 0 < (bytes_of r s).taken
unfolding bytes_of
bytes-some [] r h = absurd (omega arith)
bytes-some (b ∷ s) r h =
    decide (eqb (byte_of r b).packet 0) (λ t. rw t (omega arith)) (λ t. rw t (omega arith))

pub turn-takes : (board room : ℕ) (p : Port) (f s : List ℕ) → 0 < length s
    → (0 < (turn_of board room p f s).taken) × ((turn_of board room p f s).taken ≤ length s)
turn-takes board room p f s h =
    decide (serving p.loader.condition)
    (λ t. let e = turn-gathers board p s f room t in
    let q = through-taken board room p.loader f (bytes_of p.receiver s) in
    rw (e, q) (bytes-some s p.receiver h, bytes-taken s p.receiver))
    (λ t. rw (turn-passes board p s f room t) (go s h))
  where
    go : (s : List ℕ) → 0 < length s
        → (let t = as_it_comes board room p.loader p.receiver f s in
        (0 < t.taken) × (t.taken ≤ length s))
    go [] h = absurd (omega arith)
    go (b ∷ s) h = (omega arith, omega arith)
