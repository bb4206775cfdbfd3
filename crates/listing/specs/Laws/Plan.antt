-- Laws of a plan's listing: it goes along the plan packet by packet, and its sheets are the plan's lines.
use Rattle.std.specs.Prelude.{◌≡◌, ℕ, zero, suc, ◌+◌, ◌-◌, ◌<◌, ◌≤◌, true, List, [], ◌∷◌, ◌++◌, length, drop, nat_lt, Option, Some, None}
use Rattle.std.proofs.Common.{append_assoc, append-nil, sym, ap, ◌∙◌, add-one, arith, lt-ltb, le-ltb, length-drop, drop_of_length-le, drop-cons}
use Rattle.std.proofs.Math.Path.{refl}
use Rattle.std.proofs.Math.Seq.{drop-nil}
use Rattle.basis.specs.Laws.Choice.{decide}
use Rattle.basis.specs.Laws.Refusals.{apart, given-one, refused-one}
use Rattle.basis.specs.Refusals.{Answer, refused, given}
use Rattle.basis.specs.Units.{map_bytes}
use Rattle.basis.specs.declared.kind.RunKind.{RunKind}
use Rattle.order.specs.Laws.Plan.{plan-length, plan-at}
use Rattle.order.specs.Laws.Steps.{stands-start, at-stands, left_step, left_end, first-at, follow-at}
use Rattle.order.specs.Laws.Walk.{steps-first, steps-end, first-next, walk-first, walk-all, walk-next, walk-stands}
use Rattle.order.specs.Plan.{plan, total}
use Rattle.order.specs.Steps.{step_at, following_at, first_of, follow_of, at_start}
use Rattle.order.specs.Walk.{steps_from, steps_left, stands_next}
use Rattle.order.specs.declared.step.Step.{Step}
use Rattle.runs.specs.Pieces.{named_count}
use Rattle.session.specs.Laws.Steps.{starting}
use Rattle.session.specs.Session.{Next, Sent, started, measured, Loadable}
use Rattle.listing.specs.Lines.{head_line, step_line, total_line}
use Rattle.listing.specs.Plan.{step_lines, plan_text, reset_packet_at, listing_at, Listed, listing_by, printout_by, longest_line, Sheet, sheet, followed_by, sheet_of, sheets}
use Rattle.listing.specs.declared.plan.Listing.{Listing}

-- ---- packet by packet

pub lines-append : (n : ℕ) (ps : List (List ℕ)) (p : List ℕ)
    → step_lines n (ps ++ (p ∷ [])) ≡ step_lines n ps ++ step_line (n + length ps + 1) p
unfolding step_lines
lines-append n [] p = let e : n + 0 + 1 ≡ n + 1 = omega arith in rw e (append-nil (step_line (n + 1) p))
lines-append n (q ∷ ps) p =
    let e : n + 1 + length ps + 1 ≡ n + suc (length ps) + 1 = omega arith in
    ap (λ (s : List ℕ). step_line (n + 1) q ++ s)
    (lines-append (n + 1) ps p ∙ ap (λ (k : ℕ). step_lines (n + 1) ps ++ step_line k p) e)
    ∙ sym (append_assoc (step_line (n + 1) q) (step_lines (n + 1) ps) (step_line (n + suc (length ps) + 1) p))

-- ---- along the plan

-- nothing is listed: the first packet is next
pub listing-first : (board : ℕ) (m : List ℕ) → length m ≡ map_bytes board → 0 < named_count board m
    → (f : Option Step) (k : ℕ) → f ≡ Some (first_of board m) → k ≡ total board m RunKind.Reset
    → record { next = f; listed = 0; total = k } ≡ listing_at board m 0
listing-first board m long some f k e g =
    let h : f ≡ Some (step_at board m 0) = e
    ∙ ap Some (first-at board m long some RunKind.Reset) in
    let some-packet : 0 < total board m RunKind.Reset = omega arith in
    rw (h, g, lt-ltb 0 (total board m RunKind.Reset) some-packet)

-- ---- a listing of a file

module _ (board : ℕ) (image m : List ℕ) (l : Listing) (h : Listed board image m l) where
  pub listed-total : l.total ≡ total board m RunKind.Reset
  listed-total = ap (λ (x : Listing). x.total) h.stands

  listed-left-is : l.next ≡ following_at board m RunKind.Reset l.listed
  listed-left-is = ap (λ (x : Listing). x.next) h.stands

  module _ (s : Step) (next-is : l.next ≡ Some s) where
    listed_below : l.listed < total board m RunKind.Reset
    listed_below = (left_step board m RunKind.Reset l.listed s (sym listed-left-is ∙ next-is)).0

    pub listed_more : l.listed < l.total
    listed_more = omega (arith, listed-total, listed_below)

    -- its step is that of the next packet
    pub listed-step : s ≡ step_at board m l.listed
    listed-step = (left_step board m RunKind.Reset l.listed s (sym listed-left-is ∙ next-is)).1

    pub listed_start : at_start board m s ≡ true
    listed_start =
        ap (at_start board m) listed-step
        ∙ stands-start board m h.file.long RunKind.Reset (step_at board m l.listed) l.listed
        (at-stands board m RunKind.Reset l.listed listed_below)

    pub listed_next : (f : Option Step) → f ≡ follow_of board m RunKind.Reset s
        → record { next = f; listed = l.listed + 1; total = l.total } ≡ listing_at board m (l.listed + 1)
    listed_next f e =
        let g : f ≡ following_at board m RunKind.Reset (l.listed + 1) = e
        ∙ ap (follow_of board m RunKind.Reset) listed-step
        ∙ follow-at board m h.file.long h.file.some RunKind.Reset l.listed listed_below in
        λ i. record { next = g i; listed = l.listed + 1; total = listed-total i }

    pub next-listed : (x : Listing) → x ≡ listing_at board m (l.listed + 1) → Listed board image m x
    next-listed x e =
        let n : x.listed ≡ l.listed + 1 = ap (λ (y : Listing). y.listed) e in
        record {
          file = h.file;
          stands = e ∙ ap (listing_at board m) (sym n);
          within = omega (arith, listed_below);
        }

    -- and what is left of the plan begins with its packet
    pub listed-left : drop l.listed (plan board image m RunKind.Reset)
        ≡ reset_packet_at board image m l.listed ∷ drop (l.listed + 1) (plan board image m RunKind.Reset)
    listed-left =
        let k : l.listed < length (plan board image m RunKind.Reset) = omega
        (arith, plan-length board image m RunKind.Reset, listed_below) in
        rw (
          add-one,
          drop-cons (plan board image m RunKind.Reset) l.listed [] k,
          plan-at board image m RunKind.Reset l.listed [] listed_below,
        )

  pub listed-end : l.next ≡ None → drop l.listed (plan board image m RunKind.Reset) ≡ []
  listed-end e =
      let k : length (plan board image m RunKind.Reset) ≤ l.listed = omega (
        arith,
        plan-length board image m RunKind.Reset,
        left_end board m RunKind.Reset l.listed (sym listed-left-is ∙ e),
      ) in
      drop_of_length-le (plan board image m RunKind.Reset) k

-- ---- its start

-- what a session's start that is not refused shows: the file can be loaded, nothing is listed, the first step
-- is next, and so many packets are printed
pub begins : (board : ℕ) (image m : List ℕ) (room : ℕ) (x : Next)
    → given x ≡ measured (started board image m room RunKind.Reset)
    → (Loadable board image m) × (x.session.total ≡ total board m RunKind.Reset)
    × (listing_by board m (started board image m room RunKind.Reset) ≡ given (listing_at board m 0))
    × (following_at board m RunKind.Reset 0 ≡ Some (first_of board m))
    × (printout_by board m (started board image m room RunKind.Reset) ≡ given (total board m RunKind.Reset))
begins board image m room x e =
    let s = starting board image m room RunKind.Reset x e in (
      s.file,
      ap (λ (v : Next). v.session.total) s.next-is,
      ap (listing_by board m) s.started-is,
      sym (first-next board m s.file.long s.file.some RunKind.Reset),
      ap (printout_by board m) s.started-is,
    )

pub start-refused : (board : ℕ) (image m : List ℕ) (room k : ℕ)
    → refused k ≡ measured (started board image m room RunKind.Reset)
    → refused k ≡ listing_by board m (started board image m room RunKind.Reset)
start-refused board image m room k e = go (started board image m room RunKind.Reset) e
  where
    go : (a : Answer Sent) → refused k ≡ measured a → refused k ≡ listing_by board m a
    go (refused n) e = ap refused (refused-one e)
    go (given x) e = absurd (apart (e))

pub print-refused : (board : ℕ) (image m : List ℕ) (room k : ℕ)
    → refused k ≡ measured (started board image m room RunKind.Reset)
    → refused k ≡ printout_by board m (started board image m room RunKind.Reset)
print-refused board image m room k e = go (started board image m room RunKind.Reset) e
  where
    go : (a : Answer Sent) → refused k ≡ measured a → refused k ≡ printout_by board m a
    go (refused n) e = ap refused (refused-one e)
    go (given x) e = absurd (apart (e))

-- a printout and a listing begin alike
pub printed-begins : (board : ℕ) (m : List ℕ) (a : Answer Sent) (n : ℕ) → given n ≡ printout_by board m a
    → given (listing_at board m 0) ≡ listing_by board m a
printed-begins board m (refused k) n e = absurd (apart (sym e))
printed-begins board m (given x) n e = refl

pub printed-refused : (board : ℕ) (m : List ℕ) (a : Answer Sent) (k : ℕ) → refused k ≡ printout_by board m a
    → refused k ≡ listing_by board m a
printed-refused board m (refused n) k e = ap refused (refused-one e)
printed-refused board m (given x) k e = absurd (apart e)

-- ---- the steps that a listing has left

-- after k packets the next step stands, and those from the k-th on are left
module _ (board : ℕ) (m : List ℕ) (long : length m ≡ map_bytes board) (some : 0 < named_count board m) where
  abbrev next_at : ℕ → Option Step
  next_at k = following_at board m RunKind.Reset k

  left-stands : (k : ℕ) → k ≤ total board m RunKind.Reset
      → (stands_next board m RunKind.Reset (next_at k) ≡ true)
      × (steps_left board m RunKind.Reset (next_at k)
      ≡ steps_from board m k (total board m RunKind.Reset - k))
  left-stands zero h =
      let f = sym (first-next board m long some RunKind.Reset) in
      let z : total board m RunKind.Reset ≡ total board m RunKind.Reset - 0 = omega arith in (
        ap (stands_next board m RunKind.Reset) f ∙ walk-first board m long some RunKind.Reset,
        ap (steps_left board m RunKind.Reset) f ∙ walk-all board m long some RunKind.Reset
            ∙ ap (steps_from board m 0) z,
      )
  left-stands (suc k) h =
      let l : k < total board m RunKind.Reset = omega arith in
      let q : next_at k ≡ Some (step_at board m k) = rw (lt-ltb k (total board m RunKind.Reset) l) in
      let t = left-stands k (omega arith) in
      let s : stands_next board m RunKind.Reset (Some (step_at board m k)) ≡ true =
      ap (stands_next board m RunKind.Reset) (sym q) ∙ t.0 in
      let j : k + 1 ≡ suc k = omega arith in
      let f : next_at (suc k) ≡ follow_of board m RunKind.Reset (step_at board m k) =
      sym (follow-at board m long some RunKind.Reset k l ∙ ap next_at j) in
      let d = steps-first board m k (total board m RunKind.Reset) (step_at board m k)
      (steps_left board m RunKind.Reset (follow_of board m RunKind.Reset (step_at board m k)))
      (sym (walk-next board m long RunKind.Reset (step_at board m k) s some)
      ∙ ap (steps_left board m RunKind.Reset) (sym q) ∙ t.1) in (
        ap (stands_next board m RunKind.Reset) f
            ∙ walk-stands board m long RunKind.Reset (step_at board m k) s some,
        ap (steps_left board m RunKind.Reset) f ∙ d.2
            ∙ ap (λ (i : ℕ). steps_from board m i (total board m RunKind.Reset - i)) j,
      )

module _ (board : ℕ) (image m : List ℕ) (l : Listing) (h : Listed board image m l) where
  pub listed-stands : stands_next board m RunKind.Reset l.next ≡ true
  listed-stands =
      ap (stands_next board m RunKind.Reset) (listed-left-is board image m l h)
      ∙ (left-stands board m h.file.long h.file.some l.listed h.within).0

  pub listed-steps : steps_left board m RunKind.Reset l.next
      ≡ steps_from board m l.listed (l.total - l.listed)
  listed-steps =
      ap (steps_left board m RunKind.Reset) (listed-left-is board image m l h)
      ∙ (left-stands board m h.file.long h.file.some l.listed h.within).1
      ∙ ap (λ (n : ℕ). steps_from board m l.listed (n - l.listed)) (sym (listed-total board image m l h))

-- steps that are those from the k-th on, of whichever map, show the listing after k packets
module _ (board : ℕ) (m : List ℕ) (k n : ℕ) (all : n ≡ total board m RunKind.Reset) (b : ℕ) (w : List ℕ)
    (long : length w ≡ map_bytes b) (some : 0 < named_count b w) (kind : RunKind) where
  steps-next : (f : Option Step) → stands_next b w kind f ≡ true
      → steps_left b w kind f ≡ steps_from board m k (n - k) → f ≡ following_at board m RunKind.Reset k
  steps-next (Some s) h e =
      let d = steps-first board m k n s (steps_left b w kind (follow_of b w kind s))
      (sym (walk-next b w long kind s h some) ∙ e) in
      let l : k < total board m RunKind.Reset = omega (arith, d.0) in
      rw (lt-ltb k (total board m RunKind.Reset) l) (ap Some d.1)
  steps-next None h e =
      let l : total board m RunKind.Reset ≤ k = omega (arith, steps-end board m k n e) in
      rw (le-ltb k (total board m RunKind.Reset) l)

  pub steps-listing : (f : Option Step) → stands_next b w kind f ≡ true
      → steps_left b w kind f ≡ steps_from board m k (n - k)
      → record { next = f; listed = k; total = n } ≡ listing_at board m k
  steps-listing f h e =
      let q = steps-next f h e in
      λ i. record { next = q i; listed = k; total = all i }

-- ---- sheets

module _ (room n : ℕ) where
  pub sheet-end : sheet_of room n [] ≡ sheet [] n
  unfolding sheet_of
  sheet-end = refl

  pub sheet-full : (ps : List (List ℕ)) → room < longest_line → sheet_of room n ps ≡ sheet [] n
  unfolding sheet_of
  sheet-full [] h = refl
  sheet-full (p ∷ ps) h = rw (lt-ltb room longest_line h)

  pub sheet-line : (p : List ℕ) (ps : List (List ℕ)) → longest_line ≤ room
      → sheet_of room n (p ∷ ps)
      ≡ followed_by (step_line (n + 1) p) (sheet_of (room - length (step_line (n + 1) p)) (n + 1) ps)
  unfolding sheet_of
  sheet-line p ps h = rw (le-ltb room longest_line h)

-- a sheet lists packets, at least one where there is room, and no more than are left
pub sheet-from : (room n : ℕ) (ps : List (List ℕ)) → n ≤ (sheet_of room n ps).listed
unfolding sheet_of
sheet-from room n [] = omega arith
sheet-from room n (p ∷ ps) =
    decide (nat_lt room longest_line)
    (λ t. rw t (omega arith))
    (λ t. rw t (omega (arith, sheet-from (room - length (step_line (n + 1) p)) (n + 1) ps)))

pub sheet-moves : (room n : ℕ) (ps : List (List ℕ)) → longest_line ≤ room → 0 < length ps
    → n < (sheet_of room n ps).listed
sheet-moves room n [] h l = absurd (omega arith)
sheet-moves room n (p ∷ ps) h l =
    rw (sheet-line room n p ps h) (omega (arith, sheet-from (room - length (step_line (n + 1) p)) (n + 1) ps))

pub sheet-within : (room n : ℕ) (ps : List (List ℕ)) → (sheet_of room n ps).listed ≤ n + length ps
unfolding sheet_of
sheet-within room n [] = omega arith
sheet-within room n (p ∷ ps) =
    decide (nat_lt room longest_line)
    (λ t. rw t (omega arith))
    (λ t. rw t (omega (arith, sheet-within (room - length (step_line (n + 1) p)) (n + 1) ps)))

-- of a file's packets fewer are left after a sheet
pub sheet-fewer : (board : ℕ) (image m : List ℕ) (room n k x y : ℕ) → n ≡ total board m RunKind.Reset
    → longest_line ≤ room → k < n
    → x ≡ (sheet_of room k (drop k (plan board image m RunKind.Reset))).listed → y ≡ n → y - x < n - k
sheet-fewer board image m room n k x y all r h e f =
    let rest : List (List ℕ) = drop k (plan board image m RunKind.Reset) in
    let some : 0 < length rest = omega (
      arith,
      length-drop k (plan board image m RunKind.Reset),
      plan-length board image m RunKind.Reset,
    ) in
    omega (arith, sheet-moves room k rest r some)

-- sheets one after another are the plan's lines: each is followed by the lines of the packets after it
pub sheet-text : (room n : ℕ) (ps : List (List ℕ))
    → step_lines n ps
    ≡ (sheet_of room n ps).text ++ step_lines (sheet_of room n ps).listed
    (drop ((sheet_of room n ps).listed - n) ps)
unfolding sheet_of step_lines
sheet-text room n [] = sym (ap (step_lines n) (drop-nil (n - n)))
sheet-text room n (p ∷ ps) =
    let z : n - n ≡ 0 = omega arith in
    decide (nat_lt room longest_line)
    (λ t. rw (t, z))
    (λ t. let g : Sheet = sheet_of (room - length (step_line (n + 1) p)) (n + 1) ps in
    let k : g.listed - n ≡ suc (g.listed - (n + 1)) = omega
    (arith, sheet-from (room - length (step_line (n + 1) p)) (n + 1) ps) in
    rw (t, k, append_assoc)
    (ap (λ (s : List ℕ). step_line (n + 1) p ++ s)
    (sheet-text (room - length (step_line (n + 1) p)) (n + 1) ps)))

sheets-text : (k room n : ℕ) (ps : List (List ℕ)) → longest_line ≤ room → length ps ≤ k
    → sheets k room n ps ≡ step_lines n ps
unfolding sheets step_lines
sheets-text zero room n [] h l = refl
sheets-text zero room n (p ∷ ps) h l = absurd (omega arith)
sheets-text (suc k) room n ps h l =
    let g : Sheet = sheet_of room n ps in
    let f : length (drop (g.listed - n) ps) ≤ k = fewer ps l in
    ap (λ (s : List ℕ). g.text ++ s) (sheets-text k room g.listed (drop (g.listed - n) ps) h f)
    ∙ sym (sheet-text room n ps)
  where
    fewer : (ps : List (List ℕ)) → length ps ≤ suc k → length (drop ((sheet_of room n ps).listed - n) ps) ≤ k
    fewer [] l = rw drop-nil (omega arith)
    fewer (p ∷ ps) l =
        let m = sheet-moves room n (p ∷ ps) h (omega arith) in
        omega (arith, length-drop ((sheet_of room n (p ∷ ps)).listed - n) (p ∷ ps))

-- head line, sheets and total line are the plan's text
pub plan-sheets : (board : ℕ) (image m : List ℕ) (room : ℕ) → longest_line ≤ room
    → head_line ++
    (sheets (total board m RunKind.Reset) room 0 (plan board image m RunKind.Reset)
    ++ total_line (total board m RunKind.Reset))
    ≡ plan_text board image m
unfolding plan_text
plan-sheets board image m room h =
    ap (λ (s : List ℕ). head_line ++ (s ++ total_line (total board m RunKind.Reset)))
    (sheets-text (total board m RunKind.Reset) room 0 (plan board image m RunKind.Reset) h
    (omega (arith, plan-length board image m RunKind.Reset)))

-- ---- a listing goes on

module _ (board : ℕ) (image m : List ℕ) (l : Listing) (h : Listed board image m l) (room : ℕ) (x : Listing)
    (e : x ≡ listing_at board m
    (sheet_of room l.listed (drop l.listed (plan board image m RunKind.Reset))).listed) where
  abbrev rest : List (List ℕ)
  rest = drop l.listed (plan board image m RunKind.Reset)

  rest-length : l.listed + length rest ≡ total board m RunKind.Reset
  rest-length =
      omega (
        arith,
        length-drop l.listed (plan board image m RunKind.Reset),
        plan-length board image m RunKind.Reset,
        h.within,
      )

  pub sheet-listed : Listed board image m x
  sheet-listed =
      let n : x.listed ≡ (sheet_of room l.listed rest).listed = ap (λ (y : Listing). y.listed) e in
      record {
        file = h.file;
        stands = e ∙ ap (listing_at board m) (sym n);
        within = omega (arith, sheet-within room l.listed rest, rest-length);
      }

  pub sheet-falls : longest_line ≤ room → l.listed < l.total → x.total - x.listed < l.total - l.listed
  sheet-falls r s =
      sheet-fewer board image m room l.total l.listed x.listed x.total (listed-total board image m l h) r s
      (ap (λ (y : Listing). y.listed) e)
      (ap (λ (y : Listing). y.total) e ∙ sym (listed-total board image m l h))

-- what a start that is not refused gives
pub begun-listed : (board : ℕ) (image m : List ℕ) (room : ℕ) (l : Listing)
    → given l ≡ listing_by board m (started board image m room RunKind.Reset) → Listed board image m l
begun-listed board image m room l e = go (started board image m room RunKind.Reset) refl e
  where
    go : (a : Answer Sent) → started board image m room RunKind.Reset ≡ a → given l ≡ listing_by board m a
        → Listed board image m l
    go (refused k) q f = absurd (apart (sym f))
    go (given y) q f =
        let s = begins board image m room (record { session = y.session; len = length y.packet })
        (sym (ap measured q)) in
        let n : l ≡ listing_at board m 0 = given-one f in
        let z : l.listed ≡ 0 = ap (λ (x : Listing). x.listed) n in
        record { file = s.0; stands = n ∙ ap (listing_at board m) (sym z); within = omega (arith, z) }
