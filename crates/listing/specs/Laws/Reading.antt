-- What a text comes to, byte by byte, is what its lines give, however long they are.
use Rattle.std.proofs.lemmas.Bool.{eqb-false}
use Rattle.std.specs.Prelude.{◌≡◌, ℕ, ◌+◌, ◌-◌, ◌%◌, ◌^◌, ◌<◌, ◌≤◌, Bool, true, false, not, List, [], ◌∷◌, ◌++◌, length, take, ◌==◌, ◌≢◌, nat_eq, nat_lt, slice_index, slice_set}
use Rattle.std.proofs.Math.Path.{refl, sym, ap}
use Rattle.std.proofs.Common.{◌∙◌, mod-eq_of_lt, add-one, take-take, get_or-take, arith, eq-eqb, ne_eqb, lt-ltb, le-ltb, eqb-true, ltb-true, ltb-false}
use Rattle.std.proofs.Math.ListN.{length-append, length-take, length-set}
use Rattle.std.proofs.Math.Seq.{take_all, take-length, take-nil, take-suc-set, set_out}
use Rattle.std.proofs.lemmas.List.{take-append-le, get_or_at}
use Rattle.basis.specs.Units.{right_sizes_in}
use Rattle.basis.specs.Laws.Choice.{decide}
use Rattle.basis.specs.Refusals.{Answer, refused, ◌when◌, first}
use Rattle.image.specs.Hex.{Settled, File, file, settled_as, settled, start_in, is_rule_set, record_in, close_of}
use Rattle.image.specs.Record.{record_most, column_of, Pointed, wrong, right, pointed, no_line}
use Rattle.image.specs.declared.hex.Hex.{Hex}
use Rattle.listing.specs.Text.{Blame, stopped, going, at_line, Result, result, line_room, trimmed_of, lines_from, unless_refused, read_from, read_in}
use Rattle.listing.specs.Feed.{Fed, state, text_at, fed_after, next_line, column_in, settled_wholly, record_kept, one_more, with_open, ended_length, fed_byte, byte_in, feed_in, last_in, after_closing, shut_of, fed_closing, ended_of, fed_result, came_to}
use Rattle.listing.specs.Laws.Feed.{byte-ends, byte-kept, more-counted}
use Rattle.listing.specs.declared.text.Text.{Text}

-- ---- of a line that is too long, only its first character and its length count

-- 20, 34, 21 or 22, else 23
abbrev early : Bool → Bool → Bool → Bool → Answer File
early s u e n = first (20 when s ∷ 34 when u ∷ 21 when e ∷ 22 when n ∷ []) (refused 23)

short-column : (n c : ℕ) → column_in n n c ≡ c
short-column n c = decide (c == n) (λ t. rw t (sym (eqb-true c n t))) (λ t. rw t)

module _ (size : ℕ) (h : Hex) (image map : List ℕ) where
  -- by its first character c
  abbrev early_by : ℕ → Answer File
  early_by c =
      early (not (right_sizes_in size (length image) (length map))) (not (is_rule_set h.rules)) h.ended
      (not (c == 0x3A))

  long-record : (l : List ℕ) → record_most < length l
      → record_in size h l image map ≡ early_by (slice_index l 0)
  unfolding first record_in
  long-record l g =
      let some : length l ≡ 0 → ⊥ = λ e. omega arith in
      let least : 11 ≤ length l = omega arith in
      rw (ne_eqb _ _ some, le-ltb _ _ least, lt-ltb _ _ g)

  -- whatever is kept of it
  long-settled : (k l : List ℕ) (s u e n : Bool) → (0 ≢ length k)
      → settled_wholly (length l) (length k) (settled (pointed k (early s u e n)) image map)
      ≡ settled (pointed l (early s u e n)) image map
  unfolding first column_of
  long-settled k l true u e n some = rw (ne_eqb 0 (length k) some)
  long-settled k l false true e n some = rw (ne_eqb 0 (length k) some)
  long-settled k l false false true n some = rw (ne_eqb 0 (length k) some)
  long-settled k l false false false true some = rw (ne_eqb 0 (length k) some)
  long-settled k l false false false false some = rw (eq-eqb (length k) (length k) refl)

  -- of one that is kept whole, the reader's column stands
  short-settled : (n : ℕ) (a : Pointed File) → settled_wholly n n (settled a image map) ≡ settled a image map
  short-settled n (wrong k c) = ap (λ c. settled_as (wrong k c) image map) (short-column n c)
  short-settled n (right f) = refl

  -- so many characters of a line and its length are enough
  kept-settled : (n : ℕ) (l : List ℕ) → line_room ≤ n
      → settled_wholly (length l) (length (take n l))
      (settled (pointed (take n l) (record_in size h (take n l) image map)) image map)
      ≡ settled (pointed l (record_in size h l image map)) image map
  kept-settled n l g =
      decide (nat_lt n (length l))
      (λ t. let k = ltb-true n (length l) t in
      let cut : record_most < length (take n l) = omega (arith, length-take n l) in
      rw (
        long-record (take n l) cut,
        get_or-take n l 0 0 (omega arith),
        long-record l (omega arith),
      )
      (long-settled (take n l) l _ (not (is_rule_set h.rules)) h.ended (not (slice_index l 0 == 0x3A))
      (λ e. omega arith)))
      (λ t. rw (take_all n l (ltb-false n (length l) t))
      (short-settled (length l) (pointed l (record_in size h l image map))))

  -- and so many are in a line buffer with room for them
  recorded : (l line : List ℕ) → line_room ≤ length line → take (length l) line ≡ take (length line) l
      → record_kept size h (length l) line image map
      ≡ settled (pointed l (record_in size h l image map)) image map
  recorded l line room e = rw e (kept-settled (length line) l room)

-- ---- the open line: its length, its last byte, and as much of it as the buffer has room for

-- a line without its 0D is its first characters
trimmed-take : (l : List ℕ) → trimmed_of l ≡ take (length (trimmed_of l)) l
unfolding trimmed_of
trimmed-take l =
    decide (slice_index l (length l - 1) == 0x0D)
    (λ t. let n = length l - 1 in
    let e : length (take n l) ≡ n = omega (arith, length-take n l) in
    rw (t, e))
    (λ t. rw t (sym (take-length l)))

trimmed-most : (l : List ℕ) → length (trimmed_of l) ≤ length l
trimmed-most l = omega (arith, ap length (trimmed-take l), length-take (length (trimmed_of l)) l)

take-swap : (m n : ℕ) (l : List ℕ) → take m (take n l) ≡ take n (take m l)
take-swap m n l =
    decide (nat_lt m n)
    (λ t. let k = ltb-true m n t in
    take-take m n l (omega arith) ∙ sym (take_all n (take m l) (omega (arith, length-take m l))))
    (λ t. let k = ltb-false m n t in
    take_all m (take n l) (omega (arith, length-take n l)) ∙ sym (take-take n m l k))

Held : List ℕ → Text → List ℕ → Type 0
Held l t line =
    (t.len ≡ length l) × (t.last ≡ slice_index l (length l - 1))
    × (take (length l) line ≡ take (length line) l)

module _ (l : List ℕ) (t : Text) (line : List ℕ) (h : Held l t line) where
  held-length : t.len ≡ length l
  unfolding Held
  held-length = h.0

  held-is : take (length l) line ≡ take (length line) l
  unfolding Held
  held-is = h.2

  -- the line that 0A ends: its length, and what is kept of it
  held-ended : ended_length t ≡ length (trimmed_of l)
  unfolding Held ended_length trimmed_of
  held-ended =
      rw (h.0, h.1)
      (decide (slice_index l (length l - 1) == 0x0D)
      (λ z. rw z (omega (arith, length-take (length l - 1) l)))
      (λ z. rw z))

  held-trimmed : take (length (trimmed_of l)) line ≡ take (length line) (trimmed_of l)
  held-trimmed =
      let n = length (trimmed_of l) in
      sym (take-take n (length l) line (trimmed-most l))
      ∙ ap (take n) held-is
      ∙ take-swap n (length line) l
      ∙ ap (take (length line)) (sym (trimmed-take l))

  held-byte : (b : ℕ) → length l + 1 < 2 ^ 64
      → Held (l ++ (b ∷ [])) (with_open t (one_more t.len) b) (slice_set line t.len b)
  unfolding Held
  held-byte b few =
      let n : length (l ++ (b ∷ [])) ≡ length l + 1 = length-append l (b ∷ []) in
      rw (h.0, more-counted (length l) few) (
        sym n,
        sym (get_or_at l b [] 0 (length (l ++ (b ∷ [])) - 1) (omega arith)),
        rw (n, length-set line (length l) b) kept,
      )
    where
      kept : take (length l + 1) (slice_set line (length l) b) ≡ take (length line) (l ++ (b ∷ []))
      kept =
          decide (nat_lt (length l) (length line))
          (λ z. let k = ltb-true (length l) (length line) z in
          rw (add-one, take-suc-set line (length l) b k, h.2, take_all (length line) l (omega arith))
          (sym (take_all (length line) (l ++ (b ∷ [])) (omega (arith, length-append l (b ∷ []))))))
          (λ z. let k = ltb-false (length l) (length line) z in
          rw (set_out line (length l) b k)
          (take_all (length l + 1) line (omega arith)
          ∙ sym (take_all (length l) line k)
          ∙ h.2
          ∙ sym (take-append-le (length line) l (b ∷ []) k)))

held_none : (n : ℕ) (g : Hex) (line : List ℕ) → Held [] (text_at n g) line
unfolding Held
held_none n g line = (refl, refl, sym (take-nil (length line)))

-- ---- whole texts

verdict-shut : (t : Text) (a : Pointed Hex) → ended_of (after_closing t a) ≡ at_line 0 (λ h. tt) a
verdict-shut t (wrong k c) = refl
verdict-shut t (right h) = refl

module _ (size : ℕ) where
  -- a refusal stays
  pub feed-stopped : (x : Blame) (line image map text : List ℕ)
      → feed_in size (state (stopped x) line image map) text ≡ state (stopped x) line image map
  unfolding feed_in
  feed-stopped x line image map [] = refl
  feed-stopped x line image map (b ∷ text) = feed-stopped x line image map text

  -- what comes after line n, where the lines that follow give g
  went : (n : ℕ) (line image map text : List ℕ) (a : Pointed File) (g : File → Result)
      → ((f : File) → came_to size (state (going (text_at n f.reader)) line f.image f.map) text ≡ g f)
      → came_to size (fed_after n (settled a image map) line) text ≡ unless_refused n image map a g
  went n line image map text (wrong k c) g ih =
      rw (feed-stopped (record { line = n; number = k; column = c }) line image map text)
  went n line image map text (right f) g ih = ih f

  module _ (line : List ℕ) (room : line_room ≤ length line) where
    -- the end: the open line is the last one, and nothing is none
    ends : (l : List ℕ) (t : Text) (image map : List ℕ) → Held l t line → next_line t ≡ t.lines + 1
        → came_to size (state (going t) line image map) []
        ≡ read_from size t.lines (lines_from l []) (file t.hex image map)
    unfolding feed_in lines_from read_from last_in shut_of
    ends l t image map h e =
        let long = held-length l t line h in
        decide (length l == 0)
        (λ z. let n : t.len ≡ 0 = long ∙ eqb-true (length l) 0 z in
        rw (z, eq-eqb t.len 0 n)
        (ap (λ v. result v image map) (verdict-shut t (pointed no_line (close_of t.hex)))))
        (λ z. let n : t.len ≡ 0 → ⊥ = λ q. eqb-false (length l) 0 z (sym long ∙ q) in
        rw (z, ne_eqb t.len 0 n, long, e)
        (ap (λ (o : Settled). fed_result (fed_closing (fed_after (t.lines + 1) o line)))
        (recorded size t.hex image map l line room (held-is l t line h))
        ∙ last (t.lines + 1) (pointed l (record_in size t.hex l image map))))
      where
        last : (n : ℕ) (a : Pointed File)
            → fed_result (fed_closing (fed_after n (settled a image map) line))
            ≡ unless_refused n image map a (read_from size n [])
        last n (wrong k c) = refl
        last n (right f) =
            ap (λ v. result v f.image f.map)
            (verdict-shut (text_at n f.reader) (pointed no_line (close_of f.reader)))

  numbered : (n k : ℕ) → n + k + 1 < 2 ^ 64 → (n + 1) % 2 ^ 64 ≡ n + 1
  numbered n k l = mod-eq_of_lt (omega arith)

  -- one byte more, with the lines that follow
  module _ (l text : List ℕ) (b : ℕ) where
    lines_end : nat_eq b 0x0A ≡ true → lines_from l (b ∷ text) ≡ trimmed_of l ∷ lines_from [] text
    unfolding lines_from
    lines_end z = rw z

    lines-on : nat_eq b 0x0A ≡ false → lines_from l (b ∷ text) ≡ lines_from (l ++ (b ∷ [])) text
    unfolding lines_from
    lines-on z = rw z

  fed-on : (s : Fed) (b : ℕ) (text : List ℕ)
      → came_to size s (b ∷ text) ≡ came_to size (byte_in size s b) text
  unfolding feed_in
  fed-on s b text = refl

  read-on : (n : ℕ) (l : List ℕ) (ls : List (List ℕ)) (f : File)
      → read_from size n (l ∷ ls) f
      ≡ unless_refused (n + 1) f.image f.map
      (pointed l (record_in size f.reader l f.image f.map)) (read_from size (n + 1) ls)
  unfolding read_from
  read-on n l ls f = refl

  -- 0A: the open line is the next record
  line_taken : (l : List ℕ) (t : Text) (line image map : List ℕ) → line_room ≤ length line → Held l t line
      → next_line t ≡ t.lines + 1 → (b : ℕ) → b ≡ 0x0A
      → fed_byte size t b line image map
      ≡ fed_after (t.lines + 1)
      (settled (pointed (trimmed_of l) (record_in size t.hex (trimmed_of l) image map)) image map) line
  line_taken l t line image map room h next b e =
      byte-ends size t b line image map e
      ∙ rw (next, held-ended l t line h)
      (ap (λ o. fed_after (t.lines + 1) o line)
      (recorded size t.hex image map (trimmed_of l) line room (held-trimmed l t line h)))

  -- from any state on: the open line and what comes, as lines
  reads : (text l line image map : List ℕ) (t : Text) → line_room ≤ length line → Held l t line
      → t.lines + length text + 1 < 2 ^ 64
      → length l + length text + 1 < 2 ^ 64
      → came_to size (state (going t) line image map) text
      ≡ read_from size t.lines (lines_from l text) (file t.hex image map)
  reads [] l line image map t room h few short =
      ends line room l t image map h (numbered t.lines 0 (omega arith))
  reads (b ∷ text) l line image map t room h few short =
      let next : next_line t ≡ t.lines + 1 = numbered t.lines (length text) (omega arith) in
      let f : File = file t.hex image map in
      let by_lines : List (List ℕ) → Result = λ ls. read_from size t.lines ls f in
      let on : Fed → Result = λ s. came_to size s text in
      fed-on (state (going t) line image map) b text
      ∙ decide (b == 0x0A)
      (λ z. ap on (line_taken l t line image map room h next b (eqb-true b 0x0A z))
      ∙ went (t.lines + 1) line image map text
      (pointed (trimmed_of l) (record_in size t.hex (trimmed_of l) image map))
      (read_from size (t.lines + 1) (lines_from [] text))
      (λ g. reads text [] line g.image g.map (text_at (t.lines + 1) g.reader) room
      (held_none (t.lines + 1) g.reader line) (omega arith) (omega arith))
      ∙ sym (ap by_lines (lines_end l text b z) ∙ read-on t.lines (trimmed_of l) (lines_from [] text) f))
      (λ z. let u = with_open t (one_more t.len) b in
      ap on (byte-kept size t b line image map (eqb-false b 0x0A z))
      ∙ reads text (l ++ (b ∷ [])) (slice_set line t.len b) image map u
      (simp length-set room) (held-byte l t line h b (omega arith)) (omega arith)
      (omega (arith, length-append l (b ∷ [])))
      ∙ sym (ap by_lines (lines-on l text b z)))

  -- from the start on, however the text was cut: what the paper says of its lines, with the column
  pub text-reads : (text line image map : List ℕ) → line_room ≤ length line → length text + 1 < 2 ^ 64
      → came_to size (fed_after 0 (settled (pointed no_line (start_in size 1 image map)) image map) line) text
      ≡ read_in size text image map
  unfolding read_in
  text-reads text line image map room few =
      went 0 line image map text (pointed no_line (start_in size 1 image map))
      (read_from size 0 (lines_from [] text))
      (λ f. reads text [] line f.image f.map (text_at 0 f.reader) room
      (held_none 0 f.reader line) (omega arith) (omega arith))
