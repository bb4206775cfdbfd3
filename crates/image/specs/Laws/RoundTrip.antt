-- A file with a named byte, written and read back, gives the same map and the same named bytes.
use Rattle.std.specs.Prelude.{◌≡◌, ℕ, zero, suc, ◌+◌, ◌-◌, ◌*◌, ◌/◌, ◌%◌, ◌^◌, ◌<◌, ◌≤◌, true, false, List, [], ◌∷◌, ◌++◌, length, take, drop, ◌==◌, nat_lt, slice_index}
use Rattle.std.proofs.Math.Path.{refl}
use Rattle.std.proofs.Common.{sym, ap, ◌∙◌, arith, lit<, length-append, length-drop, take_at, length-take-le, get_or-take, get_or-drop, lt-ltb, le-ltb, ltb-true, ltb-false}
use Rattle.std.proofs.lemmas.List.{length-replicate}
use Rattle.basis.specs.Board.{pages_of}
use Rattle.basis.specs.Laws.Boards.{pages-few}
use Rattle.basis.specs.Laws.Units.{sizes-right, right-sizes}
use Rattle.basis.specs.Units.{start_of, right_sizes_in}
use Rattle.basis.specs.declared.board.Board.{Board}
use Rattle.basis.specs.Lists.{Bytes, copy_of, new}
use Rattle.basis.specs.Refusals.{given, first}
use Rattle.basis.specs.Sums.{checksum_of}
use Rattle.basis.specs.Laws.Choice.{decide, true-false, any_none}
use Rattle.basis.specs.Laws.Lists.{length-stored, stored-below, stored_at, bytes_drop, bytes_take, zero-at}
use Rattle.basis.specs.Laws.Sums.{sum-closed}
use Rattle.runs.specs.Map.{named, name_all_of}
use Rattle.runs.specs.Laws.Map.{named_past, named_none, named-only, name-all-length, name-all-bytes, name-all-below, name-all-above, name-all-in}
use Rattle.runs.specs.Laws.Runs.{next-ge, next-skip}
use Rattle.image.specs.Hex.{File, hex, file, is_rule_set, started, fed, place, record_in, close_of}
use Rattle.image.specs.declared.hex.Hex.{Hex}
use Rattle.image.specs.Record.{shape_of}
use Rattle.image.specs.Writer.{content, line, text, step, upper_half, lower_half, upper_bytes, record_part, lowest, step_from}
use Rattle.image.specs.RoundTrip.{unended, lines, records_most, read_lines, Returned}
use Rattle.image.specs.Laws.Hex.{data-taken, other-taken, end-taken}
use Rattle.image.specs.Laws.Records.{run-some, run-few, run-named, step_end, step_run, step-upper, lines-past, left, Reached, reached-start, coming}

-- ---- one record

unended-text : (a kind : ℕ) (s : List ℕ) → unended (text a kind s) ≡ line a kind s
unfolding text
unended-text a kind s =
    take_at (line a kind s) (0x0A ∷ []) (length (line a kind s ++ (0x0A ∷ [])) - 1)
    (omega (arith, length-append (line a kind s) (0x0A ∷ [])))

-- the bytes of a record
abbrev closed : ℕ → ℕ → List ℕ → List ℕ
closed a kind s = content a kind s ++ (checksum_of (content a kind s) ∷ [])

closed-bytes : (a kind : ℕ) (s : List ℕ) → a < 65536 → kind < 256 → length s < 256 → Bytes s
    → Bytes (closed a kind s)
closed-bytes a kind s la lk ls h zero = ls
closed-bytes a kind s la lk ls h (suc zero) = omega arith
closed-bytes a kind s la lk ls h (suc (suc zero)) = omega arith
closed-bytes a kind s la lk ls h (suc (suc (suc zero))) = lk
closed-bytes a kind s la lk ls h (suc (suc (suc (suc k)))) =
    last s (checksum_of (content a kind s)) h (omega arith) k
  where
    last : (s : List ℕ) (x : ℕ) → Bytes s → x < 256 → (k : ℕ) → slice_index (s ++ (x ∷ [])) k < 256
    last [] x h l zero = l
    last [] x h l (suc k) = omega arith
    last (y ∷ s) x h l zero = h 0
    last (y ∷ s) x h l (suc k) = last s x (λ i. h (suc i)) l k

-- a reader whose linear base is that of the upper half, and that no 02 governs, finds the places again
place_at : (h : Hex) (a : ℕ) (s : List ℕ)
    → h.linear ≡ 65536 * upper_half a
    → h.segment ≡ 0
    → h.segmented ≡ false
    → (i : ℕ)
    → place h (closed (lower_half a) 0 s) i ≡ a + i
place_at h a s l g u i =
    decide (h.rules == 1) (λ e. rw e (omega arith)) (λ e. rw (e, u) (omega arith))

-- a 04 record sets the linear base
module _ (size : ℕ) (h : Hex) (image map : List ℕ)
    (right : right_sizes_in size (length image) (length map) ≡ true) (known : is_rule_set h.rules ≡ true)
    (going : h.ended ≡ false) (u : ℕ) (l : u < 65536) where
  upper-bytes : Bytes (upper_bytes u)
  upper-bytes zero = omega arith
  upper-bytes (suc zero) = omega arith
  upper-bytes (suc (suc k)) = omega arith

  upper-shape : shape_of (closed 0 4 (upper_bytes u)) ≡ given tt
  unfolding first shape_of
  upper-shape = refl

  upper-taken : record_in size h (line 0 4 (upper_bytes u)) image map
      ≡ given (file (hex h.rules (65536 * u) h.segment false h.ended h.taken) image map)
  upper-taken =
      let whole : u / 256 * 256 + u % 256 ≡ u = omega arith in
      other-taken size h image map right known going (closed 0 4 (upper_bytes u))
      (closed-bytes 0 4 (upper_bytes u) (lit< tt) (lit< tt) (lit< tt) upper-bytes) refl
      (sum-closed (content 0 4 (upper_bytes u))) upper-shape refl
      ∙ ap (λ (x : ℕ).
      given (file (hex h.rules (65536 * x) h.segment false h.ended h.taken) image map)) whole

module _ (size : ℕ) (image map : List ℕ) where
  lines_step : (a u k b c d v : ℕ) (s : List ℕ) → a ≤ size
      → step_from size image map a u ≡ step (text b c s) d v
      → lines size image map a u (suc k) ≡ line b c s ∷ lines size image map d v k
  unfolding lines
  lines_step a u k b c d v s l e = rw (le-ltb size a l, e, unended-text b c s)

  read_step : (l : List ℕ) (s : List (List ℕ)) (f g : File)
      → record_in size f.reader l f.image f.map ≡ given g
      → read_lines size (l ∷ s) f ≡ read_lines size s g
  unfolding read_lines
  read_step l s f g e = rw e

  read_none : (f : File) → read_lines size [] f ≡ given f
  unfolding read_lines
  read_none f = refl

  -- ---- the reader after the records below an address

  -- all named bytes below a have been read, and nothing else; the linear base is that of the upper half v
  record Upto (a v : ℕ) (f : File) : Type 0 where
    pub known : is_rule_set f.reader.rules ≡ true
    pub linear : f.reader.linear ≡ 65536 * v
    pub segment : f.reader.segment ≡ 0
    pub unsegmented : f.reader.segmented ≡ false
    pub going : f.reader.ended ≡ false
    pub none : f.reader.taken ≡ false → (j : ℕ) → j < a → named map j ≡ false
    pub image_length : length f.image ≡ size
    pub map_length : length f.map ≡ size / 8
    pub map_bytes : Bytes f.map
    pub below : (j : ℕ) → j < a → named f.map j ≡ named map j
    pub above : (j : ℕ) → a ≤ j → named f.map j ≡ false
    pub bytes : (j : ℕ) → j < a → named map j ≡ true → slice_index f.image j ≡ slice_index image j

  -- where nothing is named nothing is missed
  upto_skip : (a b v : ℕ) (f : File) → Upto a v f → a ≤ b
      → ((j : ℕ) → a ≤ j → j < b → named map j ≡ false)
      → Upto b v f
  upto_skip a b v f u l h =
      record {
        known = u.known;
        linear = u.linear;
        segment = u.segment;
        unsegmented = u.unsegmented;
        going = u.going;
        none = λ e j m. by j (u.none e j) (h j) m;
        image_length = u.image_length;
        map_length = u.map_length;
        map_bytes = u.map_bytes;
        below =
            λ j m. decide (nat_lt j a) (λ e. u.below j (ltb-true j a e))
            (λ e. u.above j (ltb-false j a e) ∙ sym (h j (ltb-false j a e) m));
        above = λ j m. u.above j (omega arith);
        bytes =
            λ j m e. decide (nat_lt j a) (λ t. u.bytes j (ltb-true j a t) e)
            (λ t. absurd (true-false (sym e ∙ h j (ltb-false j a t) m)));
      }
    where
      by : (j : ℕ) → (j < a → named map j ≡ false) → (a ≤ j → j < b → named map j ≡ false) → j < b
          → named map j ≡ false
      by j p q m = decide (nat_lt j a) (λ e. p (ltb-true j a e)) (λ e. q (ltb-false j a e) m)

  -- the file after a 04 record
  abbrev raised : ℕ → File → File
  raised v f =
      let h = f.reader in
      file (hex h.rules (65536 * v) h.segment false h.ended h.taken) f.image f.map

  upto-raised : (a u v : ℕ) (f : File) → Upto a u f → Upto a v (raised v f)
  upto-raised a u v f p =
      record {
        known = p.known;
        linear = refl;
        segment = p.segment;
        unsegmented = refl;
        going = p.going;
        none = p.none;
        image_length = p.image_length;
        map_length = p.map_length;
        map_bytes = p.map_bytes;
        below = p.below;
        above = p.above;
        bytes = p.bytes;
      }

  module _ (image_bytes : Bytes image) where
    -- one run more
    module _ (a n : ℕ) (f : File) (u : Upto a (upper_half a) f) (some : 0 < n) (few : n ≤ 16)
        (end : a + n ≤ size) (whole : size % 8 ≡ 0) (run : (j : ℕ) → a ≤ j → j < a + n → named map j ≡ true)
        (il : length image ≡ size) where
      abbrev part : List ℕ
      part = take n (drop a image)

      part_length : length part ≡ n
      part_length = length-take-le n (drop a image) (simp length-drop (omega arith))

      part_at : (k : ℕ) → k < n → slice_index part k ≡ slice_index image (a + k)
      part_at k h = get_or-take n (drop a image) k 0 h ∙ get_or-drop a image k 0

      part_bytes : Bytes part
      part_bytes = bytes_take n (drop a image) (bytes_drop a image image_bytes)

      room : a + n ≤ 8 * length f.map
      room = omega (arith, u.map_length)

      -- the file after it
      abbrev more : File
      more = file (fed f.reader n) (copy_of f.image a part) (name_all_of f.map a n)

      run-read : record_in size f.reader (line (lower_half a) 0 part) f.image f.map ≡ given more
      run-read =
          data-taken size f.reader f.image f.map
          (right-sizes size _ _ u.image_length u.map_length) u.known u.going
          (closed (lower_half a) 0 part) a
          (closed-bytes (lower_half a) 0 part (omega arith) (lit< tt) (omega (arith, part_length)) part_bytes)
          (omega (arith, length-append part (checksum_of (content (lower_half a) 0 part) ∷ [])))
          (sum-closed (content (lower_half a) 0 part))
          refl
          (place_at f.reader a part u.linear u.segment u.unsegmented)
          (omega (arith, part_length))
          (rw part_length (any_none (named f.map) a n (λ j l. u.above (a + j) (omega arith))))
          ∙ rw (
            take_at part (checksum_of (content (lower_half a) 0 part) ∷ []) (length part) refl,
            part_length,
          )

      upto-more : Upto (a + n) (upper_half a) more
      upto-more =
          record {
            known = u.known;
            linear = u.linear;
            segment = u.segment;
            unsegmented = u.unsegmented;
            going = u.going;
            none = λ e j m. absurd (true-false (rw (lt-ltb 0 n some) at e));
            image_length = length-stored new f.image a part ∙ u.image_length;
            map_length = name-all-length f.map a n ∙ u.map_length;
            map_bytes = name-all-bytes f.map a n room u.map_bytes;
            below =
                λ j m. decide (nat_lt j a)
                (λ e. name-all-below f.map a n j room (ltb-true j a e) ∙ u.below j (ltb-true j a e))
                (λ e. name-all-in f.map a n j room (ltb-false j a e) m ∙ sym (run j (ltb-false j a e) m));
            above = λ j m. name-all-above f.map a n j room m ∙ u.above j (omega arith);
            bytes =
                λ j m e. decide (nat_lt j a)
                (λ t. stored-below new f.image a part j (ltb-true j a t) ∙ u.bytes j (ltb-true j a t) e)
                (λ t. copied j (ltb-false j a t) m);
          }
        where
          copied : (j : ℕ) → a ≤ j → j < a + n → slice_index (copy_of f.image a part) j ≡ slice_index image j
          copied j l m =
              let e : a + (j - a) ≡ j = omega arith in
              let k : j - a < n = omega arith in
              rw e at (stored_at new f.image a part (j - a) (omega (arith, part_length))
              (omega (arith, part_length, u.image_length)) ∙ part_at (j - a) k)

    -- ---- the whole file

    module _ (fits : size ≤ 2 ^ 32) (whole : size % 16 ≡ 0) (il : length image ≡ size)
        (ml : length map ≡ size / 8) (map_bytes : Bytes map) (x : ℕ) (nx : named map x ≡ true) where
      module _ (a v k : ℕ) (f : File) (u : Upto a v f) (l : a ≤ size) (h : size ≤ lowest size map a) where
        none_named : (j : ℕ) → a ≤ j → named map j ≡ false
        none_named j m =
            decide (nat_lt j size) (λ e. next-skip (named map) (size - a) a j m (below j (ltb-true j size e)))
            (λ e. named_past map j (past j (ltb-false j size e)))
          where
            below : (j : ℕ) → j < size → j < lowest size map a
            below j m = omega arith

            past : (j : ℕ) → size ≤ j → 8 * length map ≤ j
            past j m = omega arith

        -- there was a named byte, so one was taken
        was-taken : f.reader.taken ≡ true
        was-taken =
            decide f.reader.taken (λ e. e)
            (λ e. absurd
            (true-false
            (sym nx ∙ decide (nat_lt x a) (λ t. u.none e x (ltb-true x a t))
            (λ t. none_named x (ltb-false x a t)))))

        abbrev last : File
        last =
            let h = f.reader in
            file (hex h.rules h.linear h.segment h.segmented true h.taken) f.image f.map

        closed-well : close_of last.reader ≡ given last.reader
        unfolding first close_of
        closed-well = rw (u.known, was-taken)

        at-end : Returned size image map a v (suc k) f
        at-end =
            record {
              result = last;
              read =
                  ap (λ (s : List (List ℕ)). read_lines size s f)
                  (lines_step a v k 0 1 (size + 1) v [] l (step_end size image map a v l h))
                  ∙ read_step (line 0 1 []) (lines size image map (size + 1) v k) f last
                  (end-taken size f.reader f.image f.map
                  (right-sizes size _ _ u.image_length u.map_length) u.known u.going)
                  ∙ ap (λ (s : List (List ℕ)). read_lines size s last) (lines-past size image map whole k v)
                  ∙ read_none last;
              back =
                  record {
                    closes = closed-well;
                    same_map =
                        named-only f.map map (u.map_length ∙ sym ml) u.map_bytes map_bytes
                        (λ j. decide (nat_lt j a) (λ e. u.below j (ltb-true j a e))
                        (λ e. u.above j (ltb-false j a e) ∙ sym (none_named j (ltb-false j a e))));
                    same_bytes =
                        λ j e. decide (nat_lt j a) (λ t. u.bytes j (ltb-true j a t) e)
                        (λ t. absurd (true-false (sym e ∙ none_named j (ltb-false j a t))));
                  };
            }

      -- the record at the lowest named place from a on
      module _ (a v k : ℕ) (f : File) (u : Upto a v f) (l : a ≤ size) (h : lowest size map a < size) where
        abbrev low : ℕ
        low = lowest size map a

        abbrev far : ℕ
        far = record_part map low

        abbrev piece : List ℕ
        piece = take far (drop low image)

        module _ (e : upper_half low ≡ v) where
          upto-low : Upto low (upper_half low) f
          upto-low =
              rw e (upto_skip a low v f u (next-ge (named map) (size - a) a)
              (λ j m p. next-skip (named map) (size - a) a j m p))

          far-end : low + far ≤ size
          far-end = omega (arith, run-few size image map a h)

          abbrev onto : File
          onto = file (fed f.reader far) (copy_of f.image low piece) (name_all_of f.map low far)

          onto-read : record_in size f.reader (line (lower_half low) 0 piece) f.image f.map
              ≡ given onto
          onto-read =
              run-read low far f upto-low (run-some size image map a h)
              (omega (arith, run-few size image map a h)) far-end (omega arith)
              (run-named size image map a h) il

          onto-upto : Upto (low + far) v onto
          onto-upto =
              rw (← e) (upto-more low far f upto-low (run-some size image map a h)
              (omega (arith, run-few size image map a h)) far-end (omega arith)
              (run-named size image map a h) il)

          at-run : Returned size image map (low + far) v k onto → Returned size image map a v (suc k) f
          at-run r =
              record {
                result = r.result;
                read =
                    ap (λ (s : List (List ℕ)). read_lines size s f)
                    (lines_step a v k (lower_half low) 0 (low + far) v piece l
                    (step_run size image map a v l h e))
                    ∙ read_step (line (lower_half low) 0 piece) (lines size image map (low + far) v k) f onto
                    onto-read
                    ∙ r.read;
                back = r.back;
              }

        module _ (n : upper_half low ≡ v → ⊥) where
          abbrev half : ℕ
          half = upper_half low

          at-upper : Returned size image map a half k (raised half f) → Returned size image map a v (suc k) f
          at-upper r =
              record {
                result = r.result;
                read =
                    ap (λ (s : List (List ℕ)). read_lines size s f)
                    (lines_step a v k 0 4 a half (upper_bytes half) l
                    (step-upper size image map a v l h n))
                    ∙ read_step (line 0 4 (upper_bytes half)) (lines size image map a half k) f
                    (raised half f)
                    (upper-taken size f.reader f.image f.map
                    (right-sizes size _ _ u.image_length u.map_length) u.known u.going half
                    (omega arith))
                    ∙ r.read;
                back = r.back;
              }

      from-here : (k a v : ℕ) (f : File) → Upto a v f → Reached size image map a v
          → left size image map a v < k
          → Returned size image map a v k f
      from-here zero a v f u r m = absurd (omega arith)
      from-here (suc k) a v f u r m =
          coming size image map whole a v r
          (λ h. at-end a v k f u r.within h)
          (λ h e s b. at-run a v k f u r.within h e
          (from-here k _ v _ (onto-upto a v k f u r.within h e) s (omega arith)))
          (λ h n s b. at-upper a v k f u r.within h n
          (from-here k a _ _ (upto-raised a v (upper_half (lowest size map a)) f u) s (omega arith)))

      file-returns : (rules : ℕ) → is_rule_set rules ≡ true
          → Returned size image map 0 0 (records_most size) (started size rules)
      file-returns rules k =
          from-here (records_most size) 0 0 _ upto-none (reached-start size image map) (omega arith)
        where
          upto-none : Upto 0 0 (started size rules)
          upto-none =
              record {
                known = k;
                linear = refl;
                segment = refl;
                unsegmented = refl;
                going = refl;
                none = λ e j m. absurd (omega arith);
                image_length = length-replicate size 0xFF;
                map_length = length-replicate (size / 8) 0;
                map_bytes = λ j. rw (zero-at (size / 8) j) (lit< tt);
                below = λ j m. absurd (omega arith);
                above = λ j m. named_none (size / 8) j;
                bytes = λ j m e. absurd (omega arith);
              }

-- Writing a file with a named byte record by record, from address 0 and upper half 0, and reading the records
-- back from a fresh reader under either rule set is accepted throughout, closes, and gives the same map and
-- the same named bytes.
pub round_trip : (size rules : ℕ) (image map : List ℕ)
    → is_rule_set rules ≡ true
    → size ≤ 2 ^ 32
    → size % 16 ≡ 0
    → length image ≡ size
    → length map ≡ size / 8
    → Bytes image
    → Bytes map
    → (x : ℕ)
    → named map x ≡ true
    → Returned size image map 0 0 (records_most size) (started size rules)
round_trip size rules image map known fits whole il ml ib mb x nx =
    file-returns size image map ib fits whole il ml mb x nx rules known

-- So it is for both boards.
pub boards-round-trip : (b : Board) (rules : ℕ) (image map : List ℕ)
    → let size = start_of (pages_of b) in
    is_rule_set rules ≡ true
    → right_sizes_in size (length image) (length map) ≡ true
    → Bytes image
    → Bytes map
    → (x : ℕ)
    → named map x ≡ true
    → Returned size image map 0 0 (records_most size) (started size rules)
boards-round-trip b rules image map known e ib mb x nx =
    let s = sizes-right (start_of (pages_of b)) (length image) (length map) e in
    round_trip (start_of (pages_of b)) rules image map known (omega (arith, pages-few b)) (omega arith) s.0
    s.1 ib mb x nx
