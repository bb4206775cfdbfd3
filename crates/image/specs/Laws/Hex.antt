-- Laws of the reader: what the checks of a record tell, and how the cuts make up the one table.
use Rattle.std.specs.Prelude.{◌≡◌, ℕ, ◌+◌, ◌*◌, ◌/◌, ◌%◌, ◌<◌, ◌≤◌, Bool, true, false, not, List, [], ◌∷◌, length, take, drop, ◌==◌, ◌≢◌, nat_eq, nat_lt, slice_index}
use Rattle.std.proofs.Math.Path.{refl, ap}
use Rattle.std.proofs.Common.{sym, ◌∙◌, arith, length-drop, take_at, eq-eqb, ne_eqb, le-ltb, eqb-true, ltb-false}
use Rattle.std.proofs.lemmas.Bool.{eqb-false, not-false}
use Rattle.basis.specs.Units.{right_sizes_in}
use Rattle.basis.specs.Choice.{pick, either}
use Rattle.basis.specs.Refusals.{given, first, and_then}
use Rattle.basis.specs.Laws.Refusals.{given-one, passed, through, first_then}
use Rattle.basis.specs.Lists.{Bytes, copy_of}
use Rattle.basis.specs.Laws.Lists.{copy-overlay}
use Rattle.basis.specs.Sums.{plain_sum, sum_of}
use Rattle.image.specs.Digits.{digit_of, digits_before, first_bad, decoded}
use Rattle.image.specs.Writer.{letter_of, spelt, line}
use Rattle.image.specs.Laws.Writer.{length-spelt, spelt-digits, spelt-bytes}
use Rattle.basis.specs.Laws.Choice.{decide, pick_second, both-no, either-none}
use Rattle.image.specs.Record.{count, kind, address, payload, record_least, record_most, no_colon, length_wrong, not_digits, count_wrong, is_data, kind_wrong, is_start, count_for, shape_wrong, character_rows, byte_rows, shape_rows, characters_of, decoded_bytes, framing_of, shape_of}
use Rattle.image.specs.Hex.{File, hex, file, is_rule_set, effect, place, fed, place_rows, past_board, named_before, placed, other_of, record_in, apply_in, data_in}
use Rattle.image.specs.Laws.Places.{past-run, named-run, placed-run}
use Rattle.runs.specs.Map.{any_named, name_all_of}
use Rattle.image.specs.declared.hex.Hex.{Hex}

-- BB as the type has it
pub shape-count : (b : List ℕ) → shape_of b ≡ given tt → (kind b ≢ 0) → count b ≡ count_for (kind b)
unfolding shape_of
shape-count b e n0 =
    let counted = nat_eq (count b) (count_for (kind b)) in
    let p = (passed 28 (shape_wrong b) _ _ (passed 27 (kind_wrong b) _ _ e).1).0 in
    let q = either-none (not counted) (not (address b == 0)) (simp (ne_eqb _ _ n0) at p) in
    eqb-true _ _ (not-false counted q.0)

-- a record that is taken has done what it does
pub record-did : (size : ℕ) (h : Hex) (text image map : List ℕ) (f : File)
    → record_in size h text image map ≡ given f
    → f ≡ effect h (decoded (drop 1 text)) image map
unfolding record_in
record-did size h text image map f e =
    let did = effect h (decoded (drop 1 text)) image map in
    given-one (sym e ∙ through _ did (given did) e)

-- the rule set stays with the reader, whatever record is taken
pub set-stays : (size : ℕ) (h : Hex) (text image map : List ℕ) (f : File)
    → record_in size h text image map ≡ given f
    → f.reader.rules ≡ h.rules
set-stays size h text image map f e =
    ap (λ (g : File). g.reader.rules) (record-did size h text image map f e) ∙ stays (decoded (drop 1 text))
  where
    other : (b : List ℕ) → (other_of h b).rules ≡ h.rules
    other b =
        decide (kind b == 1) (λ e. rw e)
        (λ e. decide (kind b == 2) (λ t. rw (e, t))
        (λ t. decide (kind b == 4) (λ q. rw (e, t, q)) (λ q. rw (e, t, q))))

    stays : (b : List ℕ) → (effect h b image map).reader.rules ≡ h.rules
    stays b = decide (is_data b) (λ e. rw e) (λ e. rw e (other b))

-- a start record, where it is taken, leaves reader, image and map as they stood
pub start-ignored : (size : ℕ) (h : Hex) (text image map : List ℕ) (f : File)
    → is_start (kind (decoded (drop 1 text))) ≡ true
    → record_in size h text image map ≡ given f
    → f ≡ file h image map
start-ignored size h text image map f s e =
    record-did size h text image map f e ∙ ignored (decoded (drop 1 text)) s
  where
    ignored : (b : List ℕ) → is_start (kind b) ≡ true → effect h b image map ≡ file h image map
    ignored b s =
        decide (kind b == 3) (λ t. rw (eqb-true (kind b) 3 t) refl)
        (λ t. rw (eqb-true (kind b) 5 (rw t at s)) refl)

-- BB as the length says
pub framing-count : (n : ℕ) (b : List ℕ) → framing_of n b ≡ given tt → n ≡ record_least + 2 * count b
unfolding framing_of
framing-count n b e =
    eqb-true _ _ (not-false (n == record_least + 2 * count b) (passed 25 (count_wrong n b) _ _ e).0)

-- a length that a record may have: neither too short nor too long, and odd
pub record Long (n : ℕ) : Type 0 where
  pub least : record_least ≤ n
  pub most : n ≤ record_most
  pub odd : n % 2 ≡ 1

pub characters-length : (line : List ℕ) → characters_of line ≡ given tt → Long (length line)
unfolding characters_of
characters-length line e =
    let n = length line in
    let w = (passed 23 (length_wrong line) _ _ (passed 22 (no_colon line) _ _ e).1).0 in
    let p = either-none (nat_lt n record_least) (either (nat_lt record_most n) (n % 2 == 0)) w in
    let q = either-none (nat_lt record_most n) (n % 2 == 0) p.1 in
    let z = eqb-false (n % 2) 0 q.1 in
    record { least = ltb-false _ _ p.0; most = ltb-false _ _ q.0; odd = one (n % 2) z (omega arith) }
  where
    one : (x : ℕ) → (x ≢ 0) → x < 2 → x ≡ 1
    one x z l = omega arith

-- no more digits than characters
digits-most : (s : List ℕ) → digits_before s ≤ length s
unfolding digits_before
digits-most [] = omega arith
digits-most (c ∷ s) =
    decide (nat_lt (digit_of c) 16) (λ t. rw t (omega (arith, digits-most s))) (λ t. rw t (omega arith))

-- digits only: the first is one, and so are the others
digits-only : (c : ℕ) (s : List ℕ)
    → digits_before (c ∷ s) ≡ length (c ∷ s)
    → (nat_lt (digit_of c) 16 ≡ true) × (digits_before s ≡ length s)
unfolding digits_before
digits-only c s e =
    decide (nat_lt (digit_of c) 16)
    (λ t. let f : 1 + digits_before s ≡ length (c ∷ s) = rw t at e in (t, omega arith))
    (λ t. let f : 0 ≡ length (c ∷ s) = rw t at e in absurd (omega arith))

-- and each two are a byte
decoded-length : (s : List ℕ) → digits_before s ≡ length s → length (decoded s) ≡ length s / 2
unfolding decoded
decoded-length [] e = refl
decoded-length (c ∷ []) e = refl
decoded-length (c ∷ d ∷ s) e =
    let p = digits-only c (d ∷ s) e in
    let q = digits-only d s p.1 in
    rw (p.0, q.0) (omega (arith, decoded-length s q.1))

-- where the characters pass, the record's bytes stand at the front
pub characters-bytes : (line old : List ℕ) → characters_of line ≡ given tt → length line / 2 ≤ length old
    → take (length line / 2) (copy_of old 0 (decoded_bytes line)) ≡ decoded (drop 1 line)
unfolding characters_of
characters-bytes line old e room =
    let p = passed 22 (no_colon line) _ _ e in
    let q = passed 23 (length_wrong line) _ _ p.1 in
    let most = ltb-false (first_bad line) (length line) (passed 24 (not_digits line) _ _ q.1).0 in
    let d : digits_before (drop 1 line) ≡ length (drop 1 line) =
    omega (arith, digits-most (drop 1 line), length-drop 1 line, most) in
    let b = decoded (drop 1 line) in
    let n : length b ≡ length line / 2 =
    omega (arith, decoded-length (drop 1 line) d, length-drop 1 line, (characters-length line e).odd) in
    rw (p.0, q.0, copy-overlay [] old b 0 refl (omega arith)) (take_at b (drop (length b) old) _ n)

module _ (size : ℕ) (h : Hex) (image map : List ℕ) where
  -- the table after 20, 34 and 21: the characters, then the bytes
  pub record-cut : (line : List ℕ)
      → right_sizes_in size (length image) (length map) ≡ true
      → is_rule_set h.rules ≡ true
      → h.ended ≡ false
      → record_in size h line image map
      ≡ and_then (characters_of line) (apply_in size h (length line) (decoded (drop 1 line)) image map)
  unfolding first record_in characters_of apply_in
  record-cut line s k e =
      pick_second (not (right_sizes_in size (length image) (length map))) _ _ (ap not s)
      ∙ pick_second (not (is_rule_set h.rules)) _ _ (ap not k)
      ∙ pick_second h.ended _ _ e
      ∙ first_then (character_rows line) (apply_in size h (length line) (decoded (drop 1 line)) image map)

  -- the table from 25 on: framing, type and shape, and then what the type asks
  pub apply-cut : (n : ℕ) (b : List ℕ)
      → apply_in size h n b image map
      ≡ and_then (framing_of n b)
      (and_then (shape_of b)
      (pick (is_data b) (data_in size h b image map) (given (file (other_of h b) image map))))
  unfolding first apply_in framing_of shape_of data_in
  apply-cut n b =
      first_then (byte_rows n b) _
      ∙ ap (and_then (framing_of n b))
      (first_then (shape_rows b) _ ∙ ap (and_then (shape_of b)) (by (is_data b)))
    where
      by : (t : Bool)
          → first (pick t (place_rows size h b map) [])
          (given (pick t (placed h b image map) (file (other_of h b) image map)))
          ≡ pick t (data_in size h b image map) (given (file (other_of h b) image map))
      by true = refl
      by false = refl

-- ---- what is spelt is read

-- a line that passes 22, 23 and 24
characters-right : (line : List ℕ)
    → slice_index line 0 ≡ 0x3A
    → Long (length line)
    → digits_before (drop 1 line) ≡ length (drop 1 line)
    → characters_of line ≡ given tt
unfolding first characters_of
characters-right line c l d =
    let some : length line ≡ 0 → ⊥ = λ e. omega (arith, l.least) in
    let all : length line ≤ first_bad line = omega (arith, d, length-drop 1 line) in
    simp (
      ne_eqb _ _ some,
      eq-eqb _ _ c,
      le-ltb _ _ l.least,
      le-ltb _ _ l.most,
      l.odd,
      le-ltb _ _ all,
    )

module _ (b : List ℕ) (bytes : Bytes b) (long : length b ≡ 5 + count b) where
  abbrev spelling : List ℕ
  spelling = 0x3A ∷ spelt b

  spelling-length : length spelling ≡ record_least + 2 * count b
  spelling-length = omega (arith, length-spelt b)

  spelling-characters : characters_of spelling ≡ given tt
  spelling-characters =
      let few : count b < 256 = bytes 0 in
      let n : length spelling ≡ record_least + 2 * count b = spelling-length in
      characters-right spelling refl (record { least = omega arith; most = omega arith; odd = omega arith })
      (spelt-digits b bytes)

  spelling-framing : sum_of b ≡ 0 → framing_of (length spelling) b ≡ given tt
  unfolding first framing_of
  spelling-framing e = simp (eq-eqb _ _ spelling-length, e)

shape-data : (b : List ℕ) → kind b ≡ 0 → shape_of b ≡ given tt
unfolding first shape_of
shape-data b e = simp e

data-placed : (size : ℕ) (h : Hex) (b image map : List ℕ)
    → past_board size h b ≡ false
    → named_before h b map ≡ false
    → data_in size h b image map ≡ given (placed h b image map)
unfolding first data_in
data-placed size h b image map l e = rw (l, e)

end_read : (size : ℕ) (h : Hex) (image map : List ℕ)
    → and_then (characters_of (line 0 1 []))
    (apply_in size h (length (line 0 1 [])) (decoded (drop 1 (line 0 1 []))) image map)
    ≡ given (file (hex h.rules h.linear h.segment h.segmented true h.taken) image map)
unfolding first characters_of apply_in digit_of digits_before decoded sum_of plain_sum letter_of spelt
end_read size h image map = refl

module _ (size : ℕ) (h : Hex) (image map : List ℕ)
    (right : right_sizes_in size (length image) (length map) ≡ true) (known : is_rule_set h.rules ≡ true)
    (going : h.ended ≡ false) where
  -- a data record that finds its places in a row from a on, free and on the board
  pub data-taken : (b : List ℕ) (a : ℕ)
      → Bytes b
      → length b ≡ 5 + count b
      → sum_of b ≡ 0
      → kind b ≡ 0
      → ((i : ℕ) → place h b i ≡ a + i)
      → a + count b ≤ size
      → any_named map a (count b) ≡ false
      → record_in size h (0x3A ∷ spelt b) image map
      ≡ given (file (fed h (count b)) (copy_of image a (payload b)) (name_all_of map a (count b)))
  data-taken b a bytes long sum zero run fits free =
      record-cut size h image map (0x3A ∷ spelt b) right known going
      ∙ rw (
        spelling-characters b bytes long,
        spelt-bytes b bytes,
        apply-cut size h image map (length (0x3A ∷ spelt b)) b,
        spelling-framing b bytes long sum,
        shape-data b zero,
        eq-eqb _ _ zero,
      )
      (data-placed size h b image map
      (past-run h b a run size ∙ rw (le-ltb size (a + count b) fits) (both-no (nat_lt 0 (count b))))
      (named-run h b a run map ∙ free)
      ∙ ap given (placed-run h b a run image map))

  -- a record of another type that has its shape
  pub other-taken : (b : List ℕ)
      → Bytes b
      → length b ≡ 5 + count b
      → sum_of b ≡ 0
      → shape_of b ≡ given tt
      → is_data b ≡ false
      → record_in size h (0x3A ∷ spelt b) image map ≡ given (file (other_of h b) image map)
  other-taken b bytes long sum shape other =
      record-cut size h image map (0x3A ∷ spelt b) right known going
      ∙ rw (
        spelling-characters b bytes long,
        spelt-bytes b bytes,
        apply-cut size h image map (length (0x3A ∷ spelt b)) b,
        spelling-framing b bytes long sum,
        shape,
        other,
      )

  -- the end record
  pub end-taken : record_in size h (line 0 1 []) image map
      ≡ given (file (hex h.rules h.linear h.segment h.segmented true h.taken) image map)
  end-taken = record-cut size h image map (line 0 1 []) right known going ∙ end_read size h image map
