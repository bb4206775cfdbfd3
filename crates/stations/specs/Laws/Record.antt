-- Laws of a station's record: its ranges, what is read and written, and that one goes back to the other.
use Rattle.std.specs.Prelude.{ℕ, zero, suc, ◌+◌, ◌*◌, ◌/◌, ◌%◌, ◌≤◌, ◌<◌, Bool, true, false, not, List, [], ◌∷◌, ◌≡◌, refl, eqb, ltb, leb, length, get_or, drop}
use Rattle.std.proofs.Common.{sym, ap, subst, ◌∙◌, div-add-mod', arith, eq-eqb, ne_eqb, eqb-true, le-ltb, ltb-false, leb-false, drop_of_length-le, drop-cons}
use Rattle.std.proofs.lemmas.Bool.{lt-leb, not-false}
use Rattle.basis.specs.Choice.{both}
use Rattle.basis.specs.Laws.Choice.{decide, either-none, both_true}
use Rattle.basis.specs.Laws.Refusals.{skip, done, passed, given-one}
use Rattle.basis.specs.Lists.{Bytes, pair_at}
use Rattle.basis.specs.Refusals.{given}
use Rattle.image.specs.Hex.{is_rule_set}
use Rattle.stations.specs.Station.{is_version, follows_of, last_page, out_of_range, fields_of, read_of, written_version, size_of, record_bytes, write_of}
use Rattle.stations.specs.declared.station.Station.{Station}

-- ---- ranges

-- every field of a station is in its range
pub record Ranges (s : Station) : Type 0 where
  pub number : s.number < 65536
  pub run : s.run ≤ 2
  pub rules : is_rule_set s.rules ≡ true
  pub last : s.last.0 ≤ last_page
  pub first : s.first.0 ≤ s.last.0

-- where no field is out of range, every field is in its range
pub in-range : (s : Station) → out_of_range s ≡ false → Ranges s
unfolding out_of_range
in-range s e =
    let a = either-none (leb 65536 s.number) _ e in
    let b = either-none (ltb 2 s.run) _ a.1 in
    let c = either-none (not (is_rule_set s.rules)) _ b.1 in
    let d = either-none (ltb last_page s.last.0) _ c.1 in
    record {
      number = leb-false _ _ a.0;
      run = ltb-false _ _ b.0;
      rules = not-false _ c.0;
      last = ltb-false _ _ d.0;
      first = ltb-false _ _ d.1;
    }

-- where every field is in its range, none is out of range
pub ranges_in : (s : Station) → Ranges s → out_of_range s ≡ false
unfolding out_of_range
ranges_in s r =
    rw (
      lt-leb 65536 s.number r.number,
      le-ltb 2 s.run r.run,
      r.rules,
      le-ltb last_page s.last.0 r.last,
      le-ltb s.last.0 s.first.0 r.first,
    )

-- a rule set is 1 or 2
pub rules-most : (n : ℕ) → is_rule_set n ≡ true → n ≤ 2
rules-most n e =
    decide (eqb n 1) (λ t. omega (arith, eqb-true n 1 t)) (λ t. omega (arith, eqb-true n 2 (rw t at e)))

-- ---- reading

-- what follows is at least 6 bytes
pub follows-least : (v : ℕ) → 6 ≤ follows_of v
follows-least v = decide (eqb v 1) (λ t. rw t (omega arith)) (λ t. rw t (omega arith))

-- and at most 7
pub follows-most : (v : ℕ) → follows_of v ≤ 7
follows-most v = decide (eqb v 1) (λ t. rw t (omega arith)) (λ t. rw t (omega arith))

-- bytes that are a record, and the station that they tell
pub record ReadsAs (r : List ℕ) (s : Station) : Type 0 where
  pub fields : s ≡ fields_of r
  pub version : is_version (get_or r 2 0) ≡ true
  pub field : pair_at r 0 ≡ follows_of (get_or r 2 0)
  pub size : length r ≡ 2 + follows_of (get_or r 2 0)
  pub range : out_of_range s ≡ false

-- what is read is a record
pub read-tells : (r : List ℕ) (s : Station) → read_of r ≡ given s → ReadsAs r s
unfolding read_of
read-tells r s e =
    let a = passed 63 _ _ _ e in
    let b = passed 62 _ _ _ a.1 in
    let c = passed 63 _ _ _ b.1 in
    let d = passed 63 _ _ _ c.1 in
    let f = passed 63 _ _ _ d.1 in
    let g : fields_of r ≡ s = given-one (sym (done _) ∙ f.1) in
    let h = eqb-true _ _ (not-false _ c.0) in
    record {
      fields = sym g;
      version = not-false _ b.0;
      field = h;
      size = eqb-true _ _ (not-false _ d.0) ∙ ap (◌+◌ 2) h;
      range = ap out_of_range (sym g) ∙ f.0;
    }

-- a record is read
pub tells-read : (r : List ℕ) (s : Station) → ReadsAs r s → read_of r ≡ given s
unfolding read_of
tells-read r s x =
    skip 63 _ _ _ (le-ltb (length r) 3 (omega (arith, x.size, follows-least (get_or r 2 0))))
    ∙ skip 62 _ _ _ (ap not x.version)
    ∙ skip 63 _ _ _ (ap not (eq-eqb _ _ x.field))
    ∙ skip 63 _ _ _ (ap not (eq-eqb _ _ (x.size ∙ ap (◌+◌ 2) (sym x.field))))
    ∙ skip 63 _ _ _ (ap out_of_range (sym x.fields) ∙ x.range)
    ∙ done _
    ∙ ap given (sym x.fields)

-- a record has 8 or 9 bytes
pub read_length : (r : List ℕ) (s : Station) → read_of r ≡ given s → (8 ≤ length r) × (length r ≤ 9)
read_length r s e =
    let x = read-tells r s e in
    let v = get_or r 2 0 in
    (omega (arith, x.size, follows-least v), omega (arith, x.size, follows-most v))

-- ---- writing

-- a station that is written, and its bytes
pub record WritesAs (room : ℕ) (s : Station) (b : List ℕ) : Type 0 where
  pub fits : size_of s ≤ room
  pub version : is_version s.version ≡ true
  pub range : out_of_range s ≡ false
  pub bytes : b ≡ record_bytes s

-- what is written fits the room, and is the station's record
write-tells : (room : ℕ) (s : Station) (b : List ℕ) → write_of room s ≡ given b → WritesAs room s b
unfolding write_of
write-tells room s b e =
    let a = passed 20 _ _ _ e in
    let c = passed 62 _ _ _ a.1 in
    let d = passed 63 _ _ _ c.1 in
    record {
      fits = ltb-false _ _ a.0;
      version = not-false _ c.0;
      range = d.0;
      bytes = sym (given-one (sym (done _) ∙ d.1));
    }

-- a station that fits the room is written
pub tells-write : (room : ℕ) (s : Station) (b : List ℕ) → WritesAs room s b → write_of room s ≡ given b
unfolding write_of
tells-write room s b x =
    skip 20 _ _ _ (le-ltb room (size_of s) x.fits)
    ∙ skip 62 _ _ _ (ap not x.version)
    ∙ skip 63 _ _ _ x.range
    ∙ done _
    ∙ ap given (sym x.bytes)

-- the test that keeps a station in version 1
abbrev stays_one : Station → Bool
stays_one s = both (eqb s.version 1) (eqb s.last.0 last_page)

-- a record of version 1 has 8 bytes, with no last page
one-bytes : (s : Station) → stays_one s ≡ true
    → record_bytes s
    ≡ 0 ∷ 6 ∷ 1 ∷ s.number / 256 ∷ s.number % 256 ∷ s.run ∷ s.rules ∷ s.first.0 ∷ []
unfolding record_bytes
one-bytes s e = rw e

-- one of version 2 has 9
two_bytes : (s : Station) → stays_one s ≡ false
    → record_bytes s
    ≡ 0 ∷ 7 ∷ 2 ∷ s.number / 256 ∷ s.number % 256 ∷ s.run ∷ s.rules ∷ s.first.0 ∷ s.last.0 ∷ []
unfolding record_bytes
two_bytes s e = rw e

-- the same station in another version
abbrev pub in_version : ℕ → Station → Station
in_version v s =
    record {
      version = v;
      number = s.number;
      run = s.run;
      rules = s.rules;
      first = s.first;
      last = s.last;
    }

-- a station by the numbers of its fields
abbrev make : ℕ → ℕ → ℕ → ℕ → ℕ → ℕ → Station
make v n k r f l =
    record {
      version = v;
      number = n;
      run = k;
      rules = r;
      first = record { 0 = f };
      last = record { 0 = l };
    }

-- its fields are in range in either version
range_same : (v : ℕ) (s : Station) → out_of_range s ≡ false → out_of_range (in_version v s) ≡ false
unfolding out_of_range
range_same v s e = e

-- a record of version 1 reads as the station that it was written of
one-reads : (s : Station) → out_of_range s ≡ false → stays_one s ≡ true
    → ReadsAs (record_bytes s) (in_version (written_version s) s)
one-reads s g t =
    let n = sym (div-add-mod' s.number 256) in
    let l : s.last.0 ≡ last_page = eqb-true _ _ (both_true (eqb s.version 1) _ t).1 in
    rw (one-bytes s t, t)
    (record {
      fields = ap (λ (n : ℕ). make 1 n s.run s.rules s.first.0 s.last.0) n
          ∙ ap (make 1 _ s.run s.rules s.first.0) l;
      version = refl;
      field = refl;
      size = refl;
      range = range_same 1 s g;
    })

-- and so does one of version 2
two-reads : (s : Station) → out_of_range s ≡ false → stays_one s ≡ false
    → ReadsAs (record_bytes s) (in_version (written_version s) s)
two-reads s g t =
    let n = sym (div-add-mod' s.number 256) in
    rw (two_bytes s t, t)
    (record {
      fields = ap (λ (n : ℕ). make 2 n s.run s.rules s.first.0 s.last.0) n;
      version = refl;
      field = refl;
      size = refl;
      range = range_same 2 s g;
    })

-- what is written reads back with the same number, run kind, rule set, first and last page
pub written-reads : (room : ℕ) (s : Station) (b : List ℕ) → write_of room s ≡ given b
    → read_of b ≡ given (in_version (written_version s) s)
written-reads room s b e =
    let x = write-tells room s b e in
    rw x.bytes
    (tells-read _ _ (decide (stays_one s) (one-reads s x.range) (two-reads s x.range)))

-- n elements of a list, from i on
unfoldable row : List ℕ → ℕ → ℕ → List ℕ
row r i zero = []
row r i (suc n) = get_or r i 0 ∷ row r (suc i) n

-- a list is its elements
row-all : (n i : ℕ) (r : List ℕ) → length r ≡ i + n → drop i r ≡ row r i n
unfolding row
row-all zero i r e = drop_of_length-le r {i = i} (omega arith)
row-all (suc n) i r e =
    drop-cons r i 0 (omega arith) ∙ ap (◌∷◌ (get_or r i 0)) (row-all n (suc i) r (omega arith))

-- of two bytes whose number is below 256, the higher is 0
high-none : (a b n : ℕ) → n < 256 → a * 256 + b ≡ n → a ≡ 0
high-none a b n h e = omega arith

-- and the lower is that number
low-all : (a b n : ℕ) → n < 256 → a * 256 + b ≡ n → b ≡ n
low-all a b n h e = omega arith

-- a number's higher byte is the one that it was read of
high-back : (a b : ℕ) → b < 256 → (a * 256 + b) / 256 ≡ a
high-back a b h = omega arith

-- and so is its lower
low-back : (a b : ℕ) → b < 256 → (a * 256 + b) % 256 ≡ b
low-back a b h = omega arith

-- a record's first two bytes are 0 and the length of what follows
length-bytes : (r : List ℕ) (n : ℕ) → n < 256 → pair_at r 0 ≡ n → (get_or r 0 0 ≡ 0) × (get_or r 1 0 ≡ n)
length-bytes r n h e = (high-none _ _ n h e, low-all _ _ n h e)

-- a record is what the station that it tells is written as: in version 1
one_same : (r : List ℕ) → Bytes r → ReadsAs r (fields_of r) → eqb (get_or r 2 0) 1 ≡ true
    → (record_bytes (fields_of r) ≡ r) × (size_of (fields_of r) ≡ length r)
unfolding row
one_same r b x t =
    let w : stays_one (fields_of r) ≡ true = rw t in
    let n : length r ≡ 8 = rw t at x.size in
    let h = length-bytes r 6 (omega arith) (rw t at x.field) in
    let v : get_or r 2 0 ≡ 1 = eqb-true (get_or r 2 0) 1 t in
    let g : r ≡ 0 ∷ 6 ∷ 1 ∷ get_or r 3 0 ∷ get_or r 4 0 ∷ get_or r 5 0 ∷ get_or r 6 0 ∷ get_or r 7 0 ∷ [] =
    row-all 8 0 r n ∙ rw (h.0, h.1, v) in
    let p = high-back (get_or r 3 0) (get_or r 4 0) (b 4) in
    let q = low-back (get_or r 3 0) (get_or r 4 0) (b 4) in
    (one-bytes (fields_of r) w ∙ rw (p, q) (sym g), rw w (sym n))

-- and in version 2
two-same : (r : List ℕ) → Bytes r → ReadsAs r (fields_of r) → eqb (get_or r 2 0) 1 ≡ false
    → (record_bytes (fields_of r) ≡ r) × (size_of (fields_of r) ≡ length r)
unfolding row
two-same r b x t =
    let w : stays_one (fields_of r) ≡ false = rw t in
    let n : length r ≡ 9 = rw t at x.size in
    let h = length-bytes r 7 (omega arith) (rw t at x.field) in
    let v : get_or r 2 0 ≡ 2 = eqb-true (get_or r 2 0) 2 (rw t at x.version) in
    let g : r ≡ 0 ∷ 7 ∷ 2 ∷ get_or r 3 0 ∷ get_or r 4 0 ∷ get_or r 5 0 ∷ get_or r 6 0 ∷ get_or r 7 0
    ∷ get_or r 8 0 ∷ [] =
    row-all 9 0 r n ∙ rw (h.0, h.1, v) in
    let p = high-back (get_or r 3 0) (get_or r 4 0) (b 4) in
    let q = low-back (get_or r 3 0) (get_or r 4 0) (b 4) in
    (two_bytes (fields_of r) w ∙ rw (p, q, t) (sym g), rw w (sym n))

-- a record that is read and written unchanged is the same bytes, in both versions
pub read-written : (room : ℕ) (r : List ℕ) (s : Station) → Bytes r → read_of r ≡ given s → length r ≤ room
    → write_of room s ≡ given r
read-written room r s b e l =
    let x = read-tells r s e in
    let y : ReadsAs r (fields_of r) = subst (ReadsAs r) x.fields x in
    let z = decide (eqb (get_or r 2 0) 1) (one_same r b y) (two-same r b y) in
    rw x.fields
    (tells-write room (fields_of r) r
    (record {
      fits = omega (arith, z.1);
      version = y.version;
      range = y.range;
      bytes = sym z.0;
    }))

-- what is written has so many bytes, and this version
pub record WrittenIn (room : ℕ) (x : Station) (size version : ℕ) : Type 0 where
  pub gives : write_of room x ≡ given (record_bytes x)
  pub long : length (record_bytes x) ≡ size
  pub told : get_or (record_bytes x) 2 0 ≡ version

-- a station of version 1 whose last page is that of the board is written in version 1, whatever else changed
pub stays-one : (r : List ℕ) (s x : Station) (room : ℕ) → read_of r ≡ given s → s.version ≡ 1
    → x.version ≡ s.version
    → x.last ≡ s.last
    → out_of_range x ≡ false
    → 8 ≤ room
    → WrittenIn room x 8 1
stays-one r s x room e v f l g h =
    let y = read-tells r s e in
    let u : get_or r 2 0 ≡ 1 = ap (λ (z : Station). z.version) (sym y.fields) ∙ v in
    let p : s.last.0 ≡ last_page =
    ap (λ (z : Station). z.last.0) y.fields ∙ rw (eq-eqb (get_or r 2 0) 1 u) in
    let a : x.version ≡ 1 = f ∙ v in
    let w : stays_one x ≡ true = rw (l, eq-eqb x.version 1 a, eq-eqb s.last.0 last_page p) in
    record {
      gives = tells-write room x _ (record {
        fits = rw w h;
        version = rw (eq-eqb x.version 1 a);
        range = g;
        bytes = refl;
      });
      long = rw (one-bytes x w);
      told = rw (one-bytes x w);
    }

-- one that was given another last page is written in version 2
pub becomes-two : (x : Station) (room : ℕ) → x.version ≡ 1 → (x.last.0 ≡ last_page → ⊥)
    → out_of_range x ≡ false
    → 9 ≤ room
    → WrittenIn room x 9 2
becomes-two x room a n g h =
    let w : stays_one x ≡ false = rw (eq-eqb x.version 1 a, ne_eqb x.last.0 last_page n) in
    record {
      gives = tells-write room x _ (record {
        fits = rw w h;
        version = rw (eq-eqb x.version 1 a);
        range = g;
        bytes = refl;
      });
      long = rw (two_bytes x w);
      told = rw (two_bytes x w);
    }
