-- `data` meets its contract: one lemma for each way out.
use Rattle.std.proofs.lemmas.Bool.{not-true, not-false}
use Rattle.std.proofs.Common.{◌≡◌, ℕ, ◌+◌, ◌-◌, ◌<◌, ◌≤◌, Bool, true, false, ltb, List, length, get_or, is_ok, Result, ap, take, drop, sym, ◌∙◌, arith, le-ltb, lt-ltb}
use Rattle.basis.specs.Refusals.{first}
use Rattle.basis.specs.Choice.{either, any}
use Rattle.basis.specs.Laws.Choice.{both-no}
use Rattle.runs.specs.Map.{any_named}
use Rattle.image.specs.Record.{count, address, column_of, wrong, right, pointed}
use Rattle.image.specs.Hex.{Settled, hex, settled_as, settled, past_board, named_before, put_each, name_each, base_of, row_of, Puts, data_in}
use Rattle.image.specs.Laws.Places.{near, row, rest, near_bytes, rest_bytes, near-length, rest-length, past-rows, named-rows, put-rows, name-rows}
use Rattle.image.specs.declared.hex.Hex.{Hex}
use Rattle.image.specs.Paper.{paper_refusal, paper_read}
use Rattle.image.specs.declared.record.Blame.{Blame}
use Rattle.image.specs.declared.record.Refusal.{Refusal}
use Rattle.image.proofs.Handed.{handed}
use Rattle.image.proofs.hex.Hex.data.Goals as goal
use Rattle.image.proofs.hex.Hex.data.Goals.{After-put, After-row-row, Else-count-eq0, Else-image-place}

-- the ways out, each by the table
module _ (size : ℕ) (h : Hex) (b image map line : List ℕ) where
  abbrev told : Settled
  told = settled (pointed line (data_in size h b image map)) image map

  data-none : count b ≡ 0 → settled_as (right h) image map ≡ told
  unfolding first data_in any put_each name_each
  data-none e = rw e

  module _ (o : address b < 65536) (few : count b ≤ 65536) (some : 0 < count b) where
    data-high : size < near h b + row h b → settled_as (wrong 29 0) image map ≡ told
    unfolding first data_in column_of
    data-high e =
        let p : past_board size h b ≡ true = past-rows h b o few size ∙ rw (lt-ltb _ _ some, lt-ltb _ _ e) in
        rw p

    -- the two rows are put at their places, or not
    module _ (fits : near h b + row h b ≤ size) (long : length b ≡ 5 + count b) (i m : List ℕ) where
      abbrev Putting : Bool → Type 0
      Putting t =
          Puts image map (near h b) (near_bytes h b) (base_of h) (rest_bytes h b) t i m

      abbrev taken : Bool
      taken =
          either (any_named map (near h b) (length (near_bytes h b)))
          (any_named map (base_of h) (length (rest_bytes h b)))

      on-board : past_board size h b ≡ false
      on-board = past-rows h b o few size ∙ rw (le-ltb _ _ fits) (both-no (ltb 0 (count b)))

      as-named : taken ≡ named_before h b map
      as-named =
          rw (near-length h b long, rest-length h b long) (sym (named-rows h b o few map))

      data-twice : Putting false → settled_as (wrong 30 0) i m ≡ told
      unfolding first data_in column_of
      data-twice p =
          let e : taken ≡ true = not-false _ (sym p.0) in
          rw (on-board, sym as-named ∙ e, p.1, p.2, e)

      data-given : Putting true
          → settled_as (right (hex h.rules h.linear h.segment h.segmented h.ended true)) i m
          ≡ told
      unfolding first data_in
      data-given p =
          let e : taken ≡ false = not-true _ (sym p.0) in
          rw (
            on-board,
            sym as-named ∙ e,
            lt-ltb _ _ some,
            put-rows h b o few long image,
            name-rows h b o few map,
            p.1,
            p.2,
            e,
            near-length h b long,
            rest-length h b long,
          )

-- what was lent are the bytes of the two rows, at their places
lent : (h : Hex) (b image map i m : List ℕ) (a c k n : ℕ) (r t : Bool)
    → a ≡ near h b → c ≡ base_of h → k ≡ row h b → n ≡ count b → r ≡ t
    → Puts image map a (take (4 + k - 4) (drop 4 b)) c (take (4 + n - (4 + k)) (drop (4 + k) b)) r i m
    → Puts image map (near h b) (near_bytes h b) (base_of h) (rest_bytes h b) t i m
lent h b image map i m a c k n r t ea ec ek en er p =
    let first : 4 + row h b - 4 ≡ row h b = omega arith in
    let second : 4 + count b - (4 + row h b) ≡ rest h b = omega arith in
    rw (ea, ec, ek, en, er, first, second) at p

some : (c : Else-count-eq0) → 0 < count c.args.bytes.now
some c = omega (arith, c.from-count.ensures, c.if-count-eq0.false)

known : (c : Else-count-eq0) (k : ℕ) → get_or c.args.bytes.now k 0 < 256
known c k = omega (arith, c.type_inv.bytes k)

offset : (c : Else-count-eq0) → address c.args.bytes.now < 65536
offset c = omega (arith, known c 1, known c 2)

few : (c : Else-count-eq0) → count c.args.bytes.now ≤ 65536
few c = omega (arith, known c 0)

near-is : (c : After-row-row)
    → c.base-base.result + c.from.result ≡ near c.args.self c.args.bytes.now
near-is c = omega (arith, c.base-base.ensures.base, c.from.ensures, c.pair_at-offset.ensures)

row_is : (c : After-row-row) → c.row-row.result ≡ row c.args.self c.args.bytes.now
row_is c =
    let s = c.args.self in
    c.row-row.ensures.row
    ∙ (λ i. row_of s (c.pair_at-offset.ensures i) (c.from-count.ensures i))

fits : (c : Else-image-place) → near c.args.self c.args.bytes.now + row c.args.self c.args.bytes.now
    ≤ length c.args.image.now
fits c =
    omega (
      arith,
      near-is (goal.at.Else-image-place c).After-row-row,
      row_is (goal.at.Else-image-place c).After-row-row,
      c.if-image-place.false,
    )

putting : (c : After-put) (t : Bool) → is_ok c.put.result ≡ t
    → Puts c.args.image.now c.args.map.now (near c.args.self c.args.bytes.now)
    (near_bytes c.args.self c.args.bytes.now) (base_of c.args.self)
    (rest_bytes c.args.self c.args.bytes.now) t c.put.new.image c.put.new.map
putting c t e =
    lent c.args.self c.args.bytes.now _ _ _ _
    (c.base-base.result + c.from.result) c.base-base.result
    c.row-row.result c.from-count.result _ t (near-is (goal.at.After-put c).After-row-row)
    c.base-base.ensures.base
    (row_is (goal.at.After-put c).After-row-row) c.from-count.ensures e c.put.ensures.rows

pub returns-then-count-eq0 : goal.returns-then-count-eq0
returns-then-count-eq0 c line = data-none _ _ _ _ _ line (sym c.from-count.ensures ∙ c.if-count-eq0.true)

pub returns-then-image-place : goal.returns-then-image-place
returns-then-image-place c line =
    rw c.into.ensures
    (data-high _ _ c.args.bytes.now _ _ line (offset (goal.at.returns-then-image-place c).Else-count-eq0)
    (few (goal.at.returns-then-image-place c).Else-count-eq0)
    (some (goal.at.returns-then-image-place c).Else-count-eq0)
    (omega (
      arith,
      near-is (goal.at.returns-then-image-place c).After-row-row,
      row_is (goal.at.returns-then-image-place c).After-row-row,
      c.if-image-place.true,
    )))

pub returns-in_err-put : goal.returns-in_err-put
returns-in_err-put c line =
    let i = c.put.new.image in
    let m = c.put.new.map in
    ap (λ (r : Result Hex Blame). settled_as (paper_read r) i m) (handed _ _ c.from_residual.ensures.1)
    ∙ ap (λ (why : Refusal). settled_as (wrong (paper_refusal why) 0) i m) c.in_err-put.ensures.why
    ∙ data-twice _ _ c.args.bytes.now _ _ line (offset (goal.at.returns-in_err-put c).Else-count-eq0)
    (few (goal.at.returns-in_err-put c).Else-count-eq0) (some (goal.at.returns-in_err-put c).Else-count-eq0)
    (fits (goal.at.returns-in_err-put c).Else-image-place) c.requires.whole _ _
    (putting (goal.at.returns-in_err-put c).After-put false (ap is_ok c.in_err-put.was))

pub returns : goal.returns
returns c line =
    data-given _ _ c.args.bytes.now _ _ line (offset (goal.at.returns c).Else-count-eq0)
    (few (goal.at.returns c).Else-count-eq0) (some (goal.at.returns c).Else-count-eq0)
    (fits (goal.at.returns c).Else-image-place) c.requires.whole _ _
    (putting (goal.at.returns c).After-put true (ap is_ok c.in_ok-put.was))
