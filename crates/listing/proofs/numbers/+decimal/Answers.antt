-- `decimal` meets its contract: the last digit goes behind those of a tenth of the number.
use Rattle.std.proofs.Common.{◌≡◌, ℕ, ◌+◌, ◌/◌, ◌%◌, ◌<◌, ◌≤◌, List, [], ◌∷◌, length, set, sym, refl, ap, ◌∙◌, arith, length-append}
use Rattle.basis.specs.Lists.{copy_of}
use Rattle.listing.specs.Numbers.{numeral, decimal_of}
use Rattle.listing.specs.Laws.Numbers.{decimal-one, decimal-more, decimal-most}
use Rattle.listing.proofs.Buffers.{copy-one, copy-last, Field}
use Rattle.listing.proofs.numbers.+decimal.Goals as goal

-- the room for one digit less
decimal-room : (n : ℕ) → 10 ≤ n → length (decimal_of n) ≡ length (decimal_of (n / 10)) + 1
decimal-room n h = ap length (decimal-more n h) ∙ length-append (decimal_of (n / 10)) (numeral (n % 10) ∷ [])

-- a number of one digit, and one more digit of a longer one
module _ (b : List ℕ) (at n : ℕ) where
  decimal-last : n < 10 → Field b at (decimal_of n) (set b at (48 + n)) (at + 1) (at + 20)
  decimal-last h = rw (decimal-one n h) (refl, (sym (copy-one b at (numeral n)), omega arith))

  decimal-next : (c : List ℕ) (e r : ℕ) → 10 ≤ n → length (decimal_of n) ≤ 20
      → Field b at (decimal_of (n / 10)) c e r
      → Field b at (decimal_of n) (set c e (48 + n % 10)) (e + 1) (at + 20)
  decimal-next c e r h few f =
      (omega (arith, decimal-room n h, f.0), (copied, omega (arith, decimal-room n h, f.0)))
    where
      copied : set c e (48 + n % 10) ≡ copy_of b at (decimal_of n)
      copied =
          rw (decimal-more n h) (copy-last b at (decimal_of (n / 10)) c e (numeral (n % 10)) f.0 f.1.0)

pub bounds-buffer-at : goal.bounds-buffer-at
bounds-buffer-at t c =
    let e = ap length (decimal-one c.args.n c.if-n-lt10.true) in omega arith

pub returns-then-n-lt10 : goal.returns-then-n-lt10
returns-then-n-lt10 t c =
    let p = decimal-last c.args.buffer.now c.args.at c.args.n c.if-n-lt10.true in
    record { end = p.0; buffer = p.1.0; within = p.1.1 }

pub decimal-end-requires : goal.decimal-end-requires
decimal-end-requires t c = (omega arith, omega (arith, decimal-room c.args.n c.if-n-lt10.false))

pub bounds-buffer-end : goal.bounds-buffer-end
bounds-buffer-end t c =
    omega (
      arith,
      decimal-room c.args.n c.if-n-lt10.false,
      c.decimal-end.ensures.end,
      c.decimal-end.auto.buffer,
    )

pub returns : goal.returns
returns t c =
    let g = c.args in
    let p =
    decimal-next g.buffer.now g.at g.n c.decimal-end.new.buffer c.decimal-end.result (g.at + 20)
    c.if-n-lt10.false
    (decimal-most g.n c.ranges.n.fits)
    (c.decimal-end.ensures.end, (c.decimal-end.ensures.buffer, c.decimal-end.ensures.within))
    in record { end = p.0; buffer = p.1.0; within = p.1.1 }
