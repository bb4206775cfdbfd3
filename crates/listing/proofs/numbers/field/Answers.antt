-- `field` meets its contract: the number goes behind the word.
use Rattle.std.proofs.Common.{◌≡◌, ℕ, ◌+◌, List, ◌++◌, length, refl, ◌∙◌, arith, length-append}
use Rattle.listing.specs.Laws.Numbers.{decimal-most}
use Rattle.basis.specs.Lists.{copy_of}
use Rattle.listing.specs.Numbers.{decimal_of}
use Rattle.listing.proofs.Buffers.{copy-then, Field}
use Rattle.listing.proofs.numbers.field.Goals as goal

-- a word and a number
field_put : (b : List ℕ) (at n : ℕ) (w c d : List ℕ) (e : ℕ) → c ≡ copy_of b at w
    → Field c (at + length w) (decimal_of n) d e (at + length w + 20)
    → Field b at (w ++ decimal_of n) d e (at + length w + 20)
field_put b at n w c d e ec f = (
  omega (arith, length-append w (decimal_of n), f.0),
  (f.1.0 ∙ copy-then b at w (decimal_of n) c (at + length w) refl ec, f.1.1),
)

pub decimal-requires : goal.decimal-requires
decimal-requires c =
    omega (arith, decimal-most c.args.n c.ranges.n.fits, c.copy.auto.buffer)

pub returns : goal.returns
returns c =
    let a = c.args in
    let p =
    field_put a.buffer.now a.at a.n a.word.now c.copy.new.buffer c.decimal.new.buffer c.decimal.result
    c.copy.ensures
    (c.decimal.ensures.end, (c.decimal.ensures.buffer, c.decimal.ensures.within))
    in record { end = p.0; buffer = p.1.0; within = p.1.1 }
