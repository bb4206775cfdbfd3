-- `last_field` meets its contract: 0A goes behind the field.
use Rattle.std.proofs.Common.{ℕ, ◌+◌, List, ◌++◌, length, set, arith, length-append}
use Rattle.listing.specs.Lines.{line_end}
use Rattle.listing.specs.Numbers.{decimal_of}
use Rattle.listing.proofs.Buffers.{copy-last, Field}
use Rattle.listing.proofs.numbers.last_field.Goals as goal

last-put : (b : List ℕ) (at n : ℕ) (w c : List ℕ) (e : ℕ)
    → Field b at (w ++ decimal_of n) c e (at + length w + 20)
    → Field b at ((w ++ decimal_of n) ++ line_end) (set c e 0x0A) (e + 1) (at + length w + 21)
last-put b at n w c e f = (
  omega (arith, length-append (w ++ decimal_of n) line_end, f.0),
  (copy-last b at (w ++ decimal_of n) c e 0x0A f.0 f.1.0, omega (arith, f.1.1)),
)

pub returns : goal.returns
returns c =
    let a = c.args in
    let p =
    last-put a.buffer.now a.at a.n a.word.now c.field-end.new.buffer c.field-end.result
    (c.field-end.ensures.end, (c.field-end.ensures.buffer, c.field-end.ensures.within))
    in record { end = p.0; buffer = p.1.0; within = p.1.1 }
