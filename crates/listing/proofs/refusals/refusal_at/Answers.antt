-- `refusal_at` meets its contract: three fields, closed by 0A.
use Rattle.std.proofs.Common.{◌≡◌, ℕ, ◌≤◌, List, ◌++◌, length, ap, ◌∙◌, append_assoc, arith, codes}
use Rattle.basis.specs.Lists.{overlay}
use Rattle.listing.specs.Lines.{line_end, field, refused_word, refusal_at}
use Rattle.listing.specs.Text.{Blame}
use Rattle.listing.proofs.Buffers.{Field, put_first, put_next, put-over}
use Rattle.listing.proofs.refusals.refusal_at.Goals as goal

-- three fields one behind the other, and z
three-fields : (old u v w z b1 b2 b3 : List ℕ) (e1 e2 e3 r1 r2 r3 : ℕ) → Field old 0 u b1 e1 r1
    → Field b1 e1 v b2 e2 r2 → Field b2 e2 (w ++ z) b3 e3 r3 → r3 ≤ length old
    → (e3 ≡ length ((u ++ (v ++ w)) ++ z)) × (b3 ≡ overlay ((u ++ (v ++ w)) ++ z) old)
three-fields old u v w z b1 b2 b3 e1 e2 e3 r1 r2 r3 f1 f2 f3 h =
    let p2 = put_next old u v b1 b2 e1 e2 r2 (put_first old u b1 e1 r1 f1) f2 in
    let p3 = put_next old (u ++ v) (w ++ z) b2 b3 e2 e3 r3 p2 f3 in
    let e : (u ++ v) ++ (w ++ z) ≡ (u ++ (v ++ w)) ++ z = simp append_assoc in
    rw e at (put-over old ((u ++ v) ++ (w ++ z)) b3 e3 p3 (omega (arith, f3.1.1)))

-- the fields of the line, of the number, which is that of the refusal, and of the column
refused-put : (x : Blame) (old b c d : List ℕ) (i j k q r s t : ℕ) → q ≡ x.number
    → Field old 0 (field refused_word x.line) b i r → Field b i (field (codes " ") q) c j s
    → Field c j (field (codes " ") x.column ++ line_end) d k t → t ≤ length old
    → (k ≡ length (refusal_at x)) × (d ≡ overlay (refusal_at x) old)
unfolding refusal_at
refused-put x old b c d i j k q r s t p f g h fits =
    let e : record { line = x.line; number = q; column = x.column } ≡ x =
    λ a. record { line = x.line; number = p a; column = x.column } in
    let o =
    three-fields old (field refused_word x.line) (field (codes " ") q) (field (codes " ") x.column) line_end
    b c d i j k r s t f g h fits in
    (o.0 ∙ ap (λ y. length (refusal_at y)) e, o.1 ∙ ap (λ y. overlay (refusal_at y) old) e)

pub returns : goal.returns
returns c =
    let p =
    refused-put _ _ _ _ _ _ _ _ _ _ _ _ (c.from.ensures ∙ c.number.ensures)
    (c.field-first.ensures.end, (c.field-first.ensures.buffer, c.field-first.ensures.within))
    (c.field-second.ensures.end, (c.field-second.ensures.buffer, c.field-second.ensures.within))
    (c.last_field.ensures.end, (c.last_field.ensures.buffer, c.last_field.ensures.within))
    (omega (arith, c.field-second.ensures.within, c.field-first.ensures.within, c.requires))
    in record { end = p.0; buffer = p.1 }
