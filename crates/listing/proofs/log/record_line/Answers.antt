-- `record_line` meets its contract: five fields, closed by 0A.
use Rattle.std.proofs.Common.{◌≡◌, ℕ, ◌≤◌, List, ◌++◌, length, ap, ◌∙◌, append_assoc, arith, codes}
use Rattle.basis.specs.Lists.{overlay}
use Rattle.listing.specs.Lines.{line_end, field, record_line, log_room}
use Rattle.service_log.specs.declared.read.Record.{Record}
use Rattle.listing.proofs.Buffers.{Field, put_first, put_next, put-over}
use Rattle.listing.proofs.log.record_line.Goals as goal
use Rattle.listing.proofs.log.record_line.Goals.{After-field-total}

-- five fields one behind the other, and z
module _ (old u v w x y z b1 b2 b3 b4 b5 : List ℕ) (e1 e2 e3 e4 e5 r1 r2 r3 r4 r5 : ℕ) where
  five-fields : Field old 0 u b1 e1 r1 → Field b1 e1 v b2 e2 r2 → Field b2 e2 w b3 e3 r3
      → Field b3 e3 x b4 e4 r4
      → Field b4 e4 (y ++ z) b5 e5 r5 → r5 ≤ length old
      → (e5 ≡ length ((u ++ (v ++ (w ++ (x ++ y)))) ++ z))
      × (b5 ≡ overlay ((u ++ (v ++ (w ++ (x ++ y)))) ++ z) old)
  five-fields f1 f2 f3 f4 f5 h =
      let p2 = put_next old u v b1 b2 e1 e2 r2 (put_first old u b1 e1 r1 f1) f2 in
      let p3 = put_next old (u ++ v) w b2 b3 e2 e3 r3 p2 f3 in
      let p4 = put_next old ((u ++ v) ++ w) x b3 b4 e3 e4 r4 p3 f4 in
      let p5 = put_next old (((u ++ v) ++ w) ++ x) (y ++ z) b4 b5 e4 e5 r5 p4 f5 in
      let e : (((u ++ v) ++ w) ++ x) ++ (y ++ z) ≡ (u ++ (v ++ (w ++ (x ++ y)))) ++ z = simp append_assoc in
      rw e at (put-over old ((((u ++ v) ++ w) ++ x) ++ (y ++ z)) b5 e5 p5 (omega (arith, f5.1.1)))

-- the fields of a record, whose numbers were widened
record-put : (s : Record) (old b1 b2 b3 b4 b5 : List ℕ) (e1 e2 e3 e4 e5 r1 r2 r3 r4 r5 i j k m n : ℕ)
    → i ≡ s.version → j ≡ s.outcome → k ≡ s.acknowledged → m ≡ s.total → n ≡ s.bytes
    → Field old 0 (field (codes "VERSION ") i) b1 e1 r1
    → Field b1 e1 (field (codes " OUTCOME ") j) b2 e2 r2
    → Field b2 e2 (field (codes " ACKED ") k) b3 e3 r3
    → Field b3 e3 (field (codes " TOTAL ") m) b4 e4 r4
    → Field b4 e4 (field (codes " BYTES ") n ++ line_end) b5 e5 r5 → r5 ≤ length old
    → (e5 ≡ length (record_line s)) × (b5 ≡ overlay (record_line s) old)
unfolding record_line
record-put s old b1 b2 b3 b4 b5 e1 e2 e3 e4 e5 r1 r2 r3 r4 r5 i j k m n p q t u v f1 f2 f3 f4 f5 h =
    let e : record { version = i; outcome = j; acknowledged = k; total = m; bytes = n } ≡ s =
    λ a. record { version = p a; outcome = q a; acknowledged = t a; total = u a; bytes = v a } in
    let o =
    five-fields old (field (codes "VERSION ") i) (field (codes " OUTCOME ") j) (field (codes " ACKED ") k)
    (field (codes " TOTAL ") m) (field (codes " BYTES ") n) line_end
    b1 b2 b3 b4 b5 e1 e2 e3 e4 e5 r1 r2 r3 r4 r5 f1 f2 f3 f4 f5 h in
    (o.0 ∙ ap (λ y. length (record_line y)) e, o.1 ∙ ap (λ y. overlay (record_line y) old) e)

-- how far the numbers reach, that the buffer is as long as it was, and that this is enough
reach : (c : After-field-total) →
    (c.field-total.result ≤ 111) × (length c.field-total.new.buffer ≡ length c.args.buffer.now) ×
    (log_room ≤ length c.args.buffer.now)
reach c = (
  omega (
    arith,
    c.field-version.ensures.within,
    c.field-outcome.ensures.within,
    c.field-acknowledged.ensures.within,
    c.field-total.ensures.within,
  ),
  omega (
    arith,
    c.field-version.auto.buffer,
    c.field-outcome.auto.buffer,
    c.field-acknowledged.auto.buffer,
    c.field-total.auto.buffer,
  ),
  c.requires,
)

pub returns : goal.returns
returns c =
    let p =
    record-put _ _ _ _ _ _ _ _ _ _ _ _ _ _ _ _ _ _ _ _ _ _
    c.from.ensures c.from-2.ensures c.from-3.ensures c.from-4.ensures c.from-5.ensures
    (c.field-version.ensures.end, (c.field-version.ensures.buffer, c.field-version.ensures.within))
    (c.field-outcome.ensures.end, (c.field-outcome.ensures.buffer, c.field-outcome.ensures.within)) (
      c.field-acknowledged.ensures.end,
      (c.field-acknowledged.ensures.buffer, c.field-acknowledged.ensures.within),
    )
    (c.field-total.ensures.end, (c.field-total.ensures.buffer, c.field-total.ensures.within))
    (c.last_field.ensures.end, (c.last_field.ensures.buffer, c.last_field.ensures.within))
    (omega (arith, reach (goal.at.returns c).After-field-total))
    in record { end = p.0; buffer = p.1 }
