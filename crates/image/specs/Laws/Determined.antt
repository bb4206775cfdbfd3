-- Two outcomes that a contract permits are equal: the paper's numbers and values tell all cases apart.
use Rattle.std.specs.Prelude.{◌≡◌, ◌<◌, ℕ, List, ◌∷◌, drop, ◌==◌, refl, Result, Ok, Err, IfErr}
use Rattle.std.proofs.Common.{sym, ap, ◌∙◌, arith}
use Rattle.basis.specs.Choice.{pick}
use Rattle.basis.specs.Laws.Refusals.{answer-one, back_one, determined}
use Rattle.basis.specs.Lists.{Bytes, overlay}
use Rattle.basis.specs.Refusals.{Answer}
use Rattle.image.specs.Digits.{decoded}
use Rattle.image.specs.Hex.{Settled, settled_as}
use Rattle.image.specs.Laws.Pointed.{pointed-apart, right-one, wrong-one}
use Rattle.image.specs.Laws.Writer.{spelt-bytes}
use Rattle.image.specs.Paper.{paper_refusal, place_or, pointed_of, paper_check, paper_read, measured_of, paper_written}
use Rattle.image.specs.Record.{shape_of, Pointed, pointed}
use Rattle.image.specs.Writer.{Step, spelt, measured, text_bytes}
use Rattle.image.specs.declared.hex.Hex.{Hex}
use Rattle.image.specs.declared.record.Blame.{Blame}
use Rattle.image.specs.declared.record.Refusal.{Refusal}
use Rattle.image.specs.declared.record.Refusal.TheVariants.{Size, Ended, Colon, Length, Digit, Count, Checksum, Kind, Shape, Place, Twice, NoEnd, NoData, Short, Rules}
use Rattle.image.specs.declared.writer.Written.{Written}

-- the refusal of a number
refusal_by : ℕ → Refusal
refusal_by n =
    pick (n == 20) Size
    (pick (n == 21) Ended
    (pick (n == 22) Colon
    (pick (n == 23) Length
    (pick (n == 24) Digit
    (pick (n == 25) Count
    (pick (n == 26) Checksum
    (pick (n == 27) Kind
    (pick (n == 28) Shape
    (pick (n == 29) Place
    (pick (n == 30) Twice
    (pick (n == 31) NoEnd
    (pick (n == 32) NoData
    (pick (n == 33) Short Rules)))))))))))))

refusal-back : (x : Refusal) → refusal_by (paper_refusal x) ≡ x
unfolding refusal_by
refusal-back Size = refl
refusal-back Ended = refl
refusal-back Colon = refl
refusal-back Length = refl
refusal-back Digit = refl
refusal-back Count = refl
refusal-back Checksum = refl
refusal-back Kind = refl
refusal-back Shape = refl
refusal-back Place = refl
refusal-back Twice = refl
refusal-back NoEnd = refl
refusal-back NoData = refl
refusal-back Short = refl
refusal-back Rules = refl

pub refusal-one : (x y : Refusal) → paper_refusal x ≡ paper_refusal y → x ≡ y
refusal-one = back_one paper_refusal refusal_by refusal-back

-- a refusal with its column
blame-one : (x y : Blame) → paper_refusal x.refusal ≡ paper_refusal y.refusal → x.column ≡ y.column → x ≡ y
blame-one x y e c = let r = refusal-one x.refusal y.refusal e in λ i. record { refusal = r i; column = c i }

pointed-one : {A : Type 0} (r s : Result A Blame) → pointed_of r ≡ pointed_of s → r ≡ s
pointed-one (Ok x) (Ok y) e = ap Ok (right-one e)
pointed-one (Ok x) (Err y) e = absurd (pointed-apart (sym e))
pointed-one (Err x) (Ok y) e = absurd (pointed-apart e)
pointed-one (Err x) (Err y) e = let w = wrong-one e in ap Err (blame-one x y w.0 w.1)

-- a check of a record
pub check-determined : {a : Pointed (Unit {0})} (r s : Result (Unit {0}) Blame) → paper_check r ≡ a
    → paper_check s ≡ a
    → r ≡ s
check-determined = determined paper_check pointed-one

-- the shape's word holds of every line that spells the bytes, and there is one
pub shape-determined : (b : List ℕ) → Bytes b → (r s : Result (Unit {0}) Blame)
    → ((line : List ℕ) → b ≡ decoded (drop 1 line) → paper_check r ≡ pointed line (shape_of b))
    → ((line : List ℕ) → b ≡ decoded (drop 1 line) → paper_check s ≡ pointed line (shape_of b))
    → r ≡ s
shape-determined b h r s p q =
    let e = sym (spelt-bytes b h) in check-determined r s (p (0x3A ∷ spelt b) e) (q (0x3A ∷ spelt b) e)

-- reading: of start and of a record, with image and map as they leave them
pub record-determined : {o : Settled} (r s : Result Hex Blame) (i j m n : List ℕ)
    → settled_as (paper_read r) i m ≡ o
    → settled_as (paper_read s) j n ≡ o
    → (r ≡ s) × (i ≡ j) × (m ≡ n)
record-determined r s i j m n p q =
    let e = p ∙ sym q in (
      pointed-one r s (ap (λ (x : Settled). x.answer) e),
      ap (λ (x : Settled). x.image) e,
      ap (λ (x : Settled). x.map) e,
    )

pub close-determined : {a : Pointed Hex} (r s : Result Hex Blame) → paper_read r ≡ a → paper_read s ≡ a
    → r ≡ s
close-determined = determined paper_read pointed-one

-- writing
measured-one : (v w : Written) → measured_of v ≡ measured_of w → v ≡ w
measured-one v w e =
    λ i. record { length = (e i).length; next = record { 0 = (e i).next }; upper = (e i).upper }

pub write-determined : (a : Answer Step) (r s : Result Written Refusal) (x y old : List ℕ)
    → (paper_written r ≡ measured a) × (x ≡ overlay (text_bytes a) old)
    → (paper_written s ≡ measured a) × (y ≡ overlay (text_bytes a) old)
    → (r ≡ s) × (x ≡ y)
write-determined a r s x y old p q = (
  determined paper_written (answer-one paper_refusal measured_of refusal-one measured-one) r s p.0 q.0,
  p.1 ∙ sym q.1,
)

-- the place of the first character that is no digit: a place is below the line's length, which stands for none
pub decode-determined : (n : ℕ) (r s : Result (Unit {0}) ℕ) → place_or n r ≡ place_or n s
    → IfErr r (λ place. place < n) → IfErr s (λ place. place < n) → r ≡ s
decode-determined n (Ok u) (Ok v) e h k = refl
decode-determined n (Ok u) (Err q) e h k = absurd (omega arith)
decode-determined n (Err p) (Ok v) e h k = absurd (omega arith)
decode-determined n (Err p) (Err q) e h k = ap Err e
