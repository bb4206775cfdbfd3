-- `step_line` meets its contract: number, letter, packet and 0A are written one behind the other.
use Rattle.std.proofs.Common.{◌≡◌, ℕ, ◌+◌, ◌*◌, ◌≤◌, List, ◌∷◌, ◌++◌, length, set, sym, ap, ◌∙◌, arith, length-append}
use Rattle.basis.specs.Lists.{stored, copy_of}
use Rattle.image.specs.Laws.Writer.{length-spelt}
use Rattle.image.specs.Writer.{spelt}
use Rattle.packet.specs.Packet.{command}
use Rattle.listing.specs.Lines.{line_end, step_line}
use Rattle.listing.specs.Laws.Numbers.{decimal-most}
use Rattle.listing.specs.Numbers.{decimal_of}
use Rattle.listing.proofs.Buffers.{copy-then, copy-last, Field}
use Rattle.listing.proofs.sheets.step_line.Goals as goal

-- three, and more behind them
copy-three : (c : List ℕ) (e x y z : ℕ) (s : List ℕ)
    → copy_of c e (x ∷ y ∷ z ∷ s) ≡ copy_of (set (set (set c e x) (e + 1) y) (e + 2) z) (e + 3) s
unfolding stored
copy-three c e x y z s =
    let p : e + 2 ≡ e + 1 + 1 = omega arith in let q : e + 3 ≡ e + 1 + 1 + 1 = omega arith in rw (p, q)

module _ (b p : List ℕ) (at n : ℕ) where
  step-length : length (step_line n p) ≡ length (decimal_of n) + 2 * length p + 4
  unfolding step_line
  step-length = simp (length-append, length-spelt) (omega arith)

  -- the number, a space, the letter, a space, the packet and 0A, one behind the other
  step-put : (c d : List ℕ) (e k : ℕ) → Field b at (decimal_of n) c e (at + 20) → k ≡ command p
      → d ≡ copy_of (set (set (set c e 0x20) (e + 1) k) (e + 2) 0x20) (e + 3) (spelt p)
      → (e + 3 + 2 * length p + 1 ≡ at + length (step_line n p))
      × (set d (e + 3 + 2 * length p) 0x0A ≡ copy_of b at (step_line n p))
      × (length (step_line n p) ≤ 2 * length p + 24)
  unfolding step_line
  step-put c d e k f ek ed =
      let l = step-length in
      let t : List ℕ = spelt p ++ line_end in
      let x : List ℕ = set (set (set c e 0x20) (e + 1) k) (e + 2) 0x20 in
      let q : e + 3 + 2 * length p ≡ e + 3 + length (spelt p) = omega (arith, length-spelt p) in (
        omega (arith, f.0),
        copy-last x (e + 3) (spelt p) d (e + 3 + 2 * length p) 0x0A q ed
            ∙ sym (copy-three c e 0x20 k 0x20 t) ∙ ap (λ (y : ℕ). copy_of c e (0x20 ∷ y ∷ 0x20 ∷ t)) ek
            ∙ copy-then b at (decimal_of n) (0x20 ∷ command p ∷ 0x20 ∷ t) c e f.0 f.1.0,
        omega (arith, f.0, f.1.1),
      )

pub decimal-end-requires : goal.decimal-end-requires
decimal-end-requires c =
    omega (arith, decimal-most c.args.step c.ranges.step.fits, c.requires)

pub returns : goal.returns
returns c =
    let p = step-put _ _ _ _ _ _ _ _
    (c.decimal-end.ensures.end, (c.decimal-end.ensures.buffer, c.decimal-end.ensures.within))
    c.command_letter.ensures
    c.spell.ensures
    in record { end = p.0; buffer = p.1; short = p.2 }
