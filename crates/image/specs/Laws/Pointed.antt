-- Laws of answers to a line: a check's refusal, with its column, is the record's.
use Rattle.std.specs.Prelude.{◌≡◌, ℕ, List, ◌≢◌, refl}
use Rattle.std.proofs.Common.{sym, arith}
use Rattle.basis.specs.Refusals.{Answer, refused, given, and_then}
use Rattle.image.specs.Record.{Pointed, wrong, right, pointed}
use Rattle.image.specs.Hex.{File, settled_as, settled}

-- what is wrong is not right
pub pointed-apart : {A : Type 0} {n c : ℕ} {x : A} → wrong n c ≢ right x
pointed-apart e = let z : ◌≡◌ {A = ℕ} 0 1 = cc in omega arith

-- what is right alike is alike, and so is what is wrong: number and column
pub right-one : {A : Type 0} {x y : A} → right x ≡ right y → x ≡ y
right-one e = cc

pub wrong-one : {A : Type 0} {m n c d : ℕ} → ◌≡◌ {A = Pointed A} (wrong m c) (wrong n d) → (m ≡ n) × (c ≡ d)
wrong-one e = (cc, cc)

module _ (line : List ℕ) where
  -- what a check passes is given
  pub pointed-given : (a : Answer Unit) → right tt ≡ pointed line a → a ≡ given tt
  pointed-given (refused k) e = absurd (pointed-apart (sym e))
  pointed-given (given x) e = refl

  -- what it refuses stays so, whatever else would follow
  pub pointed-stays : (a : Answer Unit) (r : Answer File) (k c : ℕ) (image map : List ℕ)
      → wrong k c ≡ pointed line a
      → settled_as (wrong k c) image map ≡ settled (pointed line (and_then a r)) image map
  pointed-stays (refused n) r k c image map e =
      let w = wrong-one e in λ i. settled_as (wrong (w.0 i) (w.1 i)) image map
  pointed-stays (given x) r k c image map e = absurd (pointed-apart e)
