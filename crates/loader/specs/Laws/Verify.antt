-- Laws of V's comparison.
use Rattle.std.specs.Prelude.{ℕ, suc, ◌+◌, ◌≤◌, true, List, [], ◌∷◌, map, ◌≡◌, refl, eqb, length, get_or, take, drop}
use Rattle.std.proofs.Common.{sym, ◌∙◌, add-one, arith, eq-eqb, eqb-true, drop-cons}
use Rattle.std.proofs.lemmas.List.{length-map}
use Rattle.basis.specs.Laws.Choice.{both_true, both-second}
use Rattle.basis.specs.Lists.{Bytes}
use Rattle.image.specs.Flash.{store_of, Blank}
use Rattle.image.specs.Laws.Flash.{length-store, store-blank}
use Rattle.loader.specs.Verify.{equals_of}
use Rattle.packet.specs.Laws.Turn.{restored-turned, undone}
use Rattle.packet.specs.Turn.{turned_of, restored_of}

part : (f : List ℕ) (a n : ℕ) → a + suc n ≤ length f
    → take (suc n) (drop a f) ≡ get_or f a 0 ∷ take n (drop (a + 1) f)
part f a n h = rw (add-one, drop-cons f a 0 (omega arith))

-- accepted: flash has the bytes, turned back
pub equals-stands : (f : List ℕ) (a : ℕ) (s : List ℕ) → a + length s ≤ length f → equals_of f a s ≡ true
    → take (length s) (drop a f) ≡ map restored_of s
unfolding equals_of
equals-stands f a [] h e = refl
equals-stands f a (t ∷ s) h e =
    let p = both_true (eqb (get_or f a 0) (restored_of t)) (equals_of f (a + 1) s) e in
    part f a (length s) h
    ∙ rw (eqb-true (get_or f a 0) (restored_of t) p.0, equals-stands f (a + 1) s (omega arith) p.1)

-- and where flash has them it is accepted
pub stands-equals : (f : List ℕ) (a : ℕ) (s : List ℕ) → a + length s ≤ length f
    → take (length s) (drop a f) ≡ map restored_of s → equals_of f a s ≡ true
unfolding equals_of
stands-equals f a [] h e = refl
stands-equals f a (t ∷ s) h e =
    let p : get_or f a 0 ∷ take (length s) (drop (a + 1) f) ≡ restored_of t ∷ map restored_of s = sym
    (part f a (length s) h) ∙ e in
    let q : get_or f a 0 ≡ restored_of t = cc in
    let r : take (length s) (drop (a + 1) f) ≡ map restored_of s = cc in
    both-second (eqb (get_or f a 0) (restored_of t)) (equals_of f (a + 1) s) (eq-eqb _ _ q)
    ∙ stands-equals f (a + 1) s (omega arith) r

-- what W stored over blank flash, V accepts when turned
pub stored-equals : (f : List ℕ) (a : ℕ) (d : List ℕ) → a + length d ≤ length f → Blank f a (length d)
    → Bytes d
    → equals_of (store_of f a d) a (map turned_of d) ≡ true
stored-equals f a d h blank bytes =
    stands-equals (store_of f a d) a (map turned_of d) (simp (length-map, length-store) h)
    (rw (length-map d turned_of, undone restored_of turned_of restored-turned d bytes)
    (store-blank f a d h blank bytes))
