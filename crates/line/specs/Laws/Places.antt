-- Lists place by place: what a store or an erasure leaves at a place, and parts that agree; a page's start.
use Rattle.std.specs.Prelude.{ℕ, ◌+◌, ◌-◌, ◌≤◌, ◌<◌, List, ◌≡◌, leb, ltb, length, get_or, take, drop, replicate}
use Rattle.std.proofs.Common.{sym, ap, ◌∙◌, arith, ltb-true, ltb-false, leb-true, leb-false, length-drop, get_or-take, get_or-drop, ext_get_or, length-take-le}
use Rattle.std.specs.Int.Bits.{bit_and}
use Rattle.std.proofs.lemmas.List.{length-replicate}
use Rattle.basis.specs.Laws.Choice.{decide}
use Rattle.basis.specs.Lists.{stored, new}
use Rattle.basis.specs.Laws.Lists.{stored-below, stored-above}
use Rattle.basis.specs.Units.{page_of, start_of}
use Rattle.image.specs.Flash.{erase_of, store_of}

-- a page starts in itself
pub page-start : (q : ℕ) → page_of (start_of q) ≡ q
page-start q = omega arith

-- ---- a place is one of those stored to, or stays

stored-or : {R : Type 0} (op : ℕ → ℕ → ℕ) (f : List ℕ) (a : ℕ) (s : List ℕ) (j : ℕ)
    → ((k : ℕ) → k < length s → a + k ≡ j → R)
    → ((a ≤ j → j < a + length s → ⊥) → get_or (stored op f a s) j 0 ≡ get_or f j 0 → R) → R
stored-or op f a s j among stays =
    decide (ltb j a)
    (λ t. let b = ltb-true j a t in stays (λ x y. omega arith) (stored-below op f a s j b))
    (λ t. decide (leb (a + length s) j)
    (λ u. let b = leb-true (a + length s) j u in stays (λ x y. omega arith) (stored-above op f a s j b))
    (λ u. let b = ltb-false j a t in
    among (j - a) (omega (arith, leb-false (a + length s) j u)) (omega arith)))

pub store-or : {R : Type 0} (f : List ℕ) (a : ℕ) (s : List ℕ) (j : ℕ)
    → ((k : ℕ) → k < length s → a + k ≡ j → R)
    → ((a ≤ j → j < a + length s → ⊥) → get_or (store_of f a s) j 0 ≡ get_or f j 0 → R) → R
store-or = stored-or bit_and

pub erase-or : {R : Type 0} (f : List ℕ) (a n j : ℕ) → ((k : ℕ) → k < n → a + k ≡ j → R)
    → ((a ≤ j → j < a + n → ⊥) → get_or (erase_of f a n) j 0 ≡ get_or f j 0 → R) → R
erase-or f a n j among stays =
    let l = length-replicate {A = ℕ} n 0xFF in
    stored-or new f a (replicate n 0xFF) j
    (λ k b e. among k (omega (arith, l)) e) (λ out same. stays (λ x y. out x (omega (arith, l))) same)

-- ---- parts that agree at each place are equal, and equal parts agree at each place

pub parts-equal : (f g : List ℕ) (s n : ℕ) → s + n ≤ length f → s + n ≤ length g
    → ((i : ℕ) → i < n → get_or f (s + i) 0 ≡ get_or g (s + i) 0) → take n (drop s f) ≡ take n (drop s g)
parts-equal f g s n p q h =
    let u : n ≤ length (drop s f) = simp length-drop (omega arith) in
    let v : n ≤ length (drop s g) = simp length-drop (omega arith) in
    ext_get_or 0 (take n (drop s f)) (take n (drop s g))
    (length-take-le n (drop s f) u ∙ sym (length-take-le n (drop s g) v))
    (λ i b. let c : i < n = omega (arith, length-take-le n (drop s f) u) in
    get_or-take n (drop s f) i 0 c ∙ get_or-drop s f i 0
    ∙ h i c
    ∙ sym (get_or-drop s g i 0) ∙ sym (get_or-take n (drop s g) i 0 c))

pub equal-at : (f g : List ℕ) (s n a : ℕ) → take n (drop s f) ≡ take n (drop s g) → s ≤ a → a < s + n
    → get_or f a 0 ≡ get_or g a 0
equal-at f g s n a e p q =
    let k : s + (a - s) ≡ a = omega arith in
    let b : a - s < n = omega arith in
    ap (λ (i : ℕ). get_or f i 0) (sym k)
    ∙ sym (get_or-drop s f (a - s) 0)
    ∙ sym (get_or-take n (drop s f) (a - s) 0 b)
    ∙ ap (λ (x : List ℕ). get_or x (a - s) 0) e
    ∙ get_or-take n (drop s g) (a - s) 0 b
    ∙ get_or-drop s g (a - s) 0
    ∙ ap (λ (i : ℕ). get_or g i 0) k
