-- Laws of the commands.
use Rattle.std.proofs.lemmas.Bool.{lt-leb, eqb-false, not-false}
use Rattle.std.specs.Prelude.{ℕ, ◌+◌, ◌*◌, ◌≤◌, ◌<◌, true, false, List, [], ◌∷◌, ◌≡◌, leb, eqb, length, get_or}
use Rattle.std.proofs.Math.Bool.{not}
use Rattle.std.proofs.Math.Path.{refl}
use Rattle.std.proofs.Common.{sym, ap, subst, ◌∙◌, lt-ltb, le-ltb, le-leb, eq-eqb, ne_eqb, ltb-false, leb-false}
use Rattle.basis.specs.Board.{page_size}
use Rattle.basis.specs.Laws.Choice.{either_first, either_second, either-false, either-none}
use Rattle.basis.specs.Laws.Refusals.{skip, stop, done, passed, first_then, by-table}
use Rattle.basis.specs.Refusals.{Answer, refused, given, Rule, ◌when◌, first, and_then}
use Rattle.basis.specs.Units.{page_of, start_of}
use Rattle.image.specs.Flash.{erase_of}
use Rattle.loader.specs.Commands.{Effect, effect_after, Does, protected_pages, protected_bytes, mass_erase, erase_rows, erasing, write_rows, writing, verify_rows, protecting, running, keeping, obey_of, loader_after}
use Rattle.loader.specs.State.{with_condition, cleared_of}
use Rattle.loader.specs.Verify.{equals_of}
use Rattle.loader.specs.declared.state.Condition.TheVariants.{Left}
use Rattle.loader.specs.declared.state.Loader.{Loader}
use Rattle.packet.specs.Table.{erase_byte, write_byte, verify_byte, protect_byte, run_byte}

-- what holds of loader and flash as they were, and as the command leaves them, holds whatever its table says
pub either_way : (P : Effect → Type 0) (l : Loader) (f : List ℕ) (e : Effect) (t : List Rule)
    → P (record { loader = l; flash = f }) → P e → P (effect_after l f (first t (given e)))
either_way P l f e t p q = by-table (λ (x : Answer Effect). P (effect_after l f x)) t (given e) (λ n. p) q

-- ---- E: 7, 8, or let through

module _ {A : Type 0} (board : ℕ) (l : Loader) (a n : ℕ) (r : Answer A) where
  pub erase-none : n ≡ 0 → first (erase_rows board l a n) r ≡ refused 7
  unfolding erase_rows
  erase-none h = stop 7 _ _ r (either_first (eqb n 0) _ (eq-eqb n 0 h))

  pub erase-past : start_of board ≤ a → first (erase_rows board l a n) r ≡ refused 7
  unfolding erase_rows
  erase-past h =
      stop 7 _ _ r (either_second (eqb n 0) _ (either_first (leb (start_of board) a) _ (le-leb _ _ h)))

  pub erase-over : board < page_of a + n → first (erase_rows board l a n) r ≡ refused 7
  unfolding erase_rows
  erase-over h =
      stop 7 _ _ r
      (either_second (eqb n 0) _ (either_second (leb (start_of board) a) _ (lt-ltb board (page_of a + n) h)))

  erase-inside : (n ≡ 0 → ⊥) → a < start_of board → page_of a + n ≤ board
      → first (erase_rows board l a n) r
      ≡ first (8 when protected_pages l.protection (page_of a) (page_of a + n) ∷ []) r
  unfolding erase_rows
  erase-inside p q s =
      skip 7 _ _ r
      (either-false (eqb n 0) _ (ne_eqb n 0 p)
      (either-false (leb (start_of board) a) _ (lt-leb (start_of board) a q)
      (le-ltb board (page_of a + n) s)))

  module _ (p : n ≡ 0 → ⊥) (q : a < start_of board) (s : page_of a + n ≤ board) where
    pub erase-protected : protected_pages l.protection (page_of a) (page_of a + n) ≡ true
        → first (erase_rows board l a n) r ≡ refused 8
    erase-protected t = erase-inside p q s ∙ stop 8 _ _ r t

    pub erase-passes : protected_pages l.protection (page_of a) (page_of a + n) ≡ false
        → first (erase_rows board l a n) r ≡ r
    erase-passes t = erase-inside p q s ∙ skip 8 _ _ r t ∙ done r

-- what is let through has pages, lies in flash, and is not protected
pub erase-let : {A : Type 0} {y : A} (board : ℕ) (l : Loader) (a n : ℕ) (r : Answer A)
    → first (erase_rows board l a n) r ≡ given y
    → (n ≡ 0 → ⊥) × (a < start_of board) × (page_of a + n ≤ board)
    × (protected_pages l.protection (page_of a) (page_of a + n) ≡ false)
unfolding erase_rows
erase-let board l a n r e =
    let p = passed 7 _ _ _ e in
    let q = either-none (eqb n 0) _ p.0 in
    let s = either-none (leb (start_of board) a) _ q.1 in
    (eqb-false n 0 q.0, leb-false _ _ s.0, ltb-false _ _ s.1, (passed 8 _ _ _ p.1).0)

module _ (board : ℕ) (l : Loader) (a n : ℕ) (f : List ℕ) where
  pub erasing-open : l.sequence.opened ≡ true → erasing board l a n f ≡ refused 9
  unfolding erasing
  erasing-open h = stop 9 _ _ _ h

  module _ (p : l.sequence.opened ≡ false) where
    pub erasing-mass : mass_erase a n ≡ true
        → erasing board l a n f ≡ given (record { loader = cleared_of l; flash = erase_of f 0 (length f) })
    unfolding erasing
    erasing-mass h = skip 9 _ _ _ p ∙ done _ ∙ simp h

    pub erasing-pages : mass_erase a n ≡ false
        → erasing board l a n f
        ≡ first (erase_rows board l a n)
        (given (record { loader = l; flash = erase_of f (start_of (page_of a)) (n * page_size) }))
    unfolding erasing
    erasing-pages h = skip 9 _ _ _ p ∙ done _ ∙ simp h

-- ---- W: 9, 7, 8, or let through

module _ {A : Type 0} (board : ℕ) (l : Loader) (a x : ℕ) (r : Answer A) where
  pub write-open : l.sequence.opened ≡ true → first (write_rows board l a x) r ≡ refused 9
  unfolding write_rows
  write-open h = stop 9 _ _ r h

  module _ (p : l.sequence.opened ≡ false) where
    pub write-past : start_of board < a + x → first (write_rows board l a x) r ≡ refused 7
    unfolding write_rows
    write-past h = skip 9 _ _ r p ∙ stop 7 _ _ r (lt-ltb _ _ h)

    pub write-protected : a + x ≤ start_of board → protected_bytes l.protection a (a + x) ≡ true
        → first (write_rows board l a x) r ≡ refused 8
    unfolding write_rows
    write-protected q t = skip 9 _ _ r p ∙ skip 7 _ _ r (le-ltb _ _ q) ∙ stop 8 _ _ r t

    pub write-passes : a + x ≤ start_of board → protected_bytes l.protection a (a + x) ≡ false
        → first (write_rows board l a x) r ≡ r
    unfolding write_rows
    write-passes q t = skip 9 _ _ r p ∙ skip 7 _ _ r (le-ltb _ _ q) ∙ skip 8 _ _ r t ∙ done r

pub write-let : {A : Type 0} {y : A} (board : ℕ) (l : Loader) (a x : ℕ) (r : Answer A)
    → first (write_rows board l a x) r ≡ given y
    → (l.sequence.opened ≡ false) × (a + x ≤ start_of board)
    × (protected_bytes l.protection a (a + x) ≡ false)
unfolding write_rows
write-let board l a x r e =
    let p = passed 9 _ _ _ e in
    let q = passed 7 _ _ _ p.1 in
    (p.0, ltb-false _ _ q.0, (passed 8 _ _ _ q.1).0)

-- ---- V, P and R leave flash as it was

module _ (l : Loader) (f : List ℕ) where
  pub keeping-is : (x : Answer Loader)
      → effect_after l f (keeping f x) ≡ record { loader = loader_after l x; flash = f }
  keeping-is (refused n) = refl
  keeping-is (given m) = refl

  -- what changes nothing: the table decides
  pub judged-does : (t : List Rule) {v : Answer (Unit {0})} → v ≡ first t (given tt)
      → Does (keeping f (first t (given l))) l f v l f
  judged-does t {v} e =
      subst (λ (x : Answer Loader). Does (keeping f x) l f v l f) (sym (first_then t (given l)))
      (go (first t (given tt)) e)
    where
      go : (a : Answer (Unit {0})) → v ≡ a → Does (keeping f (and_then a (given l))) l f v l f
      go (refused n) e = record { verdict-is = e; loader-is = refl; flash-is = refl }
      go (given u) e = record { verdict-is = e; loader-is = refl; flash-is = refl }

-- ---- each command by its byte

module _ (board : ℕ) (l : Loader) (a : ℕ) (d f : List ℕ) where
  pub obey-erase : obey_of board l erase_byte a d f ≡ erasing board l a (get_or d 0 0) f
  unfolding obey_of
  obey-erase = refl

  pub obey-write : obey_of board l write_byte a d f ≡ writing board l a d f
  unfolding obey_of
  obey-write = refl

  pub obey-verify : obey_of board l verify_byte a d f
      ≡ keeping f (first (verify_rows board l a d f) (given l))
  unfolding obey_of
  obey-verify = refl

  pub obey-protect : obey_of board l protect_byte a d f ≡ keeping f (protecting board l a (get_or d 0 0))
  unfolding obey_of
  obey-protect = refl

  pub obey-run : obey_of board l run_byte a d f ≡ keeping f (running l a)
  unfolding obey_of
  obey-run = refl

-- ---- V: let through exactly when no sequence is open, the range fits, reading is free, the bytes are equal

module _ {A : Type 0} (board : ℕ) (l : Loader) (a : ℕ) (d f : List ℕ) (r : Answer A) where
  pub verify-passes : l.sequence.opened ≡ false → a + length d ≤ start_of board → l.protection.read ≡ false
      → equals_of f a d ≡ true → first (verify_rows board l a d f) r ≡ r
  unfolding verify_rows
  verify-passes p q s t =
      skip 9 _ _ r p ∙ skip 7 _ _ r (le-ltb _ _ q) ∙ skip 8 _ _ r s ∙ skip 10 _ _ r (ap not t) ∙ done r

  pub verify-let : {y : A} → first (verify_rows board l a d f) r ≡ given y
      → (l.sequence.opened ≡ false) × (a + length d ≤ start_of board) × (l.protection.read ≡ false)
      × (equals_of f a d ≡ true)
  unfolding verify_rows
  verify-let e =
      let p = passed 9 _ _ _ e in
      let q = passed 7 _ _ _ p.1 in
      let s = passed 8 _ _ _ q.1 in
      (p.0, ltb-false _ _ q.0, s.0, not-false _ (passed 10 _ _ _ s.1).0)

-- ---- R

pub run-passes : (l : Loader) (a : ℕ) → l.sequence.opened ≡ false → a ≤ 1
    → running l a ≡ given (with_condition l Left)
unfolding running
run-passes l a p h = skip 9 _ _ _ p ∙ skip 7 _ _ _ (le-ltb _ _ h) ∙ done _

pub run-let : {m : Loader} (l : Loader) (a : ℕ) → running l a ≡ given m
    → (l.sequence.opened ≡ false) × (a ≤ 1)
unfolding running
run-let l a e =
    let p = passed 9 _ _ _ e in
    (p.0, ltb-false _ _ (passed 7 _ _ _ p.1).0)
