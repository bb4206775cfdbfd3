-- What each command does to a serving loader on a board of so many pages.
-- A refusal leaves loader and flash as they were.
use Rattle.std.specs.Prelude.{ℕ, ◌+◌, ◌-◌, ◌*◌, Bool, not, List, [], ◌∷◌, ◌≡◌, leb, ltb, eqb, length, get_or}
use Rattle.basis.specs.Board.{page_size, group_size}
use Rattle.basis.specs.Choice.{pick, both, either}
use Rattle.basis.specs.Refusals.{Answer, refused, given, Rule, ◌when◌, first, bare}
use Rattle.basis.specs.Units.{page_of, group_of, start_of}
use Rattle.image.specs.Flash.{erase_of, store_of}
use Rattle.loader.specs.Protection.{none, with_group, with_read, any_of}
use Rattle.loader.specs.State.{with_condition, with_added, joined_of, cleared_of}
use Rattle.loader.specs.Verify.{equals_of}
use Rattle.loader.specs.declared.protection.Protection.{Protection}
use Rattle.loader.specs.declared.state.Condition.TheVariants.{Left}
use Rattle.loader.specs.declared.state.Loader.{Loader}
use Rattle.packet.specs.Table.{erase_byte, write_byte, verify_byte, protect_byte}

-- loader and flash after an accepted command
pub record Effect : Type 0 where
  pub loader : Loader
  pub flash : List ℕ

-- a group of the bytes a to e - 1, or of the pages i to j - 1, is protected
abbrev pub protected_bytes : Protection → ℕ → ℕ → Bool
protected_bytes p a e = any_of p.groups (group_of a) (group_of (e + (group_size - 1)) - group_of a)

abbrev pub protected_pages : Protection → ℕ → ℕ → Bool
protected_pages p i j = protected_bytes p (start_of i) (start_of j)

-- E: count 0 with address exactly 0 is the mass erase
abbrev pub mass_erase : ℕ → ℕ → Bool
mass_erase a n = both (eqb n 0) (eqb a 0)

-- otherwise the address is rounded down to its page
unfoldable pub erase_rows : ℕ → Loader → ℕ → ℕ → List Rule
erase_rows board l a n =
    7 when either (eqb n 0) (either (leb (start_of board) a) (ltb board (page_of a + n)))
    ∷ 8 when protected_pages l.protection (page_of a) (page_of a + n)
    ∷ []

-- the pages become 0xFF
abbrev pub pages_erased : Loader → ℕ → ℕ → List ℕ → Answer Effect
pages_erased l a n f =
    given (record { loader = l; flash = erase_of f (start_of (page_of a)) (n * page_size) })

unfoldable pub erasing : ℕ → Loader → ℕ → ℕ → List ℕ → Answer Effect
erasing board l a n f =
    first (9 when l.sequence.opened ∷ [])
    (pick (mass_erase a n)
    (given (record { loader = cleared_of l; flash = erase_of f 0 (length f) }))
    (first (erase_rows board l a n) (pages_erased l a n f)))

-- W: each byte becomes old AND new
unfoldable pub write_rows : ℕ → Loader → ℕ → ℕ → List Rule
write_rows board l a x =
    9 when l.sequence.opened
    ∷ 7 when ltb (start_of board) (a + x)
    ∷ 8 when protected_bytes l.protection a (a + x)
    ∷ []

unfoldable pub writing : ℕ → Loader → ℕ → List ℕ → List ℕ → Answer Effect
writing board l a d f =
    first (write_rows board l a (length d)) (given (record { loader = l; flash = store_of f a d }))

-- V: accepted when all bytes, turned back, equal flash
unfoldable pub verify_rows : ℕ → Loader → ℕ → List ℕ → List ℕ → List Rule
verify_rows board l a d f =
    9 when l.sequence.opened
    ∷ 7 when ltb (start_of board) (a + length d)
    ∷ 8 when l.protection.read
    ∷ 10 when not (equals_of f a d)
    ∷ []

-- P, type 0x00 opens a sequence
unfoldable pub opening : Loader → Answer Loader
opening l = first (9 when l.sequence.opened ∷ []) (given (with_added l none))

-- type 0x0F adds the group of the address; just past flash it means read protection, and higher is 7
abbrev pub added_of : ℕ → Protection → ℕ → Protection
added_of board p a = pick (ltb a (start_of board)) (with_group p (group_of a)) (with_read p)

unfoldable pub adding : ℕ → Loader → ℕ → Answer Loader
adding board l a =
    first (9 when not l.sequence.opened ∷ 7 when leb (start_of board + group_size) a ∷ [])
    (given (with_added l (added_of board l.sequence.added a)))

-- type 0x01 joins the added groups to the protection in force, records the address as key, and closes
unfoldable pub closing : Loader → ℕ → Answer Loader
closing l a = first (9 when not l.sequence.opened ∷ []) (given (joined_of l a))

-- the command table has let no other type through (6)
unfoldable pub protecting : ℕ → Loader → ℕ → ℕ → Answer Loader
protecting board l a t = pick (eqb t 0x00) (opening l) (pick (eqb t 0x0F) (adding board l a) (closing l a))

-- R: address 0 (jump) or 1 (software reset)
unfoldable pub running : Loader → ℕ → Answer Loader
running l a = first (9 when l.sequence.opened ∷ 7 when ltb 1 a ∷ []) (given (with_condition l Left))

-- V, P and R leave flash as it was
abbrev pub keeping : List ℕ → Answer Loader → Answer Effect
keeping f (refused n) = refused n
keeping f (given l) = given (record { loader = l; flash = f })

-- the command c with its address and the bytes d after it; the command table has let no other through (5)
unfoldable pub obey_of : ℕ → Loader → ℕ → ℕ → List ℕ → List ℕ → Answer Effect
obey_of board l c a d f =
    pick (eqb c erase_byte) (erasing board l a (get_or d 0 0) f)
    (pick (eqb c write_byte) (writing board l a d f)
    (pick (eqb c verify_byte) (keeping f (first (verify_rows board l a d f) (given l)))
    (pick (eqb c protect_byte) (keeping f (protecting board l a (get_or d 0 0)))
    (keeping f (running l a)))))

-- the loader after an answer: a refusal leaves it as it was
abbrev pub loader_after : Loader → Answer Loader → Loader
loader_after l (refused n) = l
loader_after l (given m) = m

-- and so of flash
abbrev pub effect_after : Loader → List ℕ → Answer Effect → Effect
effect_after l f (refused n) = record { loader = l; flash = f }
effect_after l f (given e) = e

-- what the entry shows: verdict, next loader and flash are those of x
pub record Does (x : Answer Effect) (l : Loader) (f : List ℕ)
    (verdict : Answer (Unit {0})) (next : Loader) (flash : List ℕ) : Type 0 where
  pub verdict-is : verdict ≡ bare x
  pub loader-is : next ≡ (effect_after l f x).loader
  pub flash-is : flash ≡ (effect_after l f x).flash
