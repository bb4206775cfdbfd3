-- The paper's cases marked (p) hold, for every flash of the board's size.
use Rattle.std.proofs.lemmas.Bool.{lt-leb}
use Rattle.std.proofs.Math.Bool.{true, not}
use Rattle.std.specs.Prelude.{false, ◌≡◌, leb, length, get_or, set, take, drop, replicate}
use Rattle.std.proofs.Math.Path.{refl, ap}
use Rattle.std.proofs.Common.{sym, subst, ◌∙◌, arith, lit<, length-append, length-set, take-append-drop, length-take-le, get_or-set_same, ℕ, ◌+◌, ◌*◌, ◌≤◌, ◌<◌, List, [], ◌∷◌, ◌++◌, append_assoc, le-leb, le-ltb, ne_eqb}
use Rattle.std.proofs.Math.Nat.{zero-div}
use Rattle.std.proofs.lemmas.List.{length-replicate}
use Rattle.basis.specs.Bits.{bit}
use Rattle.basis.specs.Board.{pages_of, pages_most, page_size, group_size, data_most, answer_most}
use Rattle.basis.specs.Laws.Boards.{pages-few}
use Rattle.basis.specs.Laws.Choice.{both-second}
use Rattle.basis.specs.Laws.Lists.{copy-overlay}
use Rattle.basis.specs.Laws.Refusals.{skip, stop, done}
use Rattle.basis.specs.Lists.{stored}
use Rattle.basis.specs.Refusals.{Answer, given, first}
use Rattle.basis.specs.Sums.{plain_sum, sum_of}
use Rattle.basis.specs.Units.{page_of, group_of, page_group_of, start_of}
use Rattle.basis.specs.declared.board.Board.{Board}
use Rattle.image.specs.Flash.{erase_of, store_of}
use Rattle.loader.specs.Cases.{Holds, serving, opened, Accepts, Adds, Greets, Refuses, page_erased, cases}
use Rattle.loader.specs.Commands.{Effect, mass_erase, erase_rows, write_rows, writing, verify_rows, added_of, adding, protecting, keeping}
use Rattle.loader.specs.Laws.Commands.{erase-none, erase-over, erase-passes, erasing-pages, write-past, write-passes}
use Rattle.loader.specs.Laws.Host.{sent-opening, sent-erase, sent-write, sent-verify, sent-protect}
use Rattle.loader.specs.Laws.Protection.{free-pages, free_bytes}
use Rattle.loader.specs.Laws.Take.{take-heard, heard-serving, served-unread}
use Rattle.loader.specs.Protection.{none}
use Rattle.loader.specs.State.{factory_of}
use Rattle.loader.specs.Take.{take_of, answer_bytes}
use Rattle.loader.specs.Verify.{equals_of}
use Rattle.loader.specs.declared.state.Loader.{Loader}
use Rattle.packet.specs.Laws.Turn.{restored-turned}
use Rattle.packet.specs.Packet.{packet, rows, read_of}
use Rattle.packet.specs.Table.{erase_byte, write_byte, verify_byte, protect_byte}

-- ---- what the entry gives decides what it answers

gives : (board : ℕ) (l : Loader) {x y : Answer Effect} → x ≡ y
    → (x ≡ y) × (answer_bytes board l x ≡ answer_bytes board l y)
gives board l e = (e, ap (answer_bytes board l) e)

-- ---- flash after an erase, written out

erased-is : (f : List ℕ) (a n : ℕ) → a + n ≤ length f
    → erase_of f a n ≡ take a f ++ (replicate n 0xFF ++ drop (a + n) f)
erased-is f a n h =
    let t : List ℕ = take a f in
    let r : List ℕ = replicate n 0xFF in
    let lt : length t ≡ a = length-take-le a f (omega arith) in
    let lr : length r ≡ n = length-replicate {A = ℕ} n 0xFF in
    let l : length (t ++ r) ≡ a + n = simp length-append (omega arith) in
    ap (λ (g : List ℕ). erase_of g a n) (sym (ap (λ (k : ℕ). t ++ drop k f) lt ∙ take-append-drop a f))
    ∙ copy-overlay t f r a lt (omega arith)
    ∙ append_assoc t r (drop (length (t ++ r)) f)
    ∙ ap (λ (k : ℕ). t ++ (r ++ drop k f)) l

-- ---- no group of a loader from the factory is protected

no-group : (g : ℕ) → bit 0 g ≡ false
no-group g = simp zero-div

-- ---- each command, as the entry takes it

module _ (board : ℕ) (few : board ≤ pages_most) (f : List ℕ) (room : ℕ) (size : length f ≡ start_of board)
    (fits : answer_most ≤ room) where
  erase-taken : (a n : ℕ) → a < start_of board → mass_erase a n ≡ false
      → take_of board serving (packet erase_byte a (n ∷ [])) f room
      ≡ first (erase_rows board serving a n)
      (given (record { loader = serving; flash = erase_of f (start_of (page_of a)) (n * page_size) }))
  erase-taken a n h m =
      sent-erase board serving f room size fits refl a (omega arith) n
      ∙ erasing-pages board serving a n f refl m

  erase-one : (a : ℕ) → a < start_of board
      → Accepts board f room (packet erase_byte a (1 ∷ [])) (page_erased (page_of a) f)
  erase-one a h =
      gives board serving
      (erase-taken a 1 h refl
      ∙ erase-passes board serving a 1 _ (λ e. omega arith) h (omega arith)
      (free-pages none (page_of a) (page_of a + 1) (omega arith) (λ q u v. no-group (page_group_of q)))
      ∙ ap (λ (g : List ℕ). given (record { loader = serving; flash = g }))
      (erased-is f (start_of (page_of a)) page_size (omega arith)))

  -- no pages, or pages past the last one
  erase-zero : (a : ℕ) → a < start_of board → mass_erase a 0 ≡ false
      → Refuses board serving f room (packet erase_byte a (0 ∷ [])) 7
  erase-zero a h m = gives board serving (erase-taken a 0 h m ∙ erase-none board serving a 0 _ refl)

  erase-more : (a n : ℕ) → a < start_of board → mass_erase a n ≡ false → board < page_of a + n
      → Refuses board serving f room (packet erase_byte a (n ∷ [])) 7
  erase-more a n h m o = gives board serving (erase-taken a n h m ∙ erase-over board serving a n _ o)

  write-taken : (a : ℕ) (d : List ℕ) → a < start_of board → 0 < length d → length d ≤ data_most
      → take_of board serving (packet write_byte a d) f room
      ≡ first (write_rows board serving a (length d))
      (given (record { loader = serving; flash = store_of f a d }))
  unfolding writing
  write-taken a d h p q = sent-write board serving f room size fits refl a (omega arith) d p q

  write-one : (a b : ℕ) → a < start_of board
      → Accepts board f room (packet write_byte a (b ∷ [])) (store_of f a (b ∷ []))
  write-one a b h =
      gives board serving
      (write-taken a (b ∷ []) h (lit< tt) (omega arith)
      ∙ write-passes board serving a 1 _ refl (omega arith)
      (free_bytes none a (a + 1) (omega arith) (λ k u v. no-group (group_of k))))

  write_two : (a b c : ℕ) → a < start_of board → start_of board < a + 2
      → Refuses board serving f room (packet write_byte a (b ∷ c ∷ [])) 7
  write_two a b c h o =
      gives board serving
      (write-taken a (b ∷ c ∷ []) h (lit< tt) (omega arith) ∙ write-past board serving a 2 _ refl o)

  -- V of a byte that flash has not
  verify-other : (a b : ℕ) → a < start_of board → b < 256 → (get_or f a 0 ≡ b → ⊥)
      → Refuses board serving f room (packet verify_byte a (b ∷ [])) 10
  unfolding verify_rows equals_of
  verify-other a b h l e =
      gives board serving
      (sent-verify board serving f room size fits refl a (omega arith) (b ∷ []) (lit< tt) (omega arith)
      ∙ ap (keeping f)
      (skip 9 _ _ _ refl ∙ skip 7 _ _ _ (le-ltb (start_of board) (a + 1) (omega arith)) ∙ skip 8 _ _ _ refl
      ∙ stop 10 _ _ _ (rw (restored-turned b l, ne_eqb _ _ e))))

  count-four : (s : List ℕ) → Refuses board serving f room (0x07 ∷ 0x0E ∷ 0x04 ∷ s) 3
  unfolding read_of rows
  count-four s =
      let w : List ℕ = 0x07 ∷ 0x0E ∷ 0x04 ∷ s in
      gives board serving
      (take-heard board serving w f room size fits
      ∙ heard-serving board serving w f refl
      ∙ served-unread board serving w f
      (skip 1 _ _ _ (ap not (both-second (leb 2 (length w)) true (le-leb 2 (length w) (omega arith))))
      ∙ skip 2 _ _ _ (lt-leb (length w) 2 (omega arith))
      ∙ stop 3 _ _ _ refl))

  -- P 0x0F below and past the range of read protection
  add-one : (a : ℕ) → a < start_of board + group_size → Adds board f room a (added_of board none a)
  unfolding protecting adding
  add-one a h =
      gives board (opened none)
      (sent-protect board (opened none) f room size fits refl a (omega arith) 0x0F refl
      ∙ ap (keeping f)
      (skip 9 _ _ _ refl ∙ skip 7 _ _ _ (lt-leb (start_of board + group_size) a h) ∙ done _))

  add-past : (a : ℕ) → start_of board + group_size ≤ a → a < 0x100000000
      → Refuses board (opened none) f room (packet protect_byte a (0x0F ∷ [])) 7
  unfolding protecting adding
  add-past a h l =
      gives board (opened none)
      (sent-protect board (opened none) f room size fits refl a l 0x0F refl
      ∙ ap (keeping f) (skip 9 _ _ _ refl ∙ stop 7 _ _ _ (le-leb (start_of board + group_size) a h)))

  greets : Greets board f room
      (answer_bytes board factory_of (given (record { loader = serving; flash = f })))
  greets = gives board factory_of (sent-opening board factory_of f room size fits refl)

-- W of 0x0F over 0xF0
store-over : (f : List ℕ) (a : ℕ) → get_or f a 0 ≡ 0xF0 → store_of f a (0x0F ∷ []) ≡ set f a 0x00
unfolding stored
store-over f a e = rw e

-- one case and the rest
infixr 50 ◌also◌
◌also◌ : {A B : Type 0} → A → B → A × B
a also b = (a, b)

pub paper-cases : (f g : List ℕ) (room : ℕ) → length f ≡ start_of (pages_of Board.Short)
    → length g ≡ start_of (pages_of Board.Long) → answer_most ≤ room
    → Holds (cases f g room)
unfolding packet sum_of plain_sum
paper-cases f g room l m h =
    let short : ℕ = pages_of Board.Short in
    let long : ℕ = pages_of Board.Long in
    let low : short ≤ pages_most = pages-few Board.Short in
    let high : long ≤ pages_most = pages-few Board.Long in
    refl also refl also refl
    also refl also refl also refl also refl
    also erase-one short low f room l h 0x01FF (lit< tt)
    also erase-one short low f room l h 0xF600 (lit< tt)
    also erase-more short low f room l h 0xF600 2 (lit< tt) refl (lit< tt)
    also erase-zero short low f room l h 1 (lit< tt) refl
    also erase-one long high g room m h 0x1EE00 (lit< tt)
    also erase-more long high g room m h 0x1EE00 2 (lit< tt) refl (lit< tt)
    also (λ b. write-one short low f room l h 0xF7FF b (lit< tt))
    also (λ b c. write_two short low f room l h 0xF7FF b c (lit< tt) (lit< tt))
    also (λ b. write-one long high g room m h 0x1EFFF b (lit< tt))
    also (λ b c. write_two long high g room m h 0x1EFFF b c (lit< tt) (lit< tt))
    also (λ a u e. (
      subst (λ (x : List ℕ). Accepts short f room (packet write_byte a (0x0F ∷ [])) x) (store-over f a e)
          (write-one short low f room l h a 0x0F u),
      verify-other short low (set f a 0x00) room (length-set f a 0x00 ∙ l) h a 0x0F u (lit< tt)
          (λ q. omega (arith, get_or-set_same f a 0x00 0 (omega arith))),
    ))
    also count-four short low f room l h
    also add-one short low f room l h 0xF800 (lit< tt)
    also add-one short low f room l h 0xFFFF (lit< tt)
    also add-past short low f room l h 0x10000 (omega arith) (lit< tt)
    also add-one long high g room m h 0xF800 (lit< tt)
    also add-one long high g room m h 0x1F000 (lit< tt)
    also add-one long high g room m h 0x1F7FF (lit< tt)
    also add-past long high g room m h 0x1F800 (omega arith) (lit< tt)
    also greets short low f room l h
    also greets long high g room m h
    also tt
