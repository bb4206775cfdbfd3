-- Laws of protection: which groups a set has, and when the protection and the key in force change.
use Rattle.std.specs.Prelude.{Bool, not, List, [], ◌≡◌, leb, eqb, length, get_or, drop}
use Rattle.std.proofs.Math.Bool.{true, false}
use Rattle.std.proofs.Math.Path.{refl, subst}
use Rattle.std.proofs.Common.{sym, ap, ◌∙◌, get_or-take, get_or-drop, ℕ, ◌+◌, ◌-◌, ◌*◌, ◌≤◌, ◌<◌, arith, leb-true, leb-false, eqb-true}
use Rattle.basis.specs.Bits.{bit}
use Rattle.basis.specs.Board.{group_size}
use Rattle.basis.specs.Choice.{pick, either}
use Rattle.basis.specs.Laws.Bits.{bit-or}
use Rattle.basis.specs.Laws.Choice.{decide, true-false, both_true, either-no, either_first, any_none, any_some}
use Rattle.basis.specs.Laws.Refusals.{skip, stop, done, by-table}
use Rattle.basis.specs.Refusals.{Answer, given, Rule, first}
use Rattle.basis.specs.Units.{group_of, page_group_of, page_of, start_of}
use Rattle.loader.specs.Commands.{Effect, protected_pages, protected_bytes, mass_erase, erase_rows, erasing, write_rows, writing, verify_rows, opening, added_of, adding, closing, protecting, running, obey_of, loader_after, effect_after}
use Rattle.loader.specs.Guard.{after_address, mass_erases, closes}
use Rattle.loader.specs.Laws.Commands.{either_way, erasing-open, erasing-pages, keeping-is}
use Rattle.loader.specs.Laws.Take.{any-input}
use Rattle.loader.specs.Protection.{none, join_of}
use Rattle.loader.specs.State.{with_condition, with_added, joined_of}
use Rattle.loader.specs.Take.{sent_data, take_of}
use Rattle.loader.specs.declared.protection.Protection.{Protection}
use Rattle.loader.specs.declared.state.Condition.TheVariants.{Left}
use Rattle.loader.specs.declared.state.Loader.{Loader}
use Rattle.packet.specs.Laws.Packet.{accepted}
use Rattle.packet.specs.Packet.{count, command, kind, Parts, parts, read_of}
use Rattle.packet.specs.Table.{erase_byte, write_byte, verify_byte, protect_byte, protect_type}

-- bytes and pages are free when each of their groups is
module _ (p : Protection) where
  Unprotected : ℕ → Type 0
  Unprotected g = bit p.groups g ≡ false

  pub free_bytes : (a e : ℕ) → a < e → ((b : ℕ) → a ≤ b → b < e → bit p.groups (group_of b) ≡ false)
      → protected_bytes p a e ≡ false
  unfolding Unprotected
  free_bytes a e h free =
      any_none (bit p.groups) (group_of a) (group_of (e + (group_size - 1)) - group_of a)
      (λ n l. let g : ℕ = group_of a + n in
      decide (leb a (group_size * g))
      (λ t. let u = leb-true a (group_size * g) t in
      subst Unprotected (omega arith) (free (group_size * g) u (omega arith)))
      (λ t. let u = leb-false a (group_size * g) t in
      subst Unprotected (omega arith) (free a (omega arith) h)))

  pub free-pages : (i j : ℕ) → i < j → ((q : ℕ) → i ≤ q → q < j → bit p.groups (page_group_of q) ≡ false)
      → protected_pages p i j ≡ false
  unfolding Unprotected
  free-pages i j h free =
      free_bytes (start_of i) (start_of j) (omega arith)
      (λ b u v. let e : page_group_of (page_of b) ≡ group_of b = omega arith in
      subst Unprotected e (free (page_of b) (omega arith) (omega arith)))

  -- one byte or page whose group is not free tells for all
  pub held_bytes : (a e b : ℕ) → a ≤ b → b < e → bit p.groups (group_of b) ≡ true
      → protected_bytes p a e ≡ true
  held_bytes a e b low high t =
      any_some (bit p.groups) (group_of a) (group_of (e + (group_size - 1)) - group_of a)
      (group_of b - group_of a)
      (omega arith)
      (let u : group_of b ≡ group_of a + (group_of b - group_of a) = omega arith in
      subst (λ (g : ℕ). bit p.groups g ≡ true) u t)

  pub held-pages : (i j q : ℕ) → i ≤ q → q < j → bit p.groups (page_group_of q) ≡ true
      → protected_pages p i j ≡ true
  held-pages i j q low high t =
      held_bytes (start_of i) (start_of j) (start_of q) (omega arith) (omega arith)
      (let u : page_group_of q ≡ group_of (start_of q) = omega arith in
      subst (λ (g : ℕ). bit p.groups g ≡ true) u t)

-- what a join protects
join-groups : (p q : Protection) (g : ℕ)
    → bit (join_of p q).groups g ≡ either (bit p.groups g) (bit q.groups g)
join-groups p q g = bit-or p.groups q.groups g

-- ---- an input that is no mass erase, or no P of type 0x01, as the packet that it is

module _ (s : List ℕ) where
  pub unmassed : mass_erases s ≡ false → (p : Parts) → read_of s ≡ given p → p.command ≡ erase_byte
      → mass_erase p.address (after_address s p) ≡ false
  unmassed h p r c = let t = rw (r, c) at h in t

  -- the byte after the address is where the command table looked for P's type
  type-sent : count s ≡ 6 → after_address s (parts s) ≡ kind s
  type-sent e = get_or-take (count s - 5) (drop 8 s) 0 0 (omega arith) ∙ get_or-drop 8 s 0 0

  -- the table has let no type through but 0x00, 0x0F and 0x01
  pub unclosed : closes s ≡ false → (p : Parts) → read_of s ≡ given p → p.command ≡ protect_byte
      → either (eqb (after_address s p) 0x00) (eqb (after_address s p) 0x0F) ≡ true
  unclosed h p r c =
      let a = accepted s p r in
      let b : command s ≡ protect_byte = ap (λ (x : Parts). x.command) a.says ∙ c in
      let t = both_true (eqb (count s) 6) (protect_type (kind s)) (rw b at a.shape) in
      let e : kind s ≡ after_address s p = sym (type-sent (eqb-true (count s) 6 t.0)) ∙ ap (after_address s)
      a.says in
      let u : protect_type (after_address s p) ≡ true = rw e at t.1 in
      let n : eqb (after_address s p) 0x01 ≡ false = rw (r, c) at h in
      rw (n, either-no) at u

-- ---- what is in force

-- what a table guards and what it leaves agree on something, so the outcome does
held : {X : Type 0} (see : Loader → X) (l m : Loader) (t : List Rule) → see m ≡ see l
    → see (loader_after l (first t (given m))) ≡ see l
held see l m t e = by-table (λ (x : Answer Loader). see (loader_after l x) ≡ see l) t (given m) (λ n. refl) e

-- the protection and the key
abbrev force : Loader → Protection × ℕ
force l = (l.protection, l.key)

module _ (board : ℕ) (l : Loader) (a : ℕ) where
  erase-keeps : (n : ℕ) (f : List ℕ) → mass_erase a n ≡ false
      → force (effect_after l f (erasing board l a n f)).loader ≡ force l
  erase-keeps n f e =
      decide l.sequence.opened
      (λ p. rw (erasing-open board l a n f p))
      (λ p. rw (erasing-pages board l a n f p e)
      (either_way (λ (x : Effect). force x.loader ≡ force l) l f _ (erase_rows board l a n) refl refl))

  protect-keeps : (t : ℕ) → either (eqb t 0x00) (eqb t 0x0F) ≡ true
      → force (loader_after l (protecting board l a t)) ≡ force l
  unfolding protecting opening adding
  protect-keeps t e = go (eqb t 0x00) (eqb t 0x0F) e
    where
      go : (o g : Bool) → either o g ≡ true
          → force (loader_after l (pick o (opening l) (pick g (adding board l a) (closing l a)))) ≡ force l
      go true g e = held force l (with_added l none) _ refl
      go false true e = held force l (with_added l (added_of board l.sequence.added a)) _ refl
      go false false e = absurd (true-false (sym e))

  -- of the commands, a mass erase and a P of type 0x01 change it, and no other
  pub force-kept : (c : ℕ) (d f : List ℕ) → (c ≡ erase_byte → mass_erase a (get_or d 0 0) ≡ false)
      → (c ≡ protect_byte → either (eqb (get_or d 0 0) 0x00) (eqb (get_or d 0 0) 0x0F) ≡ true)
      → force (effect_after l f (obey_of board l c a d f)).loader ≡ force l
  unfolding obey_of writing running
  force-kept c d f e p =
      decide (eqb c erase_byte) (λ t. rw t (erase-keeps (get_or d 0 0) f (e (eqb-true c erase_byte t))))
      (λ t. decide (eqb c write_byte)
      (λ u. rw (t, u)
      (either_way (λ (x : Effect). force x.loader ≡ force l) l f _
      (write_rows board l a (length d)) refl refl))
      (λ u. decide (eqb c verify_byte)
      (λ v. rw (t, u, v, keeping-is l f (first (verify_rows board l a d f) (given l)))
      (held force l l (verify_rows board l a d f) refl))
      (λ v. decide (eqb c protect_byte)
      (λ w. rw (t, u, v, w, keeping-is l f (protecting board l a (get_or d 0 0)))
      (protect-keeps (get_or d 0 0) (p (eqb-true c protect_byte w))))
      (λ w. rw (t, u, v, w, keeping-is l f (running l a)) (held force l (with_condition l Left) _ refl)))))

-- so of all inputs only the mass erase and a P of type 0x01 change it
pub force-by : (board : ℕ) (l : Loader) (s f : List ℕ) (room : ℕ) → mass_erases s ≡ false → closes s ≡ false
    → force (effect_after l f (take_of board l s f room)).loader ≡ force l
force-by board l s f room m n =
    any-input (λ (e : Effect). force e.loader ≡ force l) board l s f room refl refl
    (λ p r. force-kept board l p.address p.command (sent_data s p) f (unmassed s m p r)
    (unclosed s n p r))

-- and by the latter it grows: no group and no read protection is lost
pub close-grows : (l : Loader) (a g : ℕ) → bit l.protection.groups g ≡ true
    → bit (loader_after l (closing l a)).protection.groups g ≡ true
unfolding closing
close-grows l a g e =
    decide (not l.sequence.opened)
    (λ t. rw (stop 9 _ [] (given (joined_of l a)) t) e)
    (λ t. rw (skip 9 _ [] (given (joined_of l a)) t ∙ done _)
    (join-groups l.protection l.sequence.added g ∙ either_first (bit l.protection.groups g) _ e))

pub close-grows-read : (l : Loader) (a : ℕ) → l.protection.read ≡ true
    → (loader_after l (closing l a)).protection.read ≡ true
unfolding closing
close-grows-read l a e =
    decide (not l.sequence.opened)
    (λ t. rw (stop 9 _ [] (given (joined_of l a)) t) e)
    (λ t. rw (skip 9 _ [] (given (joined_of l a)) t ∙ done _) (either_first l.protection.read _ e))
