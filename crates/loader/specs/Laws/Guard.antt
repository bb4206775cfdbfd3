-- What protection refuses and keeps, told of the entry: for every loader, flash, input and room.
use Rattle.std.proofs.lemmas.Bool.{eqb-false, not-false}
use Rattle.std.specs.Prelude.{ℕ, ◌+◌, ◌*◌, ◌≤◌, ◌<◌, Bool, true, List, ◌≡◌, ltb, eqb, get_or, replicate}
use Rattle.std.proofs.Math.Bool.{false}
use Rattle.std.proofs.Math.Path.{refl, sym, ap}
use Rattle.std.proofs.Common.{◌∙◌, arith, length-take, length-drop, le-ltb, ltb-true, ltb-false, eqb-true, ne_eqb}
use Rattle.std.specs.Int.Bits.{bit_and}
use Rattle.std.proofs.Math.ListN.{length}
use Rattle.std.proofs.lemmas.List.{length-replicate}
use Rattle.basis.specs.Board.{page_size, answer_most, opening_byte}
use Rattle.basis.specs.Choice.{pick, both}
use Rattle.basis.specs.Laws.Choice.{decide, true-false, both_true, both_false, both_yes}
use Rattle.basis.specs.Laws.Lists.{stored-below, stored-above}
use Rattle.basis.specs.Laws.Refusals.{apart, skip, stop, passed, done, by-table}
use Rattle.basis.specs.Lists.{new}
use Rattle.basis.specs.Refusals.{Answer, refused, given, first}
use Rattle.basis.specs.Units.{group_of, page_group_of, page_of, start_of}
use Rattle.image.specs.Flash.{erase_of}
use Rattle.image.specs.Laws.Flash.{length-erase, length-store}
use Rattle.loader.specs.Commands.{Effect, effect_after, mass_erase, erase_rows, erasing, write_rows, writing, verify_rows, running, keeping, obey_of}
use Rattle.loader.specs.Guard.{guarded_byte, guarded_page, after_address, mass_erases, accepts}
use Rattle.loader.specs.Laws.Commands.{either_way, erase-let, erase-protected, erasing-open, erasing-pages, write-let, write-protected, verify-let, obey-erase, obey-write, obey-verify}
use Rattle.loader.specs.Laws.Host.{flash-kept}
use Rattle.loader.specs.Laws.Protection.{held_bytes, held-pages, unmassed}
use Rattle.loader.specs.Laws.Take.{take-heard, heard-serving, served-packet, any-input}
use Rattle.loader.specs.State.{with_condition}
use Rattle.loader.specs.Take.{waiting, unheard, serve_of, hear_of, take_of, sent_data}
use Rattle.loader.specs.declared.state.Condition.{Condition}
use Rattle.loader.specs.declared.state.Condition.TheVariants.{Waiting, Serving, Left}
use Rattle.loader.specs.declared.state.Loader.{Loader}
use Rattle.packet.specs.Laws.Packet.{accepted, data-within}
use Rattle.packet.specs.Packet.{Parts, read_of}
use Rattle.packet.specs.Table.{erase_byte, write_byte, verify_byte, protect_byte}

-- ---- what the tables do with a protected group

-- what is never accepted leaves all as it was
refused-stays : (l : Loader) (f : List ℕ) (x : Answer Effect) → ((e : Effect) → x ≡ given e → ⊥)
    → effect_after l f x ≡ record { loader = l; flash = f }
refused-stays l f (refused n) h = refl
refused-stays l f (given e) h = absurd (h e refl)

module _ (board : ℕ) (l : Loader) (a : ℕ) (f : List ℕ) where
  writing-guarded : (d : List ℕ) (b : ℕ) → a ≤ b → b < a + length d → guarded_byte l b ≡ true
      → (e : Effect) → writing board l a d f ≡ given e → ⊥
  unfolding writing
  writing-guarded d b low high g e t =
      true-false
      (sym (held_bytes l.protection a (a + length d) b low high g)
      ∙ (write-let board l a (length d) _ t).2)

  erased-guarded : {A : Type 0} {y : A} (n q : ℕ) → page_of a ≤ q → q < page_of a + n
      → guarded_page l q ≡ true
      → (x : Answer A) → first (erase_rows board l a n) x ≡ given y → ⊥
  erased-guarded n q low high g x t =
      true-false
      (sym (held-pages l.protection (page_of a) (page_of a + n) q low high g) ∙ (erase-let board l a n x t).3)

  -- a range that has a page is no mass erase
  no-mass : (n q : ℕ) → page_of a ≤ q → q < page_of a + n → mass_erase a n ≡ false
  no-mass n q low high = both_false (eqb n 0) (eqb a 0) (ne_eqb n 0 (λ e. omega arith))

  erasing-guarded : (n q : ℕ) → page_of a ≤ q → q < page_of a + n → guarded_page l q ≡ true
      → (e : Effect) → erasing board l a n f ≡ given e → ⊥
  erasing-guarded n q low high g e t =
      decide l.sequence.opened
      (λ o. apart (sym (erasing-open board l a n f o) ∙ t))
      (λ o. erased-guarded n q low high g _ (sym (erasing-pages board l a n f o (no-mass n q low high)) ∙ t))

  verifying-guarded : (d : List ℕ) → l.protection.read ≡ true
      → (e : Effect) → keeping f (first (verify_rows board l a d f) (given l)) ≡ given e → ⊥
  verifying-guarded d g e t = go (first (verify_rows board l a d f) (given l)) refl t
    where
      go : (x : Answer Loader) → first (verify_rows board l a d f) (given l) ≡ x → keeping f x ≡ given e → ⊥
      go (refused n) u t = apart t
      go (given m) u t = true-false (sym g ∙ (verify-let board l a d f (given l) u).2)

  -- under an open sequence all but P is 9
  obeying-open : (c : ℕ) (d : List ℕ) → l.sequence.opened ≡ true → (c ≡ protect_byte → ⊥)
      → obey_of board l c a d f ≡ refused 9
  unfolding first obey_of erasing writing write_rows verify_rows running
  obeying-open c d o h =
      rw (ne_eqb c protect_byte h, o) (go (eqb c erase_byte) (eqb c write_byte) (eqb c verify_byte))
    where
      nine : Answer Effect
      nine = refused 9

      go : (x y z : Bool) → pick x nine (pick y nine (pick z nine nine)) ≡ nine
      go true y z = refl
      go false true z = refl
      go false false true = refl
      go false false false = refl

-- ---- what the commands leave of flash

module _ (board : ℕ) (l : Loader) (a : ℕ) (f : List ℕ) where
  abbrev Long : Answer Effect → Type 0
  Long x = length (effect_after l f x).flash ≡ length f

  erasing-long : (n : ℕ) → Long (erasing board l a n f)
  unfolding erasing
  erasing-long n =
      by-table Long _ _ (λ n. refl)
      (decide (mass_erase a n)
      (λ t. rw t (length-erase f 0 (length f)))
      (λ t. rw t
      (by-table Long (erase_rows board l a n) _ (λ n. refl)
      (length-erase f (start_of (page_of a)) (n * page_size)))))

  obeying-long : (c : ℕ) (d : List ℕ) → Long (obey_of board l c a d f)
  unfolding writing
  obeying-long c d =
      decide (eqb c erase_byte)
      (λ t. rw (eqb-true c erase_byte t, obey-erase board l a d f) (erasing-long (get_or d 0 0)))
      (λ t. decide (eqb c write_byte)
      (λ u. rw (eqb-true c write_byte u, obey-write board l a d f)
      (by-table Long (write_rows board l a (length d)) _ (λ n. refl) (length-store f a d)))
      (λ u. rw (flash-kept board l c a d f (eqb-false c erase_byte t) (eqb-false c write_byte u))))

-- and of a protected byte

module _ (board : ℕ) (l : Loader) (a : ℕ) (f : List ℕ) (b : ℕ) (g : guarded_byte l b ≡ true) where
  abbrev Stays : Effect → Type 0
  Stays e = get_or e.flash b 0 ≡ get_or f b 0

  writing-stays : (d : List ℕ) → Stays (effect_after l f (writing board l a d f))
  unfolding writing
  writing-stays d =
      decide (ltb b a)
      (λ t. let h = ltb-true b a t in
      either_way Stays l f _ (write_rows board l a (length d)) refl (stored-below bit_and f a d b h))
      (λ t. decide (ltb b (a + length d))
      (λ u. let h = ltb-true b (a + length d) u in
      rw (refused-stays l f _ (writing-guarded board l a f d b (ltb-false b a t) h g)))
      (λ u. let h = ltb-false b (a + length d) u in
      either_way Stays l f _ (write_rows board l a (length d)) refl (stored-above bit_and f a d b h)))

  erased-stays : (n : ℕ)
      → Stays (effect_after l f
      (first (erase_rows board l a n)
      (given (record { loader = l; flash = erase_of f (start_of (page_of a)) (n * page_size) }))))
  erased-stays n =
      let u : ℕ = start_of (page_of a) in
      let v : ℕ = start_of (page_of a + n) in
      decide (ltb b u)
      (λ t. let h = ltb-true b u t in
      either_way Stays l f _ (erase_rows board l a n) refl (stored-below new f u _ b h))
      (λ t. let i = ltb-false b u t in
      decide (ltb b v)
      (λ t. let h = ltb-true b v t in
      let e : group_of b ≡ page_group_of (page_of b) = omega arith in
      rw (refused-stays l f _
      (λ y. erased-guarded board l a f n (page_of b) (omega arith) (omega arith) (rw e at g) _)))
      (λ t. let h = ltb-false b v t in
      either_way Stays l f _ (erase_rows board l a n) refl
      (stored-above new f u (replicate (n * page_size) 0xFF) b (simp length-replicate (omega arith)))))

  erasing-stays : (n : ℕ) → mass_erase a n ≡ false → Stays (effect_after l f (erasing board l a n f))
  erasing-stays n m =
      decide l.sequence.opened
      (λ o. rw (erasing-open board l a n f o))
      (λ o. rw (erasing-pages board l a n f o m) (erased-stays n))

  obeying-stays : (c : ℕ) (d : List ℕ) → (c ≡ erase_byte → mass_erase a (get_or d 0 0) ≡ false)
      → Stays (effect_after l f (obey_of board l c a d f))
  obeying-stays c d m =
      decide (eqb c erase_byte)
      (λ t. let e = eqb-true c erase_byte t in
      rw (e, obey-erase board l a d f) (erasing-stays (get_or d 0 0) (m e)))
      (λ t. decide (eqb c write_byte)
      (λ u. rw (eqb-true c write_byte u, obey-write board l a d f) (writing-stays d))
      (λ u. rw (flash-kept board l c a d f (eqb-false c erase_byte t) (eqb-false c write_byte u))))

-- ---- a packet at the entry

-- a packet is not the opening byte
packet-long : (s : List ℕ) (p : Parts) → read_of s ≡ given p → length s ≡ 1 → ⊥
packet-long s p r e = let a = accepted s p r in omega arith

module _ (board : ℕ) (l : Loader) (s f : List ℕ) (room : ℕ) (p : Parts) (r : read_of s ≡ given p) where
  abbrev obeys : Answer Effect
  obeys = obey_of board l p.command p.address (sent_data s p) f

  -- an accepted packet was obeyed
  packet-obeyed : {e : Effect} → take_of board l s f room ≡ given e → obeys ≡ given e
  unfolding take_of hear_of
  packet-obeyed {e} t =
      let u = passed 11 _ _ _ (sym (done _) ∙ (passed 20 _ _ _ t).1) in
      go l.condition u.0 (sym (done _) ∙ u.1)
    where
      go : (c : Condition) → unheard c s ≡ false
          → pick (waiting c) (given (record { loader = with_condition l Serving; flash = f }))
          (serve_of board l s f)
          ≡ given e
          → obeys ≡ given e
      go Waiting h q =
          absurd (packet-long s p r
          (eqb-true _ _ (both_true (eqb (length s) 1) (eqb (get_or s 0 0) opening_byte) (not-false _ h)).0))
      go Serving h q = sym (served-packet board l s f p r) ∙ q
      go Left h q = absurd (true-false h)

  -- as many bytes were sent as the packet says
  sent-length : length (sent_data s p) ≡ p.size
  sent-length = let h = data-within s p r in simp (length-take, length-drop) (omega arith)

  packet-taken : length f ≡ start_of board → answer_most ≤ room → l.condition ≡ Serving
      → take_of board l s f room ≡ obeys
  packet-taken size fits c =
      take-heard board l s f room size fits ∙ heard-serving board l s f c ∙ served-packet board l s f p r

  -- ---- W on a protected group
  module _ (w : p.command ≡ write_byte) (b : ℕ) (low : p.address ≤ b) (high : b < p.address + p.size)
      (g : guarded_byte l b ≡ true) where
    -- it is never accepted
    pub write-guarded : (e : Effect) → take_of board l s f room ≡ given e → ⊥
    write-guarded e t =
        let o = rw w at (packet-obeyed t) in
        writing-guarded board l p.address f (sent_data s p) b low (omega (arith, sent-length)) g e
        (sym (obey-write board l p.address (sent_data s p) f) ∙ o)

    -- 8 where 9 and 7 do not come first
    pub write-eight : length f ≡ start_of board → answer_most ≤ room → l.condition ≡ Serving
        → l.sequence.opened ≡ false
        → p.address + p.size ≤ start_of board
        → take_of board l s f room ≡ refused 8
    unfolding writing
    write-eight size fits c o h =
        let t = rw w at (packet-taken size fits c) in
        t ∙ obey-write board l p.address (sent_data s p) f
        ∙ write-protected board l p.address (length (sent_data s p)) _ o (omega (arith, sent-length))
        (held_bytes l.protection p.address (p.address + length (sent_data s p)) b low
        (omega (arith, sent-length)) g)

  -- ---- E on a page of a protected group: so its count is not 0, and it is not the mass erase
  module _ (w : p.command ≡ erase_byte) (q : ℕ) (low : page_of p.address ≤ q)
      (high : q < page_of p.address + after_address s p) (g : guarded_page l q ≡ true) where
    -- it is never accepted
    pub erase-guarded : (e : Effect) → take_of board l s f room ≡ given e → ⊥
    erase-guarded e t =
        let o = rw w at (packet-obeyed t) in
        erasing-guarded board l p.address f (after_address s p) q low high g e
        (sym (obey-erase board l p.address (sent_data s p) f) ∙ o)

    -- 8 where 9 and 7 do not come first
    pub erase-eight : length f ≡ start_of board → answer_most ≤ room → l.condition ≡ Serving
        → l.sequence.opened ≡ false
        → page_of p.address + after_address s p ≤ board
        → take_of board l s f room ≡ refused 8
    erase-eight size fits c o h =
        let t = rw w at (packet-taken size fits c) in
        t ∙ obey-erase board l p.address (sent_data s p) f
        ∙ erasing-pages board l p.address (after_address s p) f o
        (no-mass board l p.address f (after_address s p) q low high)
        ∙ erase-protected board l p.address (after_address s p) _ (λ z. omega arith) (omega arith) h
        (held-pages l.protection (page_of p.address) (page_of p.address + after_address s p) q low high
        g)

  -- ---- V under read protection
  module _ (w : p.command ≡ verify_byte) (g : l.protection.read ≡ true) where
    -- it is never accepted
    pub read-guarded : (e : Effect) → take_of board l s f room ≡ given e → ⊥
    read-guarded e t =
        let o = rw w at (packet-obeyed t) in
        verifying-guarded board l p.address f (sent_data s p) g e
        (sym (obey-verify board l p.address (sent_data s p) f) ∙ o)

    -- 8 where 9 and 7 do not come first
    pub read-eight : length f ≡ start_of board → answer_most ≤ room → l.condition ≡ Serving
        → l.sequence.opened ≡ false
        → p.address + p.size ≤ start_of board
        → take_of board l s f room ≡ refused 8
    unfolding verify_rows
    read-eight size fits c o h =
        let t = rw w at (packet-taken size fits c) in
        let n = le-ltb (start_of board) (p.address + length (sent_data s p)) (omega (arith, sent-length)) in
        t ∙ obey-verify board l p.address (sent_data s p) f
        ∙ ap (keeping f) (skip 9 _ _ (given l) o ∙ skip 7 _ _ (given l) n ∙ stop 8 _ _ (given l) g)

  -- ---- under an open sequence every packet but P is 9, the mass erase too
  pub open-nine : length f ≡ start_of board → answer_most ≤ room → l.condition ≡ Serving
      → l.sequence.opened ≡ true
      → (p.command ≡ protect_byte → ⊥)
      → take_of board l s f room ≡ refused 9
  open-nine size fits c o h =
      packet-taken size fits c ∙ obeying-open board l p.address f p.command (sent_data s p) o h

-- ---- what stays

-- flash is as long as it was, whatever the input
pub length-stays : (board : ℕ) (l : Loader) (s f : List ℕ) (room : ℕ)
    → length (effect_after l f (take_of board l s f room)).flash ≡ length f
length-stays board l s f room =
    any-input (λ (e : Effect). length e.flash ≡ length f) board l s f room refl refl
    (λ p r. obeying-long board l p.address f p.command (sent_data s p))

-- under an open sequence no input changes flash
pub open_stays : (board : ℕ) (l : Loader) (s f : List ℕ) (room : ℕ) → l.sequence.opened ≡ true
    → (effect_after l f (take_of board l s f room)).flash ≡ f
open_stays board l s f room o =
    any-input (λ (e : Effect). e.flash ≡ f) board l s f room refl refl
    (λ p r. decide (eqb p.command protect_byte)
    (λ t. rw (eqb-true p.command protect_byte t)
    (flash-kept board l protect_byte p.address (sent_data s p) f (λ e. omega arith) (λ e. omega arith)))
    (λ t. rw (obeying-open board l p.address f p.command (sent_data s p) o
    (eqb-false p.command protect_byte t))))

-- a byte in a protected group is as before, unless the input is a mass erase that is accepted
pub protected-stays : (board : ℕ) (l : Loader) (s f : List ℕ) (room b : ℕ) → guarded_byte l b ≡ true
    → both (mass_erases s) (accepts (take_of board l s f room)) ≡ false
    → get_or (effect_after l f (take_of board l s f room)).flash b 0 ≡ get_or f b 0
protected-stays board l s f room b g h = go (take_of board l s f room) refl h
  where
    go : (x : Answer Effect) → take_of board l s f room ≡ x → both (mass_erases s) (accepts x) ≡ false
        → get_or (effect_after l f (take_of board l s f room)).flash b 0 ≡ get_or f b 0
    go (refused n) t u = rw t
    go (given e) t u =
        any-input (λ (x : Effect). get_or x.flash b 0 ≡ get_or f b 0) board l s f room refl refl
        (λ p r. obeying-stays board l p.address f b g p.command (sent_data s p)
        (unmassed s (sym (both_yes (mass_erases s)) ∙ u) p r))
