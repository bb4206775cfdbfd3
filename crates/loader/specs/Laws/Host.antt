-- The packets of the host, as a serving loader takes them.
use Rattle.std.specs.Prelude.{ℕ, ◌^◌, ◌≤◌, ◌<◌, Bool, true, false, List, [], ◌∷◌, map, ◌≡◌, refl, eqb, length, get_or}
use Rattle.std.proofs.Common.{ap, ◌∙◌, ne_eqb}
use Rattle.basis.specs.Board.{answer_most, opening_byte, data_most}
use Rattle.basis.specs.Choice.{pick}
use Rattle.basis.specs.Refusals.{Answer, given, first}
use Rattle.basis.specs.Units.{start_of}
use Rattle.loader.specs.Commands.{effect_after, keeping, erasing, writing, verify_rows, running, obey_of, Effect, protecting}
use Rattle.loader.specs.Laws.Commands.{obey-erase, obey-write, obey-verify, obey-protect, obey-run, keeping-is}
use Rattle.loader.specs.Laws.Take.{heard-waiting, heard-serving, served-packet, take-heard, any-input}
use Rattle.loader.specs.State.{with_condition}
use Rattle.loader.specs.Take.{take_of, sent_data}
use Rattle.loader.specs.declared.state.Condition.TheVariants.{Waiting, Serving}
use Rattle.loader.specs.declared.state.Loader.{Loader}
use Rattle.packet.specs.Laws.Packet.{packet-data, carried-plainly, read-packet, read-erase, read-write, read-verify, read-run}
use Rattle.packet.specs.Packet.{carried_of, packet, Parts, said, read_of}
use Rattle.packet.specs.Table.{erase_byte, write_byte, verify_byte, protect_byte, run_byte, protect_type}
use Rattle.packet.specs.Turn.{turned_of}

module _ (board : ℕ) (l : Loader) (f : List ℕ) (room : ℕ) (size : length f ≡ start_of board)
    (fits : answer_most ≤ room) where
  -- the opening byte
  pub sent-opening : l.condition ≡ Waiting
      → take_of board l (opening_byte ∷ []) f room
      ≡ given (record { loader = with_condition l Serving; flash = f })
  sent-opening c =
      take-heard board l (opening_byte ∷ []) f room size fits
      ∙ heard-waiting board l (opening_byte ∷ []) f c refl

  module _ (c : l.condition ≡ Serving) where
    sent : (b a : ℕ) (d : List ℕ) → read_of (packet b a d) ≡ given (said b a d)
        → take_of board l (packet b a d) f room ≡ obey_of board l b a (map (carried_of b) d) f
    sent b a d e =
        take-heard board l (packet b a d) f room size fits
        ∙ heard-serving board l (packet b a d) f c
        ∙ served-packet board l (packet b a d) f (said b a d) e
        ∙ ap (λ (s : List ℕ). obey_of board l b a s f) (packet-data b a d)

    module _ (a : ℕ) (h : a < 2 ^ 32) where
      pub sent-erase : (n : ℕ) → take_of board l (packet erase_byte a (n ∷ [])) f room ≡ erasing board l a n f
      sent-erase n = sent erase_byte a (n ∷ []) (read-erase a h n) ∙ obey-erase board l a (n ∷ []) f

      pub sent-write : (d : List ℕ) → 0 < length d → length d ≤ data_most
          → take_of board l (packet write_byte a d) f room ≡ writing board l a d f
      sent-write d p q =
          sent write_byte a d (read-write a h d p q)
          ∙ obey-write board l a (map (carried_of write_byte) d) f
          ∙ ap (λ (s : List ℕ). writing board l a s f) (carried-plainly write_byte d refl)

      pub sent-verify : (d : List ℕ) → 0 < length d → length d ≤ data_most
          → take_of board l (packet verify_byte a d) f room
          ≡ keeping f (first (verify_rows board l a (map turned_of d) f) (given l))
      sent-verify d p q =
          sent verify_byte a d (read-verify a h d p q)
          ∙ obey-verify board l a (map (carried_of verify_byte) d) f

      -- P, which the host never sends
      pub sent-protect : (t : ℕ) → protect_type t ≡ true
          → take_of board l (packet protect_byte a (t ∷ [])) f room ≡ keeping f (protecting board l a t)
      sent-protect t e =
          sent protect_byte a (t ∷ []) (read-packet protect_byte a (t ∷ []) h refl e)
          ∙ obey-protect board l a (t ∷ []) f

      pub sent-run : take_of board l (packet run_byte a []) f room ≡ keeping f (running l a)
      sent-run = sent run_byte a [] (read-run a h) ∙ obey-run board l a [] f

-- V, P and R never change flash
pub kept : (l : Loader) (f : List ℕ) (x : Answer Loader) → (effect_after l f (keeping f x)).flash ≡ f
kept l f x = ap (λ (e : Effect). e.flash) (keeping-is l f x)

pub flash-kept : (board : ℕ) (l : Loader) (c a : ℕ) (d f : List ℕ) → (c ≡ erase_byte → ⊥)
    → (c ≡ write_byte → ⊥)
    → (effect_after l f (obey_of board l c a d f)).flash ≡ f
unfolding obey_of
flash-kept board l c a d f e w =
    rw (ne_eqb c erase_byte e, ne_eqb c write_byte w)
    (go (eqb c verify_byte) (eqb c protect_byte) (first (verify_rows board l a d f) (given l))
    (protecting board l a (get_or d 0 0)) (running l a))
  where
    go : (v p : Bool) (x y z : Answer Loader)
        → (effect_after l f (pick v (keeping f x) (pick p (keeping f y) (keeping f z)))).flash ≡ f
    go true p x y z = kept l f x
    go false true x y z = kept l f y
    go false false x y z = kept l f z

-- so only a packet of E or W changes it
pub flash-by : (board : ℕ) (l : Loader) (s f : List ℕ) (room : ℕ)
    → ((p : Parts) → read_of s ≡ given p → (p.command ≡ erase_byte → ⊥) × (p.command ≡ write_byte → ⊥))
    → (effect_after l f (take_of board l s f room)).flash ≡ f
flash-by board l s f room h =
    any-input (λ (e : Effect). e.flash ≡ f) board l s f room refl refl
    (λ p e. let q = h p e in flash-kept board l p.command p.address (sent_data s p) f q.0 q.1)
