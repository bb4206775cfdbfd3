-- A rehearsal's table is its start's: 20 for the flash comes first, what the start refuses is refused, and
-- what it gives is driven to the end.
use Rattle.std.specs.Prelude.{ℕ, List, ◌≡◌, refl, eqb, length}
use Rattle.std.proofs.Math.Bool.{false, not}
use Rattle.std.proofs.Common.{sym, ap, ◌∙◌, eq-eqb, ne_eqb}
use Rattle.basis.specs.Choice.{both}
use Rattle.basis.specs.Laws.Choice.{both_false}
use Rattle.basis.specs.Laws.Refusals.{stop, alike, through, apart, refused-one}
use Rattle.basis.specs.Refusals.{Answer, refused, given}
use Rattle.basis.specs.Units.{start_of}
use Rattle.basis.specs.declared.kind.RunKind.{RunKind}
use Rattle.course.specs.Course as course
use Rattle.line.specs.Line.{Moment, rehearsing, loaded, left_flash, Rehearses}
use Rattle.line.specs.declared.rehearse.Load.{Load}
use Rattle.order.specs.Sizes.{right_sizes}
use Rattle.packet.specs.Packet.{packet_most}
use Rattle.session.specs.Session.{Sent, measured, started}

module _ (board : ℕ) (image m f : List ℕ) (x : Moment) where
  abbrev whole : Answer Moment
  whole = rehearsing board image m f x

  -- what is refused leaves flash as it was
  refuses : {n : ℕ} → whole ≡ refused n → Rehearses whole f (refused n) f
  refuses e = rw e (record { result-is = refl; flash-is = refl })

  twenty : (length f ≡ start_of board → ⊥) → whole ≡ refused 20
  unfolding rehearsing
  twenty n = stop 20 _ _ (given x) (ap not wrong)
    where
      wrong : both (eqb (length f) (start_of board)) (right_sizes board (length image) (length m) packet_most)
          ≡ false
      wrong = both_false (eqb (length f) (start_of board)) _ (ne_eqb _ _ n)

  pub flash-refused : (length f ≡ start_of board → ⊥)
      → Rehearses (rehearsing board image m f x) f (refused 20) f
  flash-refused n = refuses (twenty n)

  module _ (size : length f ≡ start_of board) (kind : RunKind) where
    refused-too : {n : ℕ} → started board image m packet_most kind ≡ refused n → whole ≡ refused n
    unfolding rehearsing course.started
    refused-too e = rw (eq-eqb (length f) (start_of board) size) (alike _ _ _ e)

    given-too : {s : Sent} → started board image m packet_most kind ≡ given s → whole ≡ given x
    unfolding rehearsing course.started
    given-too e = rw (eq-eqb (length f) (start_of board) size) (through _ _ _ e)

    -- by a buffer of so many bytes, which has room for the longest packet
    module _ (room : ℕ) (full : room ≡ packet_most) where
      pub start-refused : {n : ℕ} → refused n ≡ measured (started board image m room kind)
          → Rehearses (rehearsing board image m f x) f (refused n) f
      start-refused {n} e = refuses (go (started board image m room kind) refl e)
        where
          go : (a : Answer Sent) → started board image m room kind ≡ a → refused n ≡ measured a
              → whole ≡ refused n
          go (refused k) t e =
              refused-too (ap (λ (r : ℕ). started board image m r kind) (sym full) ∙ t)
              ∙ ap refused (sym (refused-one e))
          go (given s) t e = absurd (apart e)

      -- what was reached under another name is what stands at the end
      pub start-driven : {s : Sent} → started board image m room kind ≡ given s
          → (r : Load) (flash : List ℕ) (y : Moment) → y ≡ x
          → (r.loader ≡ y.loader) × (r.session ≡ y.session) × (flash ≡ y.flash)
          → Rehearses (rehearsing board image m f x) f (given r) flash
      start-driven t r flash y e z =
          let w = given-too (ap (λ (r : ℕ). started board image m r kind) (sym full) ∙ t) in
          record {
            result-is = (λ i. given (record { loader = z.0 i; session = z.1 i }))
                ∙ ap (λ (y : Moment). loaded (given y)) e
                ∙ sym (ap loaded w);
            flash-is = z.2 ∙ ap (λ (y : Moment). y.flash) e ∙ sym (ap (left_flash f) w);
          }
