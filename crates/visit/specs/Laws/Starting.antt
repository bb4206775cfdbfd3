-- How a station's file is opened, and when its session starts: 64 for any touched page out of bounds, else
-- the session of start.
use Rattle.std.specs.Prelude.{ℕ, ◌≤◌, true, false, not, List, [], ◌∷◌, ◌≡◌, refl, ltb, length}
use Rattle.std.proofs.Common.{sym, ap, ◌∙◌, arith, eq-eqb, le-leb, ltb-true, ltb-false}
use Rattle.basis.specs.Board.{opening_byte}
use Rattle.basis.specs.Laws.Choice.{decide, true-false}
use Rattle.basis.specs.Laws.Refusals.{skip, done}
use Rattle.basis.specs.Refusals.{Answer, refused, given}
use Rattle.basis.specs.RunKinds.{kind_of}
use Rattle.basis.specs.Units.{start_of, map_bytes, right_sizes_in}
use Rattle.image.specs.Hex.{started, start_in}
use Rattle.order.specs.Sizes.{right_sizes}
use Rattle.packet.specs.Packet.{packet_most}
use Rattle.runs.specs.Laws.Files.{pages-past}
use Rattle.runs.specs.Pages.{touched}
use Rattle.runs.specs.Pieces.{named_count}
use Rattle.session.specs.Laws.Steps.{start-given}
use Rattle.session.specs.Session.{Loadable, at_greeting}
use Rattle.stations.specs.Laws.Finding.{find-has}
use Rattle.stations.specs.Laws.Record.{in-range}
use Rattle.stations.specs.Table.{find_of}
use Rattle.stations.specs.declared.station.Station.{Station}
use Rattle.visit.specs.Laws.Bounds.{some-outside}
use Rattle.visit.specs.Laws.Rows.{at-outside, at-inside}
use Rattle.visit.specs.Visit.{station_pages, for_station, open_for, beyond, outside, start_at, start_for}

-- a file is opened under the station's rule set, which there is: with right sizes nothing is refused
pub visit-opens : (t : List ℕ) (number : ℕ) (s : Station) → find_of t number ≡ given s → (image m : List ℕ)
    → right_sizes_in (start_of station_pages) (length image) (length m) ≡ true
    → open_for t number image m ≡ given (started (start_of station_pages) s.rules)
unfolding start_in
visit-opens t number s found image m e =
    ap
    (λ (a : Answer Station). for_station a
    (λ (y : Station). start_in (start_of station_pages) y.rules image m))
    found
    ∙ skip 20 _ _ _ (ap not e)
    ∙ skip 34 _ _ _ (ap not (in-range s (find-has t number s found).range).rules)
    ∙ done _

-- a station that the table holds, a file that can be loaded on the short board, and room for a packet
module _ (t : List ℕ) (number : ℕ) (s : Station) (found : find_of t number ≡ given s) (image m : List ℕ)
    (file : Loadable station_pages image m) (room : ℕ) (roomy : packet_most ≤ room) where
  sized : right_sizes station_pages (length image) (length m) room ≡ true
  sized =
      rw (
        eq-eqb (length image) (start_of station_pages) file.right,
        eq-eqb (length m) (map_bytes station_pages) file.long,
        le-leb packet_most room roomy,
      )
      refl

  some : named_count station_pages m ≡ 0 → ⊥
  some e = omega (arith, e, file.some)

  asked : start_for t number image m room ≡ start_at s image m room
  asked = ap (λ (a : Answer Station). for_station a (λ (y : Station). start_at y image m room)) found

  -- a touched page below first or above last stops it
  pub visit-stopped : (q : ℕ) → touched m q ≡ true → beyond s q ≡ true
      → start_for t number image m room ≡ refused 64
  visit-stopped q h b =
      asked ∙ at-outside s image m room sized some
      (some-outside s m q
      (decide (ltb q station_pages) (ltb-true q station_pages)
      (λ p. absurd
      (true-false (sym h ∙ pages-past station_pages m file.long q (ltb-false q station_pages p)))))
      h b)

  -- else it is exactly the session of start with the station's run kind
  pub visit-starts : outside s m ≡ false
      → start_for t number image m room
      ≡ given (record { session = at_greeting station_pages m (kind_of s.run); packet = opening_byte ∷ [] })
  visit-starts e =
      asked ∙ at-inside s image m room sized some e ∙ start-given station_pages image m room _ sized some
