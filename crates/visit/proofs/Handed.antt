-- What finding a station in a table says of what is done for it.
use Rattle.std.specs.Prelude.{Result, Ok, Err}
use Rattle.std.proofs.Common.{ℕ, false, List, ◌≡◌, sym, ap, ◌∙◌}
use Rattle.basis.specs.Refusals.{given, refused}
use Rattle.stations.specs.Laws.Finding.{find-has}
use Rattle.stations.specs.Laws.Rows.{find-refused}
use Rattle.stations.specs.Paper.{paper_answer}
use Rattle.stations.specs.Station.{out_of_range}
use Rattle.stations.specs.Table.{find_of}
use Rattle.stations.specs.declared.station.Refusal.{Refusal}
use Rattle.stations.specs.declared.station.Station.{Station}

module _ (t : List ℕ) (n : ℕ) (x : Result Station Refusal) where
  -- what is found is in range
  pub station-fits : (s : Station) → paper_answer x ≡ find_of t n → x ≡ Ok s → out_of_range s ≡ false
  station-fits s p e = (find-has t n s (sym p ∙ ap paper_answer e)).range

  pub found : (s : Station) → paper_answer x ≡ find_of t n → x ≡ Ok s → find_of t n ≡ given s
  found s p e = sym p ∙ ap paper_answer e

  -- a refusal is 60
  pub unknown : (why : Refusal) → paper_answer x ≡ find_of t n → x ≡ Err why → find_of t n ≡ refused 60
  unknown why p e =
      let none = sym p ∙ ap paper_answer e in
      none ∙ ap refused (find-refused t n none)

pub ruleset handed = (station-fits, found, unknown)
