-- A station's fields fit the bytes of its record, and the record is the first of these.
use Rattle.std.proofs.Common.{◌/◌, ◌%◌, ◌<◌, false, ◌≡◌, refl, arith, take}
use Rattle.stations.specs.Laws.Record.{in-range, rules-most}
use Rattle.stations.specs.Laws.Rows.{record-length}
use Rattle.stations.specs.Station.{out_of_range, size_of, bytes_of, record_bytes}
use Rattle.stations.specs.declared.station.Station.{Station}

module _ (s : Station) (fit : out_of_range s ≡ false) where
  pub number-fits : s.number < 65536
  number-fits = (in-range s fit).number

  -- the higher byte, as it stands in the record
  pub number-high : s.number / 256 % 256 ≡ s.number / 256
  number-high = let h = number-fits in omega arith

  pub run-fits : s.run < 256
  run-fits = let r = in-range s fit in omega (arith, r.run)

  pub rules-fits : s.rules < 256
  rules-fits = let r = in-range s fit in omega (arith, rules-most s.rules r.rules)

  pub first-fits : s.first.0 < 256
  first-fits = let r = in-range s fit in omega (arith, r.first, r.last)

  pub last-fits : s.last.0 < 256
  last-fits = let r = in-range s fit in omega (arith, r.last)

-- the record's bytes, and how many they are
pub recorded : (s : Station) → take (size_of s) (bytes_of s) ≡ record_bytes s
unfolding record_bytes
recorded s = refl

pub ruleset records = (number-fits, number-high, run-fits, rules-fits, first-fits, last-fits, record-length, recorded)
