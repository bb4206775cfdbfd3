-- One turn of each loop over places or bytes, and its end; and what the entries answer.
use Rattle.std.specs.Prelude.{Result, Ok, Err, IsErrAnd}
use Rattle.std.proofs.Common.{ℕ, ◌+◌, ◌-◌, ◌<◌, true, false, List, ◌≡◌, refl, sym, ap, ◌∙◌, length, replicate}
use Rattle.basis.specs.Laws.Lists.{copy-all}
use Rattle.basis.specs.Lists.{copy_of}
use Rattle.basis.specs.Refusals.{refused}
use Rattle.stations.specs.Laws.Rows.{blank-here, blank-on, blank-end, freed-turn, freed-ended, store-size, store-unread, store-none, store_given, empty-size, empty-given, delete-size, delete-none, delete-given, free-size, free-past, free-none, free-given}
use Rattle.stations.specs.Paper.{paper_refusal, paper_answer}
use Rattle.stations.specs.Station.{read_of}
use Rattle.stations.specs.Table.{places, table_size, suits_at, freed_at, freed_if, freed_from, store_of, empty_table}
use Rattle.stations.specs.declared.station.Refusal.{Refusal}
use Rattle.stations.specs.declared.station.Station.{Station}
use Rattle.stations.specs.declared.table.Sought.{Sought}

pub ruleset blanks = (blank-here, blank-on, blank-end)

-- freeing each place that has the number n, at place i
module _ (t : List ℕ) (n i : ℕ) where
  pub freed-here : i < places → suits_at t (Sought.Number n) i ≡ true
      → freed_from (freed_at t i) n (i + 1) (places - (i + 1)) ≡ freed_from t n i (places - i)
  freed-here l h =
      let e : freed_at t i ≡ freed_if t n i = rw h refl in
      ap (λ (u : List ℕ). freed_from u n (i + 1) (places - (i + 1))) e ∙ freed-turn t n i l

  pub freed-on : i < places → suits_at t (Sought.Number n) i ≡ false
      → freed_from t n (i + 1) (places - (i + 1)) ≡ freed_from t n i (places - i)
  freed-on l h =
      let e : t ≡ freed_if t n i = rw h refl in
      ap (λ (u : List ℕ). freed_from u n (i + 1) (places - (i + 1))) e ∙ freed-turn t n i l

pub ruleset frees = (freed-here, freed-on, freed-ended)

-- an error that is handed on has its number
pub handed : {A : Type 0} (y : Result A Refusal) (e : Refusal) → IsErrAnd y (λ z. z ≡ e)
    → paper_answer y ≡ refused (paper_refusal e)
handed (Ok x) e k = absurd k
handed (Err z) e k = ap (λ (w : Refusal). refused (paper_refusal w)) k

-- what each entry answers, by the test that decides
module _ (t r : List ℕ) (x : Result Station Refusal) (e : Refusal) where
  pub unread : length t ≡ table_size → paper_answer x ≡ read_of r → x ≡ Err e
      → store_of t r ≡ refused (paper_refusal e)
  unread l p q = store-unread t r l (sym p ∙ ap paper_answer q)

pub emptied : (t : List ℕ) → length t ≡ table_size → copy_of t 0 (replicate table_size 0) ≡ empty_table
emptied t l = copy-all t empty_table (sym l)

pub ruleset stores = (store-size, unread, store-none, store_given)

pub ruleset empties = (empty-size, empty-given, emptied)

pub ruleset deletes = (delete-size, delete-none, delete-given)

pub ruleset clears = (free-size, free-past, free-none, free-given)
