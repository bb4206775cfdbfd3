-- What an input that was judged comes to: a refusal with its number, or a deed with what it does.
use Rattle.std.specs.Prelude.{ℕ, ◌+◌, ◌≤◌, List, ◌≡◌, length, take, drop, Result, Ok, Err}
use Rattle.basis.specs.Refusals.{Answer, answer_of}
use Rattle.basis.specs.Units.{start_of}
use Rattle.image.specs.Flash.{erase_of, store_of}
use Rattle.loader.specs.Commands.{Effect, added_of}
use Rattle.loader.specs.Paper.{paper_refusal}
use Rattle.loader.specs.Protection.{none}
use Rattle.loader.specs.State.{with_condition, with_added, joined_of, cleared_of}
use Rattle.loader.specs.declared.deed.Deed.{Deed}
use Rattle.loader.specs.declared.deed.Deed.TheVariants as deed
use Rattle.loader.specs.declared.state.Condition.TheVariants.{Serving, Left}
use Rattle.loader.specs.declared.state.Loader.{Loader}
use Rattle.loader.specs.declared.verdict.Refusal.{Refusal}
use Rattle.packet.specs.declared.read.Packet.{Packet}

-- the bytes after a packet's address, as they stand in the input
abbrev pub data_in : List ℕ → Packet → List ℕ
data_in s p = take p.len (drop p.at s)

-- loader and flash after a deed
abbrev pub deed_of : ℕ → Deed → Loader → List ℕ → List ℕ → Effect
deed_of board deed.Serve l s f = record { loader = with_condition l Serving; flash = f }
deed_of board (deed.Erase a n) l s f = record { loader = l; flash = erase_of f a.0 n }
deed_of board deed.MassErase l s f = record { loader = cleared_of l; flash = erase_of f 0 (length f) }
deed_of board (deed.Store p) l s f = record { loader = l; flash = store_of f p.address.0 (data_in s p) }
deed_of board deed.Nothing l s f = record { loader = l; flash = f }
deed_of board deed.Open l s f = record { loader = with_added l none; flash = f }
deed_of board (deed.Add a) l s f =
    record { loader = with_added l (added_of board l.sequence.added a.0); flash = f }
deed_of board (deed.Close key) l s f = record { loader = joined_of l key; flash = f }
deed_of board deed.Leave l s f = record { loader = with_condition l Left; flash = f }

-- how an input is judged: accepted with what it then does, or refused and why
abbrev pub judged_of : ℕ → Result Deed Refusal → Loader → List ℕ → List ℕ → Answer Effect
judged_of board j l s f = answer_of paper_refusal (λ (d : Deed). deed_of board d l s f) j

-- a deed's bytes lie in flash, and those it stores in the input
abbrev pub Fits : ℕ → Deed → List ℕ → Type 0
Fits board (deed.Erase a n) s = a.0 + n ≤ start_of board
Fits board (deed.Store p) s = (p.at + p.len ≤ length s) × (p.address.0 + p.len ≤ start_of board)
Fits board deed.Serve s = Unit {0}
Fits board deed.MassErase s = Unit {0}
Fits board deed.Nothing s = Unit {0}
Fits board deed.Open s = Unit {0}
Fits board (deed.Add a) s = Unit {0}
Fits board (deed.Close key) s = Unit {0}
Fits board deed.Leave s = Unit {0}

abbrev pub Applicable : ℕ → Result Deed Refusal → List ℕ → Type 0
Applicable board (Ok d) s = Fits board d s
Applicable board (Err x) s = Unit {0}

-- what a function that judges shows: it comes to x, and its deed can be done
pub record Judges (board : ℕ) (j : Result Deed Refusal) (l : Loader) (s f : List ℕ) (x : Answer Effect)
    : Type 0 where
  pub comes-to : judged_of board j l s f ≡ x
  pub can-apply : Applicable board j s

-- it judges so whatever the input and the flash
abbrev pub JudgesAny : ℕ → Result Deed Refusal → Loader → (List ℕ → Answer Effect) → Type 0
JudgesAny board j l x = (s f : List ℕ) → Judges board j l s f (x f)
