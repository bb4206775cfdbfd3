-- What demand 3 asks of a moment, in its own words.
use Rattle.std.specs.Prelude.{ℕ, true, false, List, ◌≡◌, get_or}
use Rattle.basis.specs.Bits.{bit}
use Rattle.basis.specs.Refusals.{given}
use Rattle.basis.specs.Units.{page_of, page_group_of}
use Rattle.basis.specs.declared.kind.RunKind.{RunKind}
use Rattle.events.specs.Endings.{asked}
use Rattle.events.specs.declared.ending.Outcome.{Outcome}
use Rattle.line.specs.Line.{Moment}
use Rattle.loader.specs.declared.state.Loader.{Loader}
use Rattle.packet.specs.Packet.{command}
use Rattle.packet.specs.Table.{run_byte}
use Rattle.runs.specs.Map.{named}
use Rattle.runs.specs.Pages.{touched}
use Rattle.session.specs.Session.{Session, proved_of}
use Rattle.session.specs.declared.phase.Phase.{Phase}

-- the byte is marked proved: the session's own `proved`, on its board, says so
abbrev pub Proved : ℕ → List ℕ → Session → ℕ → Type 0
Proved board m s a = proved_of board m s a ≡ given true

-- every file byte is proved
abbrev pub AllProved : ℕ → List ℕ → Session → Type 0
AllProved board m s = (a : ℕ) → named m a ≡ true → Proved board m s a

-- the byte stands in flash as in the file
abbrev pub Stands : List ℕ → List ℕ → ℕ → Type 0
Stands flash image a = get_or flash a 0 ≡ get_or image a 0

-- pages the file does not touch are as before
abbrev pub Untouched : List ℕ → List ℕ → List ℕ → Type 0
Untouched m before flash = (a : ℕ) → touched m (page_of a) ≡ false → Stands flash before a

-- a run packet is on the wire
abbrev pub RunOut : Moment → Type 0
RunOut x = command x.wire ≡ run_byte

-- the session has ended valid; or verified and held; or as asked: held to hold, valid to reset or to jump
abbrev pub Valid : Session → Type 0
Valid s = s.phase ≡ Phase.Ended Outcome.Valid

abbrev pub Held : Session → Type 0
Held s = s.phase ≡ Phase.Ended Outcome.Held

abbrev pub AsAsked : RunKind → Session → Type 0
AsAsked kind s = s.phase ≡ Phase.Ended (asked kind)

-- the moment is safe, where flash was `before` at the start, and start was told the run kind
pub record Safe (board : ℕ) (image m before : List ℕ) (kind : RunKind) (x : Moment) : Type 0 where
  -- each byte marked proved stands in flash as in the file, pages the file does not touch are as before
  pub proved-stands : (a : ℕ) → Proved board m x.session a → Stands x.flash image a
  pub untouched-stays : Untouched m before x.flash
  -- no run packet goes out and no session ends valid or held until every file byte is proved
  pub run-proved : RunOut x → AllProved board m x.session
  pub valid-proved : Valid x.session → AllProved board m x.session
  pub held-proved : Held x.session → AllProved board m x.session
  -- to hold no run packet goes out at all, and the session is not valid; no other is held
  pub hold-still : kind ≡ RunKind.Hold → RunOut x → ⊥
  pub hold-invalid : kind ≡ RunKind.Hold → Valid x.session → ⊥
  pub held-hold : Held x.session → kind ≡ RunKind.Hold

-- no touched page lies in a protected group, and reading is not protected
pub record Free (m : List ℕ) (l : Loader) : Type 0 where
  pub unprotected : (q : ℕ) → touched m q ≡ true → bit l.protection.groups (page_group_of q) ≡ false
  pub readable : l.protection.read ≡ false
