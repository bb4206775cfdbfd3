-- A loader behind a receiver: bytes go in as they come from the line, answers come out.
use Rattle.std.specs.Prelude.{ℕ, Bool, true, false, List, [], ◌∷◌, ◌++◌, ◌≡◌, eqb, length}
use Rattle.basis.specs.Choice.{pick}
use Rattle.basis.specs.Lists.{overlay}
use Rattle.basis.specs.Refusals.{Answer, refused, given, ◌when◌, first, bare}
use Rattle.loader.specs.Commands.{effect_after}
use Rattle.loader.specs.Paper.{paper_verdict}
use Rattle.loader.specs.Take.{take_of, answer_bytes, sizes_wrong}
use Rattle.loader.specs.declared.state.Condition.{Condition}
use Rattle.loader.specs.declared.state.Condition.TheVariants.{Waiting, Serving, Left}
use Rattle.loader.specs.declared.state.Loader.{Loader}
use Rattle.port.specs.declared.port.Port.{Port}
use Rattle.port.specs.declared.port.Served.{Served}
use Rattle.receiver.specs.Receiver.{emptied, packet_in, bytes_of}
use Rattle.receiver.specs.declared.receiver.Receiver.{Receiver}
use Rattle.receiver.specs.declared.receiver.Stretch.{Stretch}

-- the receiver is fed only while the loader is serving
abbrev pub serving : Condition → Bool
serving Waiting = false
serving Serving = true
serving Left = false

-- after some bytes: the port and its flash, what the loader said, how many bytes were taken, what it answered
pub record Turn : Type 0 where
  pub port : Port
  pub flash : List ℕ
  pub verdict : Answer (Unit {0})
  pub taken : ℕ
  pub answer : List ℕ

-- no byte is taken
abbrev pub unserved : Loader → Receiver → List ℕ → ℕ → Turn
unserved l r f n =
    record {
      port = record { loader = l; receiver = r };
      flash = f;
      verdict = refused n;
      taken = 0;
      answer = [];
    }

-- the loader gets no input
abbrev pub still : Loader → Receiver → List ℕ → ℕ → Turn
still l r f n =
    record {
      port = record { loader = l; receiver = r };
      flash = f;
      verdict = given tt;
      taken = n;
      answer = [];
    }

-- the loader takes an input, with byte n of those that came
abbrev pub brings : ℕ → ℕ → Loader → Receiver → List ℕ → ℕ → List ℕ → Turn
brings board room l r f n s =
    let x = take_of board l s f room in
    let e = effect_after l f x in
    record {
      port = record { loader = e.loader; receiver = r };
      flash = e.flash;
      verdict = bare x;
      taken = n;
      answer = answer_bytes board l x;
    }

-- serving: what the receiver hands on, if it does
abbrev pub through : ℕ → ℕ → Loader → List ℕ → Stretch → Turn
through board room l f x =
    pick (eqb x.packet 0) (still l x.receiver f x.taken)
    (brings board room l x.receiver f x.taken (packet_in x.receiver x.packet))

-- waiting or left: the first byte goes to the loader as it comes, and nothing is gathered
abbrev pub as_it_comes : ℕ → ℕ → Loader → Receiver → List ℕ → List ℕ → Turn
as_it_comes board room l r f [] = still l r f 0
as_it_comes board room l r f (b ∷ s) = brings board room l (emptied r) f 1 (b ∷ [])

-- one call over some bytes
unfoldable pub turn_of : ℕ → ℕ → Port → List ℕ → List ℕ → Turn
turn_of board room p f s =
    pick (serving p.loader.condition) (through board room p.loader f (bytes_of p.receiver s))
    (as_it_comes board room p.loader p.receiver f s)

-- 20 as in the loader's table, before any byte is taken
unfoldable pub port_of : ℕ → Port → List ℕ → List ℕ → ℕ → Answer Turn
port_of board p s f room = first (20 when sizes_wrong board f room ∷ []) (given (turn_of board room p f s))

-- what stands then: that refusal changes nothing
abbrev pub turn_after : Port → List ℕ → Answer Turn → Turn
turn_after p f (refused n) = unserved p.loader p.receiver f n
turn_after p f (given t) = t

-- what the entry shows
pub record Serves (t : Turn) (old : List ℕ) (r : Served) (flash answer : List ℕ) : Type 0 where
  pub port-is : r.port ≡ t.port
  pub verdict-is : paper_verdict r.verdict ≡ t.verdict
  pub taken_is : r.taken ≡ t.taken
  pub answered-is : r.answered ≡ length t.answer
  pub flash-is : flash ≡ t.flash
  pub answer-is : answer ≡ overlay t.answer old

-- all bytes, one after another: the port and its flash at the end, and all answers in their order
pub record All : Type 0 where
  pub port : Port
  pub flash : List ℕ
  pub answers : List ℕ

unfoldable pub all_of : ℕ → ℕ → Port → List ℕ → List ℕ → All
all_of board room p f [] = record { port = p; flash = f; answers = [] }
all_of board room p f (b ∷ s) =
    let t = turn_of board room p f (b ∷ []) in
    let r = all_of board room t.port t.flash s in
    record { port = r.port; flash = r.flash; answers = t.answer ++ r.answers }
