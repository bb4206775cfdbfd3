-- The loader's one entry: which inputs are heard, what they do, and what is answered.
use Rattle.std.specs.Prelude.{ℕ, Bool, true, false, not, List, [], ◌∷◌, ◌≡◌, ltb, eqb, length, get_or, take, drop}
use Rattle.basis.specs.Board.{greeting_of, answer_most, opening_byte, ack_byte, bel_byte}
use Rattle.basis.specs.Choice.{pick, both, either}
use Rattle.basis.specs.Lists.{overlay}
use Rattle.basis.specs.Refusals.{Answer, refused, given, ◌when◌, first, bare}
use Rattle.basis.specs.Units.{start_of}
use Rattle.loader.specs.Commands.{Effect, obey_of, Does}
use Rattle.loader.specs.State.{with_condition}
use Rattle.loader.specs.declared.state.Condition.{Condition}
use Rattle.loader.specs.declared.state.Condition.TheVariants.{Waiting, Serving, Left}
use Rattle.loader.specs.declared.state.Loader.{Loader}
use Rattle.packet.specs.Packet.{Parts, read_of}

-- the three conditions
abbrev pub waiting : Condition → Bool
waiting Waiting = true
waiting Serving = false
waiting Left = false

abbrev pub left : Condition → Bool
left Waiting = false
left Serving = false
left Left = true

-- the one-byte input 08
abbrev pub opens_board : List ℕ → Bool
opens_board s = both (eqb (length s) 1) (eqb (get_or s 0 0) opening_byte)

-- the bytes after a packet's address, as they were sent
abbrev pub sent_data : List ℕ → Parts → List ℕ
sent_data s p = take p.size (drop p.place s)

-- serving reads the input and obeys it
abbrev pub obeyed : ℕ → Loader → List ℕ → List ℕ → Answer Parts → Answer Effect
obeyed board l s f (refused n) = refused n
obeyed board l s f (given p) = obey_of board l p.command p.address (sent_data s p) f

unfoldable pub serve_of : ℕ → Loader → List ℕ → List ℕ → Answer Effect
serve_of board l s f = obeyed board l s f (read_of s)

-- 11: left, or waiting and the input is not the single 08
abbrev pub unheard : Condition → List ℕ → Bool
unheard c s = either (left c) (both (waiting c) (not (opens_board s)))

-- waiting takes that byte and serves
unfoldable pub hear_of : ℕ → Loader → List ℕ → List ℕ → Answer Effect
hear_of board l s f =
    first (11 when unheard l.condition s ∷ [])
    (pick (waiting l.condition) (given (record { loader = with_condition l Serving; flash = f }))
    (serve_of board l s f))

-- 20: flash not its size, or answer buffer under 24
abbrev pub sizes_wrong : ℕ → List ℕ → ℕ → Bool
sizes_wrong board f room = either (not (eqb (length f) (start_of board))) (ltb room answer_most)

-- in the paper's order: 20 here, 11 in hear_of, 1 to 6 in the packet's read_of, then 9, 7, 8, 10 of the
-- command
unfoldable pub take_of : ℕ → Loader → List ℕ → List ℕ → ℕ → Answer Effect
take_of board l s f room = first (20 when sizes_wrong board f room ∷ []) (hear_of board l s f)

-- 65, 20, 11, 1 and 2 are not answered
abbrev pub quiet : ℕ → Bool
quiet n = either (eqb n 65) (either (eqb n 20) (either (eqb n 11) (either (eqb n 1) (eqb n 2))))

-- any other refusal answers BEL 07; acceptance the board's greeting where the loader was waiting, else ACK 06
abbrev pub tell_of : ℕ → Bool → Answer (Unit {0}) → List ℕ
tell_of board w (refused n) = pick (quiet n) [] (bel_byte ∷ [])
tell_of board w (given u) = pick w (greeting_of board) (ack_byte ∷ [])

abbrev pub answer_bytes : ℕ → Loader → Answer Effect → List ℕ
answer_bytes board l x = tell_of board (waiting l.condition) (bare x)

-- what the entry shows: besides loader and flash, the answer bytes and how many they are
pub record Takes (board : ℕ) (x : Answer Effect) (l : Loader) (f old : List ℕ)
    (verdict : Answer (Unit {0})) (next : Loader) (answered : ℕ) (flash answer : List ℕ) : Type 0 where
  pub does-is : Does x l f verdict next flash
  pub answered-is : answered ≡ length (answer_bytes board l x)
  pub answer-is : answer ≡ overlay (answer_bytes board l x) old
