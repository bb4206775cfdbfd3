-- Laws of the port's entry: what is refused, and where the bytes go.
use Rattle.std.specs.Prelude.{ℕ, ◌≤◌, ◌<◌, true, false, List, [], ◌∷◌, ◌≡◌, refl, length, take}
use Rattle.std.proofs.Common.{sym, subst, ◌∙◌, arith, eq-eqb, ne_eqb}
use Rattle.basis.specs.Board.{answer_most}
use Rattle.basis.specs.Laws.Refusals.{skip, stop, done}
use Rattle.basis.specs.Refusals.{refused, given}
use Rattle.basis.specs.Units.{start_of}
use Rattle.loader.specs.Laws.Take.{size-wrong, room-wrong, sizes-right}
use Rattle.loader.specs.declared.state.Loader.{Loader}
use Rattle.port.specs.Port.{serving, still, brings, through, as_it_comes, turn_of, port_of, Turn, Serves}
use Rattle.port.specs.declared.port.Port.{Port}
use Rattle.port.specs.declared.port.Served.{Served}
use Rattle.receiver.specs.Receiver.{emptied, packet_in, bytes_of}
use Rattle.receiver.specs.declared.receiver.Receiver.{Receiver}
use Rattle.receiver.specs.declared.receiver.Stretch.{Stretch}

module _ (board : ℕ) (p : Port) (s f : List ℕ) (room : ℕ) where
  pub port-size : (length f ≡ start_of board → ⊥) → port_of board p s f room ≡ refused 20
  unfolding port_of
  port-size h = stop 20 _ _ _ (size-wrong board f room h)

  pub port-small : room < answer_most → port_of board p s f room ≡ refused 20
  unfolding port_of
  port-small h = stop 20 _ _ _ (room-wrong board f room h)

  pub port-turn : length f ≡ start_of board → answer_most ≤ room
      → port_of board p s f room ≡ given (turn_of board room p f s)
  unfolding port_of
  port-turn e h = skip 20 _ _ _ (sizes-right board f room e h) ∙ done _

  pub turn-gathers : serving p.loader.condition ≡ true
      → turn_of board room p f s ≡ through board room p.loader f (bytes_of p.receiver s)
  unfolding turn_of
  turn-gathers c = rw c

  pub turn-passes : serving p.loader.condition ≡ false
      → turn_of board room p f s ≡ as_it_comes board room p.loader p.receiver f s
  unfolding turn_of
  turn-passes c = rw c

-- whether a byte came
module _ (board room : ℕ) (l : Loader) (r : Receiver) (f s : List ℕ) where
  pub passes_none : length s ≡ 0 → as_it_comes board room l r f s ≡ still l r f 0
  passes_none e = go s e
    where
      go : (s : List ℕ) → length s ≡ 0 → as_it_comes board room l r f s ≡ still l r f 0
      go [] e = refl
      go (b ∷ t) e = absurd (omega arith)

  pub passes-one : (length s ≡ 0 → ⊥)
      → as_it_comes board room l r f s ≡ brings board room l (emptied r) f 1 (take 1 s)
  passes-one e = go s e
    where
      go : (s : List ℕ) → (length s ≡ 0 → ⊥)
          → as_it_comes board room l r f s ≡ brings board room l (emptied r) f 1 (take 1 s)
      go [] e = absurd (e refl)
      go (b ∷ t) e = refl

-- whether a packet is handed on
module _ (board room : ℕ) (l : Loader) (f : List ℕ) (x : Stretch) where
  pub through-none : x.packet ≡ 0 → through board room l f x ≡ still l x.receiver f x.taken
  through-none e = rw (eq-eqb x.packet 0 e)

  pub through-packet : (x.packet ≡ 0 → ⊥)
      → through board room l f x
      ≡ brings board room l x.receiver f x.taken (packet_in x.receiver x.packet)
  through-packet e = rw (ne_eqb x.packet 0 e)

-- what shows one turn shows the same under another name
pub serves-as : {t u : Turn} {old flash answer : List ℕ} {r : Served} → t ≡ u → Serves u old r flash answer
    → Serves t old r flash answer
serves-as {t} {u} {old} {flash} {answer} {r} e h =
    subst (λ (x : Turn). Serves x old r flash answer) (sym e) h
