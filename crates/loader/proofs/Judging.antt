-- How a refusal is shown to be judged, and which bytes of an input a packet names.
use Rattle.std.specs.Prelude.{Err}
use Rattle.std.proofs.Common.{ℕ, ◌+◌, ◌-◌, ◌≤◌, List, ◌≡◌, sym, ap, arith, length, take, drop, length-take, length-drop}
use Rattle.basis.specs.Refusals.{Answer, refused}
use Rattle.loader.specs.Commands.{Effect}
use Rattle.loader.specs.Deeds.{data_in, Judges}
use Rattle.loader.specs.Paper.{paper_refusal}
use Rattle.loader.specs.declared.state.Loader.{Loader}
use Rattle.loader.specs.declared.verdict.Refusal.{Refusal}
use Rattle.packet.specs.declared.read.Packet.{Packet}

pub refuses : {board : ℕ} {l : Loader} {s f : List ℕ} {x : Answer Effect} {why : Refusal}
    → x ≡ refused (paper_refusal why) → Judges board (Err why) l s f x
refuses e = record { comes-to = sym e; can-apply = tt }

-- a packet has as many bytes as it says
pub data-length : (s : List ℕ) (p : Packet) → p.at + p.len ≤ length s → length (data_in s p) ≡ p.len
data-length s p h = simp (length-take, length-drop) (omega arith)

-- and its bytes are the part of the input that is lent on
pub part-data : (s : List ℕ) (p : Packet) → take (p.at + p.len - p.at) (drop p.at s) ≡ data_in s p
part-data s p =
    let e : p.at + p.len - p.at ≡ p.len = omega arith in
    ap (λ (n : ℕ). take n (drop p.at s)) e

pub ruleset lengths = (data-length)
