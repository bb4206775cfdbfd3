-- Which numbers a refusal can have, by the tables that it comes from.
use Rattle.std.specs.Prelude.{ℕ, ◌≤◌, Bool, List, [], ◌∷◌, eqb, get_or}
use Rattle.std.proofs.Math.Bool.{true, false}
use Rattle.std.proofs.Common.{arith}
use Rattle.basis.specs.Choice.{pick}
use Rattle.basis.specs.Refusals.{Answer, refused, given, Rule, ◌when◌, first}
use Rattle.loader.specs.Commands.{Effect, mass_erase, erase_rows, erasing, write_rows, writing, verify_rows, opening, adding, closing, protecting, running, keeping, obey_of}
use Rattle.loader.specs.Take.{waiting, serve_of, hear_of, take_of, obeyed, sent_data}
use Rattle.loader.specs.declared.state.Loader.{Loader}
use Rattle.packet.specs.Packet.{Parts, read_of}
use Rattle.packet.specs.Table.{erase_byte, write_byte, verify_byte, protect_byte}

-- accepted, or refused with a number from k on
abbrev pub From : {A : Type 0} → ℕ → Answer A → Type 0
From k (refused n) = k ≤ n
From k (given x) = Unit {0}

module _ {A : Type 0} (k : ℕ) where
  -- one row of a table, and its end
  pub row_from : (n : ℕ) (t : Bool) (l : List Rule) (r : Answer A) → k ≤ n → From k (first l r)
      → From k (first (n when t ∷ l) r)
  unfolding first
  row_from n true l r h q = h
  row_from n false l r h q = q

  pub end-from : (r : Answer A) → From k r → From k (first [] r)
  unfolding first
  end-from r q = q

  pub pick-from : (t : Bool) (x y : Answer A) → From k x → From k y → From k (pick t x y)
  pick-from true x y p q = p
  pick-from false x y p q = q

keeping-from : (k : ℕ) (f : List ℕ) (x : Answer Loader) → From k x → From k (keeping f x)
keeping-from k f (refused n) p = p
keeping-from k f (given l) p = tt

-- a command that was read is accepted, or refused with 7 or more
module _ (board : ℕ) (l : Loader) (a : ℕ) where
  erase-from : (n : ℕ) (f : List ℕ) → From 7 (erasing board l a n f)
  unfolding erasing erase_rows
  erase-from n f =
      row_from 7 9 _ _ _ (omega arith) (end-from 7 _ (pick-from 7 (mass_erase a n) _ _ tt
      (row_from 7 7 _ _ _ (omega arith) (row_from 7 8 _ _ _ (omega arith) (end-from 7 _ tt)))))

  write-from : (d f : List ℕ) → From 7 (writing board l a d f)
  unfolding writing write_rows
  write-from d f =
      row_from 7 9 _ _ _ (omega arith) (row_from 7 7 _ _ _ (omega arith)
      (row_from 7 8 _ _ _ (omega arith) (end-from 7 _ tt)))

  verify-from : (d f : List ℕ) → From 7 (first (verify_rows board l a d f) (given l))
  unfolding verify_rows
  verify-from d f =
      row_from 7 9 _ _ _ (omega arith) (row_from 7 7 _ _ _ (omega arith)
      (row_from 7 8 _ _ _ (omega arith) (row_from 7 10 _ _ _ (omega arith) (end-from 7 _ tt))))

  protect-from : (t : ℕ) → From 7 (protecting board l a t)
  unfolding protecting opening adding closing
  protect-from t =
      pick-from 7 (eqb t 0x00) _ _ (row_from 7 9 _ _ _ (omega arith) (end-from 7 _ tt))
      (pick-from 7 (eqb t 0x0F) _ _
      (row_from 7 9 _ _ _ (omega arith) (row_from 7 7 _ _ _ (omega arith) (end-from 7 _ tt)))
      (row_from 7 9 _ _ _ (omega arith) (end-from 7 _ tt)))

  run-from : From 7 (running l a)
  unfolding running
  run-from = row_from 7 9 _ _ _ (omega arith) (row_from 7 7 _ _ _ (omega arith) (end-from 7 _ tt))

  pub obey-from : (c : ℕ) (d f : List ℕ) → From 7 (obey_of board l c a d f)
  unfolding obey_of
  obey-from c d f =
      pick-from 7 (eqb c erase_byte) _ _ (erase-from (get_or d 0 0) f)
      (pick-from 7 (eqb c write_byte) _ _ (write-from d f)
      (pick-from 7 (eqb c verify_byte) _ _ (keeping-from 7 f (first (verify_rows board l a d f) (given l))
      (verify-from d f))
      (pick-from 7 (eqb c protect_byte) _ _
      (keeping-from 7 f (protecting board l a (get_or d 0 0)) (protect-from (get_or d 0 0)))
      (keeping-from 7 f (running l a) run-from))))

-- what the loader says has no lower number than what the packet reader says of the input
pub take-from : (board : ℕ) (l : Loader) (s f : List ℕ) (room k : ℕ) → k ≤ 7 → From k (read_of s)
    → From k (take_of board l s f room)
unfolding take_of hear_of serve_of
take-from board l s f room k h q =
    row_from k 20 _ _ _ (omega arith) (end-from k _ (row_from k 11 _ _ _ (omega arith) (end-from k _
    (pick-from k (waiting l.condition) _ _ tt (go (read_of s) q)))))
  where
    lower : (x : Answer Effect) → From 7 x → From k x
    lower (refused n) p = omega arith
    lower (given x) p = tt

    go : (r : Answer Parts) → From k r → From k (obeyed board l s f r)
    go (refused n) p = p
    go (given x) p =
        lower (obey_of board l x.command x.address (sent_data s x) f)
        (obey-from board l x.address x.command (sent_data s x) f)
