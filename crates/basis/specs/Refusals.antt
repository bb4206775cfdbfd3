-- An answer in the paper's terms, and a table of refusals: the first whose test holds decides.
use Rattle.std.specs.Prelude.{ℕ, Bool, List, [], ◌∷◌, length, Option, Some, None, Result, Ok, Err}
use Rattle.basis.specs.Choice.{pick}
use Rattle.basis.specs.declared.board.Board.{Board}

-- refused with the paper's number, or given
pub data Answer (A : Type 0) : Type 0 where
  refused : ℕ → Answer A
  given : A → Answer A

-- a row of a table: the number, and when it is given
pub record Rule : Type 0 where
  pub number : ℕ
  pub holds : Bool

infix 70 ◌when◌
abbrev pub ◌when◌ : ℕ → Bool → Rule
n when t = record { number = n; holds = t }

-- refused by the first row whose test holds, else as told
unfoldable pub first : {A : Type 0} → List Rule → Answer A → Answer A
first [] r = r
first (x ∷ l) r = pick x.holds (refused x.number) (first l r)

-- what the code answers, in the paper's terms: an error by its number, a value as it is shown
abbrev pub answer_of : {A B E : Type 0} → (E → ℕ) → (A → B) → Result A E → Answer B
answer_of number shown (Ok x) = given (shown x)
answer_of number shown (Err e) = refused (number e)

-- 65 where there is no such board, else as told for it
abbrev pub on_board : {A : Type 0} → Option Board → (Board → Answer A) → Answer A
on_board None f = refused 65
on_board (Some b) f = f b

-- what a check refuses is refused; what it passes goes on
abbrev pub and_then : {A : Type 0} → Answer (Unit {0}) → Answer A → Answer A
and_then (refused n) r = refused n
and_then (given x) r = r

-- of an answer that is bytes: how many, and which are written
abbrev pub counted : Answer (List ℕ) → Answer ℕ
counted (refused n) = refused n
counted (given s) = given (length s)

abbrev pub written : Answer (List ℕ) → List ℕ
written (refused n) = []
written (given s) = s

-- an answer without its value: accepted, or refused
abbrev pub bare : {A : Type 0} → Answer A → Answer (Unit {0})
bare (refused n) = refused n
bare (given x) = given tt
