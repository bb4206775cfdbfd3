-- Two loaders side by side, and what a series of inputs brings to light.
use Rattle.std.specs.Prelude.{ℕ, List, [], ◌∷◌, ◌≡◌}
use Rattle.basis.specs.Refusals.{Answer, bare}
use Rattle.loader.specs.Commands.{effect_after}
use Rattle.loader.specs.Protection.{none}
use Rattle.loader.specs.State.{reset_of}
use Rattle.loader.specs.Take.{take_of, answer_bytes}
use Rattle.loader.specs.declared.state.Loader.{Loader}

-- a loader but for its key: two loaders whose `unkeyed` are equal differ in the key at most
abbrev pub unkeyed : Loader → Loader
unkeyed l = record { condition = l.condition; sequence = l.sequence; protection = l.protection; key = 0 }

-- a loader but for what its sequence has added
abbrev pub unadded : Loader → Loader
unadded l =
    record {
      condition = l.condition;
      sequence = record { opened = l.sequence.opened; added = none };
      protection = l.protection;
      key = l.key;
    }

-- two loaders take an input alike: verdict, answer bytes and flash are the same,
-- and so are the next loaders but for what is hidden
pub record TakenAlike (hide : Loader → Loader) (board : ℕ) (l k : Loader) (s f : List ℕ) (room : ℕ)
    : Type 0 where
  pub verdict-same : bare (take_of board l s f room) ≡ bare (take_of board k s f room)
  pub answer-same : answer_bytes board l (take_of board l s f room)
      ≡ answer_bytes board k (take_of board k s f room)
  pub flash-same : (effect_after l f (take_of board l s f room)).flash
      ≡ (effect_after k f (take_of board k s f room)).flash
  pub loader-same : hide (effect_after l f (take_of board l s f room)).loader
      ≡ hide (effect_after k f (take_of board k s f room)).loader

-- what reaches a loader: an input, with so much room for its answer, or a reset
pub data Arrival : Type 0 where
  input : List ℕ → ℕ → Arrival
  reset : Arrival

-- what an input brings to light
pub record Told : Type 0 where
  pub verdict : Answer (Unit {0})
  pub answer : List ℕ

-- what a series brings to light, one after another, and loader and flash at its end
pub record Course : Type 0 where
  pub told : List Told
  pub loader : Loader
  pub flash : List ℕ

unfoldable pub course_from : ℕ → Loader → List ℕ → List Arrival → Course
course_from board l f [] = record { told = []; loader = l; flash = f }
course_from board l f (reset ∷ es) = course_from board (reset_of l) f es
course_from board l f (input s room ∷ es) =
    let x = take_of board l s f room in
    let rest = course_from board (effect_after l f x).loader (effect_after l f x).flash es in
    record {
      told = record { verdict = bare x; answer = answer_bytes board l x } ∷ rest.told;
      loader = rest.loader;
      flash = rest.flash;
    }

-- two series go alike: the same is brought to light, flash is the same at the end,
-- and so are the loaders but for the key
pub record CourseAlike (c d : Course) : Type 0 where
  pub told_same : c.told ≡ d.told
  pub flash-same : c.flash ≡ d.flash
  pub loader-same : unkeyed c.loader ≡ unkeyed d.loader
