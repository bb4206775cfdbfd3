-- The loader's state, and the ways in which it changes.
use Rattle.std.specs.Prelude.{ℕ, true, false}
use Rattle.loader.specs.Protection.{none, join_of}
use Rattle.loader.specs.declared.protection.Protection.{Protection}
use Rattle.loader.specs.declared.state.Condition.{Condition}
use Rattle.loader.specs.declared.state.Condition.TheVariants.{Waiting}
use Rattle.loader.specs.declared.state.Loader.{Loader}
use Rattle.loader.specs.declared.state.Sequence.{Sequence}

-- no protect sequence is open
abbrev pub closed : Sequence
closed = record { opened = false; added = none }

abbrev pub cleared_key : ℕ
cleared_key = 0xFFFFFFFF

-- as it leaves the factory
abbrev pub factory_of : Loader
factory_of = record { condition = Waiting; sequence = closed; protection = none; key = cleared_key }

-- reset gives waiting, drops an open protect sequence, and keeps protection and key
abbrev pub reset_of : Loader → Loader
reset_of l = record { condition = Waiting; sequence = closed; protection = l.protection; key = l.key }

abbrev pub with_condition : Loader → Condition → Loader
with_condition l c = record { condition = c; sequence = l.sequence; protection = l.protection; key = l.key }

-- a protect sequence is open, with so much added
abbrev pub with_added : Loader → Protection → Loader
with_added l p =
    record {
      condition = l.condition;
      sequence = record { opened = true; added = p };
      protection = l.protection;
      key = l.key;
    }

-- the sequence closes: the added groups join the protection in force, and the key is recorded
abbrev pub joined_of : Loader → ℕ → Loader
joined_of l key =
    record {
      condition = l.condition;
      sequence = closed;
      protection = join_of l.protection l.sequence.added;
      key = key;
    }

-- all protection and the key are cleared
abbrev pub cleared_of : Loader → Loader
cleared_of l = record { condition = l.condition; sequence = l.sequence; protection = none; key = cleared_key }
