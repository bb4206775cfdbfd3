-- What the states that a C caller keeps stand for, and how the library
-- shows them. Every value of every field stands for something.
use Rattle.std.specs.Prelude.{ℕ, Bool, not, eqb}
use Rattle.basis.specs.Choice.{pick, both}
use Rattle.basis.specs.RunKinds.{paper_kind, kind_of}
use Rattle.events.specs.Endings.{paper_outcome}
use Rattle.events.specs.declared.ending.Outcome.{Outcome}
use Rattle.image.specs.declared.hex.Hex.{Hex}
use Rattle.loader.specs.declared.state.Condition.{Condition}
use Rattle.loader.specs.declared.state.Condition.TheVariants.{Waiting, Serving, Left}
use Rattle.loader.specs.declared.state.Loader.{Loader}
use Rattle.order.specs.Steps.{erase_at, write_at, verify_at}
use Rattle.order.specs.declared.step.Step.{Step}
use Rattle.plain.specs.Plain.{Plain}
use Rattle.plain.specs.declared.stage.Stage.{Stage}
use Rattle.port.specs.declared.port.Port.{Port}
use Rattle.session.specs.declared.phase.Phase.{Phase}
use Rattle.session.specs.Session.{Session}
use Rattle.stations.specs.declared.station.Station.{Station}
use Rattle.gremolunde.specs.declared.states.HexState.{HexState}
use Rattle.gremolunde.specs.declared.states.LoaderState.{LoaderState}
use Rattle.gremolunde.specs.declared.states.PlainState.{PlainState}
use Rattle.gremolunde.specs.declared.states.PortState.{PortState}
use Rattle.gremolunde.specs.declared.states.SessionState.{SessionState}
use Rattle.gremolunde.specs.declared.states.StationState.{StationState}

-- a flag: 0 is false, all else is true; shown as 0 or 1
abbrev pub is_set : ℕ → Bool
is_set b = not (eqb b 0)

abbrev pub flag_of : Bool → ℕ
flag_of t = pick t 1 0

-- 0 waiting, 1 serving, 2 and all else left
abbrev pub condition_meant : ℕ → Condition
condition_meant n = pick (eqb n 0) Waiting (pick (eqb n 1) Serving Left)

abbrev pub condition_shown : Condition → ℕ
condition_shown Waiting = 0
condition_shown Serving = 1
condition_shown Left = 2

abbrev pub loader_meant : LoaderState → Loader
loader_meant s =
    record {
      condition = condition_meant s.condition;
      sequence =
          record {
            opened = is_set s.opened;
            added = record { groups = s.added; read = is_set s.added_read };
          };
      protection = record { groups = s.groups; read = is_set s.read };
      key = s.key;
    }

abbrev pub loader_shown : Loader → LoaderState
loader_shown l =
    record {
      groups = l.protection.groups;
      added = l.sequence.added.groups;
      key = l.key;
      condition = condition_shown l.condition;
      read = flag_of l.protection.read;
      opened = flag_of l.sequence.opened;
      added_read = flag_of l.sequence.added.read;
    }

-- a receiver is kept as it is
abbrev pub port_meant : PortState → Port
port_meant s = record { loader = loader_meant s.loader; receiver = s.receiver }

-- the board that a hex reader carries stands beside what it has read
abbrev pub hex_meant : HexState → Hex
hex_meant s =
    record {
      rules = s.rules;
      linear = s.linear;
      segment = s.segment;
      segmented = is_set s.segmented;
      ended = is_set s.ended;
      taken = is_set s.taken;
    }

abbrev pub hex_shown : ℕ → Hex → HexState
hex_shown board h =
    record {
      board = board;
      rules = h.rules;
      linear = h.linear;
      segment = h.segment;
      segmented = flag_of h.segmented;
      ended = flag_of h.ended;
      taken = flag_of h.taken;
    }

-- 0 valid, 1 held, 40 silence, 41 BEL, 42 no greeting, 43 other; one that is not listed is taken for 43,
-- so that its number is another
abbrev pub outcome_meant : ℕ → Outcome
outcome_meant o =
    pick (eqb o 0) Outcome.Valid
    (pick (eqb o 1) Outcome.Held
    (pick (eqb o 40) Outcome.Silence
    (pick (eqb o 41) Outcome.Bel
    (pick (eqb o 42) Outcome.NoGreeting Outcome.Other))))

-- a phase that no file has: its page lies past every board
abbrev pub nowhere : Phase
nowhere = Phase.Out (erase_at 0xFFFFFFFF)

-- a field that the phase does not use is 0: with another value it is nowhere
abbrev pub without : ℕ → Phase → Phase
without field phase = pick (eqb field 0) phase nowhere

-- an end by its outcome; one that the paper does not list is nowhere
abbrev pub end_meant : ℕ → Phase
end_meant o = pick (eqb (paper_outcome (outcome_meant o)) o) (Phase.Ended (outcome_meant o)) nowhere

-- 0 the greeting, 1 E at a page, 2 and 3 W and V at an address, 4 R, 5 an end by its
-- outcome; all else is nowhere
abbrev pub phase_meant : ℕ → ℕ → ℕ → ℕ → Phase
phase_meant n page address outcome =
    pick (eqb n 0) (without page (without address (without outcome Phase.Greeting)))
    (pick (eqb n 1) (without address (without outcome (Phase.Out (erase_at page))))
    (pick (eqb n 2) (without page (without outcome (Phase.Out (write_at address))))
    (pick (eqb n 3) (without page (without outcome (Phase.Out (verify_at address))))
    (pick (eqb n 4) (without page (without address (without outcome (Phase.Out Step.Run))))
    (pick (eqb n 5) (without page (without address (end_meant outcome))) nowhere)))))

abbrev pub phase_shown : Phase → ℕ
phase_shown Phase.Greeting = 0
phase_shown (Phase.Out (Step.Erase p)) = 1
phase_shown (Phase.Out (Step.Write a)) = 2
phase_shown (Phase.Out (Step.Verify a)) = 3
phase_shown (Phase.Out Step.Run) = 4
phase_shown (Phase.Ended o) = 5

abbrev pub page_shown : Phase → ℕ
page_shown Phase.Greeting = 0
page_shown (Phase.Out (Step.Erase p)) = p.0
page_shown (Phase.Out (Step.Write a)) = 0
page_shown (Phase.Out (Step.Verify a)) = 0
page_shown (Phase.Out Step.Run) = 0
page_shown (Phase.Ended o) = 0

abbrev pub address_shown : Phase → ℕ
address_shown Phase.Greeting = 0
address_shown (Phase.Out (Step.Erase p)) = 0
address_shown (Phase.Out (Step.Write a)) = a.0
address_shown (Phase.Out (Step.Verify a)) = a.0
address_shown (Phase.Out Step.Run) = 0
address_shown (Phase.Ended o) = 0

abbrev pub outcome_shown : Phase → ℕ
outcome_shown Phase.Greeting = 0
outcome_shown (Phase.Out s) = 0
outcome_shown (Phase.Ended o) = paper_outcome o

abbrev pub session_meant : SessionState → Session
session_meant s =
    record {
      board = s.board;
      kind = kind_of s.run;
      phase = phase_meant s.phase s.page s.address s.outcome;
      acknowledged = s.acknowledged;
      total = s.total;
      named = s.named;
    }

abbrev pub session_shown : Session → SessionState
session_shown s =
    record {
      board = s.board;
      run = paper_kind s.kind;
      phase = phase_shown s.phase;
      page = page_shown s.phase;
      address = address_shown s.phase;
      outcome = outcome_shown s.phase;
      acknowledged = s.acknowledged;
      total = s.total;
      named = s.named;
    }

-- 0 waiting for the greeting, 1 under way, 2 an end by its outcome
abbrev pub stage_meant : ℕ → ℕ → Stage
stage_meant n outcome =
    pick (eqb n 0) Stage.Waiting (pick (eqb n 1) Stage.UnderWay (Stage.Ended (outcome_meant outcome)))

abbrev pub stage_shown : Stage → ℕ
stage_shown Stage.Waiting = 0
stage_shown Stage.UnderWay = 1
stage_shown (Stage.Ended o) = 2

abbrev pub ending_shown : Stage → ℕ
ending_shown Stage.Waiting = 0
ending_shown Stage.UnderWay = 0
ending_shown (Stage.Ended o) = paper_outcome o

-- a stage and an outcome are listed where what they stand for is shown by them
abbrev pub listed : ℕ → ℕ → Bool
listed n outcome =
    let s = stage_meant n outcome in
    both (eqb (stage_shown s) n) (eqb (ending_shown s) outcome)

-- the record at a stage, with so many packets acknowledged
abbrev pub plain_at : PlainState → Stage → ℕ → Plain
plain_at s stage k =
    record {
      board = s.board;
      kind = kind_of s.run;
      phase = stage;
      acknowledged = k;
      total = s.total;
      named = s.named;
    }

-- one that is not listed came from no start: it stands for one that waits for the greeting with a packet
-- acknowledged, which fits no file
abbrev pub plain_meant : PlainState → Plain
plain_meant s =
    pick (listed s.stage s.outcome)
    (plain_at s (stage_meant s.stage s.outcome) s.acknowledged)
    (plain_at s Stage.Waiting 1)

abbrev pub plain_shown : Plain → PlainState
plain_shown p =
    record {
      board = p.board;
      run = paper_kind p.kind;
      stage = stage_shown p.phase;
      outcome = ending_shown p.phase;
      acknowledged = p.acknowledged;
      total = p.total;
      named = p.named;
    }

-- a station's settings, each a number as it came
abbrev pub station_meant : StationState → Station
station_meant s =
    record {
      version = s.version;
      number = s.station;
      run = s.run;
      rules = s.rules;
      first = record { 0 = s.first };
      last = record { 0 = s.last };
    }

abbrev pub station_shown : Station → StationState
station_shown s =
    record {
      version = s.version;
      station = s.number;
      run = s.run;
      rules = s.rules;
      first = s.first.0;
      last = s.last.0;
    }
