-- What is shown of a state stands for that state, so a caller who
-- passes on what was handed back goes the paper's way.
use Rattle.std.specs.Prelude.{ℕ, Bool, true, false, List, ◌≡◌, refl, eqb}
use Rattle.std.proofs.Common.{ap, eq-eqb}
use Rattle.basis.specs.Laws.RunKinds.{kind-back}
use Rattle.events.specs.Endings.{paper_outcome}
use Rattle.events.specs.declared.ending.Outcome.{Outcome}
use Rattle.image.specs.declared.hex.Hex.{Hex}
use Rattle.loader.specs.declared.state.Condition.{Condition}
use Rattle.loader.specs.declared.state.Condition.TheVariants.{Waiting, Serving, Left}
use Rattle.loader.specs.declared.state.Loader.{Loader}
use Rattle.order.specs.declared.step.Step.{Step}
use Rattle.plain.specs.Laws.Fits.{unreached}
use Rattle.plain.specs.Plain.{Plain, fits_of}
use Rattle.plain.specs.declared.stage.Stage.{Stage}
use Rattle.session.specs.declared.phase.Phase.{Phase}
use Rattle.session.specs.Session.{Session}
use Rattle.stations.specs.declared.station.Station.{Station}
use Rattle.gremolunde.specs.declared.states.PlainState.{PlainState}
use Rattle.gremolunde.specs.States.{is_set, flag_of, condition_meant, condition_shown, loader_meant, loader_shown, hex_meant, hex_shown, outcome_meant, phase_meant, phase_shown, page_shown, address_shown, outcome_shown, session_meant, session_shown, stage_meant, stage_shown, ending_shown, listed, plain_at, plain_meant, plain_shown, station_meant, station_shown}

flag-back : (t : Bool) → is_set (flag_of t) ≡ t
flag-back true = refl
flag-back false = refl

condition-back : (c : Condition) → condition_meant (condition_shown c) ≡ c
condition-back Waiting = refl
condition-back Serving = refl
condition-back Left = refl

pub loader-back : (l : Loader) → loader_meant (loader_shown l) ≡ l
loader-back l =
    λ i. record {
      condition = condition-back l.condition i;
      sequence = record {
        opened = flag-back l.sequence.opened i;
        added = record { groups = l.sequence.added.groups; read = flag-back l.sequence.added.read i };
      };
      protection = record { groups = l.protection.groups; read = flag-back l.protection.read i };
      key = l.key;
    }

pub hex-back : (board : ℕ) (h : Hex) → hex_meant (hex_shown board h) ≡ h
hex-back board h =
    λ i. record {
      rules = h.rules;
      linear = h.linear;
      segment = h.segment;
      segmented = flag-back h.segmented i;
      ended = flag-back h.ended i;
      taken = flag-back h.taken i;
    }

outcome-back : (o : Outcome) → outcome_meant (paper_outcome o) ≡ o
outcome-back Outcome.Valid = refl
outcome-back Outcome.Held = refl
outcome-back Outcome.Silence = refl
outcome-back Outcome.Bel = refl
outcome-back Outcome.NoGreeting = refl
outcome-back Outcome.Other = refl

itself : (n : ℕ) → eqb n n ≡ true
itself n = eq-eqb n n refl

phase-back : (p : Phase) → phase_meant (phase_shown p) (page_shown p) (address_shown p) (outcome_shown p) ≡ p
phase-back Phase.Greeting = refl
phase-back (Phase.Out (Step.Erase p)) = refl
phase-back (Phase.Out (Step.Write a)) = refl
phase-back (Phase.Out (Step.Verify a)) = refl
phase-back (Phase.Out Step.Run) = refl
phase-back (Phase.Ended o) = rw (outcome-back o, itself (paper_outcome o)) refl

pub session-back : (s : Session) → session_meant (session_shown s) ≡ s
session-back s =
    λ i. record {
      board = s.board;
      kind = kind-back s.kind i;
      phase = phase-back s.phase i;
      acknowledged = s.acknowledged;
      total = s.total;
      named = s.named;
    }

stage-back : (s : Stage) → stage_meant (stage_shown s) (ending_shown s) ≡ s
stage-back Stage.Waiting = refl
stage-back Stage.UnderWay = refl
stage-back (Stage.Ended o) = ap Stage.Ended (outcome-back o)

listed-shown : (s : Stage) → listed (stage_shown s) (ending_shown s) ≡ true
listed-shown s = rw (stage-back s, itself (stage_shown s), itself (ending_shown s)) refl

pub plain_back : (p : Plain) → plain_meant (plain_shown p) ≡ p
plain_back p =
    rw (listed-shown p.phase)
    (λ i. record {
      board = p.board;
      kind = kind-back p.kind i;
      phase = stage-back p.phase i;
      acknowledged = p.acknowledged;
      total = p.total;
      named = p.named;
    })

-- one that is not listed fits no file
pub unlisted-fits : (board : ℕ) (m : List ℕ) (s : PlainState) → listed s.stage s.outcome ≡ false
    → fits_of board m (plain_meant s) ≡ false
unlisted-fits board m s e = rw e (unreached board m (plain_at s Stage.Waiting 1) refl)

pub station-back : (s : Station) → station_meant (station_shown s) ≡ s
station-back s = refl
