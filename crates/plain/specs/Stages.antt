-- How far a plain session is.
use Rattle.std.specs.Prelude.{ℕ, Bool, true, false, eqb, ltb}
use Rattle.basis.specs.Choice.{pick}
use Rattle.basis.specs.declared.kind.RunKind.{RunKind}
use Rattle.events.specs.Endings.{asked, own_number, ends_at}
use Rattle.events.specs.declared.ending.Awaited.{Awaited}
use Rattle.plain.specs.declared.stage.Stage.{Stage}

abbrev pub ended : Stage → Bool
ended Stage.Waiting = false
ended Stage.UnderWay = false
ended (Stage.Ended o) = true

-- first the greeting is awaited, later the single byte 06
abbrev pub awaits_of : Stage → Awaited
awaits_of Stage.Waiting = Awaited.Greeting
awaits_of Stage.UnderWay = Awaited.Ack
-- never asked: 44 comes first
awaits_of (Stage.Ended o) = Awaited.Ack

-- with k of n packets acknowledged: under way while one is left, and then ended as was asked
abbrev pub stage_at : RunKind → ℕ → ℕ → Stage
stage_at kind n k = pick (ltb k n) Stage.UnderWay (Stage.Ended (asked kind))

-- one that is under way has a packet left
abbrev pub packet_left : ℕ → Stage → ℕ → Bool
packet_left n Stage.Waiting k = true
packet_left n Stage.UnderWay k = ltb k n
packet_left n (Stage.Ended o) k = true

-- a start and events lead to the stage with k of n packets acknowledged: none where the greeting is awaited;
-- one is left where it is under way; one that has ended is an ending that k acknowledgements allow
abbrev pub came_at : RunKind → ℕ → Stage → ℕ → Bool
came_at kind n Stage.Waiting k = eqb k 0
came_at kind n Stage.UnderWay k = ltb k n
came_at kind n (Stage.Ended o) k = ends_at (asked kind) n o k

-- how a session ended: 0 valid, 1 verified and held, 40 to 43; 45, which no record has, for one that is
-- unfinished, or whose ending is not its run kind's
abbrev pub outcome_of : RunKind → Stage → ℕ
outcome_of kind Stage.Waiting = 45
outcome_of kind Stage.UnderWay = 45
outcome_of kind (Stage.Ended o) = own_number kind o
