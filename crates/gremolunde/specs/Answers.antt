-- The paper's answers as C gets them: 0 and what is given, or the
-- refusal's number; a refusal hands a state back as it came.
use Rattle.std.specs.Prelude.{ℕ, Bool, length}
use Rattle.basis.specs.Refusals.{Answer, refused, given}
use Rattle.image.specs.Record.{Pointed, wrong, right}
use Rattle.image.specs.Writer.{Measured}
use Rattle.image.specs.declared.hex.Hex.{Hex}
use Rattle.line.specs.declared.rehearse.Load.{Load}
use Rattle.loader.specs.declared.state.Loader.{Loader}
use Rattle.packet.specs.Packet as packet
use Rattle.plain.specs.Plain as plain
use Rattle.port.specs.Port.{Turn}
use Rattle.port.specs.declared.port.Port.{Port}
use Rattle.receiver.specs.declared.receiver.Receiver.{Receiver}
use Rattle.receiver.specs.declared.receiver.Stretch.{Stretch}
use Rattle.service_log.specs.declared.read.Record.{Record}
use Rattle.session.specs.Session.{Next}
use Rattle.stations.specs.declared.station.Station.{Station}
use Rattle.stations.specs.declared.table.Standing.{Standing}
use Rattle.gremolunde.specs.States.{flag_of, loader_shown, hex_shown, session_shown, plain_shown, station_shown}
use Rattle.gremolunde.specs.declared.answers.Length.{Length}
use Rattle.gremolunde.specs.declared.files.HexRead.{HexRead}
use Rattle.gremolunde.specs.declared.files.HexWritten.{HexWritten}
use Rattle.gremolunde.specs.declared.loading.Taken.{Taken}
use Rattle.gremolunde.specs.declared.packets.Parts.{Parts}
use Rattle.gremolunde.specs.declared.plains.PlainStepped.{PlainStepped}
use Rattle.gremolunde.specs.declared.ports.PortTaken.{PortTaken}
use Rattle.gremolunde.specs.declared.receiving.Received.{Received}
use Rattle.gremolunde.specs.declared.records.LogRecord.{LogRecord}
use Rattle.gremolunde.specs.declared.rehearsals.Rehearsal.{Rehearsal}
use Rattle.gremolunde.specs.declared.sessions.SessionMark.{SessionMark}
use Rattle.gremolunde.specs.declared.sessions.SessionStepped.{SessionStepped}
use Rattle.gremolunde.specs.declared.settings.Finished.{Finished}
use Rattle.gremolunde.specs.declared.settings.StationAnswer.{StationAnswer}
use Rattle.gremolunde.specs.declared.settings.StationPlace.{StationPlace}
use Rattle.gremolunde.specs.declared.settings.StationStored.{StationStored}
use Rattle.gremolunde.specs.declared.states.HexState.{HexState}
use Rattle.gremolunde.specs.declared.states.LoaderState.{LoaderState}
use Rattle.gremolunde.specs.declared.states.PlainState.{PlainState}
use Rattle.gremolunde.specs.declared.states.SessionState.{SessionState}
use Rattle.gremolunde.specs.declared.states.StationState.{StationState}

-- how many bytes were written
abbrev pub length_answer : Answer ℕ → Length
length_answer (refused n) = record { number = n; length = 0 }
length_answer (given k) = record { number = 0; length = k }

-- what a packet says
abbrev pub parts_answer : Answer packet.Parts → Parts
parts_answer (refused n) = record { number = n; command = 0; address = 0; place = 0; length = 0 }
parts_answer (given p) =
    record { number = 0; command = p.command; address = p.address; place = p.place; length = p.size }

-- the loader after an input, with the length of its answer, which a refusal may have too
abbrev pub taken_answer : LoaderState → Answer (Unit {0}) → Loader → ℕ → Taken
taken_answer s (refused n) next k = record { number = n; answered = k; loader = s }
taken_answer s (given u) next k = record { number = 0; answered = k; loader = loader_shown next }

-- the receiver after a stretch of bytes
abbrev pub received_answer : Stretch → Received
received_answer x = record { packet = x.packet; taken = x.taken; receiver = x.receiver }

-- the port after some bytes: its loader as after an input, its receiver as it moved on
abbrev pub port_shown_as : Receiver → ℕ → Taken → PortTaken
port_shown_as r n x =
    record {
      number = x.number;
      taken = n;
      answered = x.answered;
      port = record { loader = x.loader; receiver = r };
    }

abbrev pub port_answer_of : LoaderState → Answer (Unit {0}) → Port → ℕ → ℕ → PortTaken
port_answer_of s v next n k = port_shown_as next.receiver n (taken_answer s v next.loader k)

abbrev pub port_answer : LoaderState → Turn → PortTaken
port_answer s t = port_answer_of s t.verdict t.port t.taken (length t.answer)

-- the hex reader; before a start there is none
abbrev pub no_reader : HexState
no_reader = record { board = 0; rules = 0; linear = 0; segment = 0; segmented = 0; ended = 0; taken = 0 }

-- the next one is for the same board; a refusal has a column, 0 where there is none
abbrev pub hex_answer : HexState → ℕ → Pointed Hex → HexRead
hex_answer s board (wrong n c) = record { number = n; column = c; reader = s }
hex_answer s board (right h) = record { number = 0; column = 0; reader = hex_shown board h }

-- the address to go on from and the upper half to go on with; a refusal hands both back
abbrev pub written_answer : ℕ → ℕ → Answer Measured → HexWritten
written_answer a u (refused n) = record { number = n; next = a; upper = u; length = 0 }
written_answer a u (given t) = record { number = 0; next = t.next; upper = t.upper; length = t.length }

-- the session; before a start there is none
abbrev pub no_session : SessionState
no_session =
    record {
      board = 0;
      run = 0;
      phase = 0;
      page = 0;
      address = 0;
      outcome = 0;
      acknowledged = 0;
      total = 0;
      named = 0;
    }

abbrev pub stepped_answer : SessionState → Answer Next → SessionStepped
stepped_answer s (refused n) = record { number = n; length = 0; session = s }
stepped_answer s (given x) = record { number = 0; length = x.len; session = session_shown x.session }

-- the plain session; before a start there is none
abbrev pub no_plain : PlainState
no_plain =
    record { board = 0; run = 0; stage = 0; outcome = 0; acknowledged = 0; total = 0; named = 0 }

abbrev pub plain_stepped_answer : PlainState → Answer plain.Next → PlainStepped
plain_stepped_answer s (refused n) = record { number = n; length = 0; plain = s }
plain_stepped_answer s (given x) = record { number = 0; length = x.len; plain = plain_shown x.session }

-- loader and session at the end of a rehearsal
abbrev pub rehearsed_answer : LoaderState → Answer Load → Rehearsal
rehearsed_answer s (refused n) = record { number = n; loader = s; session = no_session }
rehearsed_answer s (given x) =
    record { number = 0; loader = loader_shown x.loader; session = session_shown x.session }

-- a byte is marked proved or not
abbrev pub mark_answer : Answer Bool → SessionMark
mark_answer (refused n) = record { number = n; proved = 0 }
mark_answer (given t) = record { number = 0; proved = flag_of t }

-- what a log record says
abbrev pub record_answer : Answer Record → LogRecord
record_answer (refused n) =
    record { number = n; version = 0; outcome = 0; acknowledged = 0; total = 0; bytes = 0 }
record_answer (given r) =
    record {
      number = 0;
      version = r.version;
      outcome = r.outcome;
      acknowledged = r.acknowledged;
      total = r.total;
      bytes = r.bytes;
    }

-- a station; where it is refused there is none
abbrev pub no_station : StationState
no_station = record { version = 0; station = 0; run = 0; rules = 0; first = 0; last = 0 }

abbrev pub station_answer : Answer Station → StationAnswer
station_answer (refused n) = record { number = n; station = no_station }
station_answer (given s) = record { number = 0; station = station_shown s }

-- the place where a record was stored
abbrev pub stored_answer : Answer ℕ → StationStored
stored_answer (refused n) = record { number = n; place = 0 }
stored_answer (given i) = record { number = 0; place = i }

-- what is at a place: 0 free, 1 a station, 2 damaged
abbrev pub condition_of : Standing → ℕ
condition_of Standing.Free = 0
condition_of (Standing.Station s) = 1
condition_of Standing.Damaged = 2

abbrev pub place_answer : Answer Standing → StationPlace
place_answer (refused n) = record { number = n; condition = 0 }
place_answer (given x) = record { number = 0; condition = condition_of x }

-- whether it was done
abbrev pub done_answer : Answer (Unit {0}) → Finished
done_answer (refused n) = record { number = n }
done_answer (given u) = record { number = 0 }
