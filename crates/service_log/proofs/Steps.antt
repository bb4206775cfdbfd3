-- Steps that functions of this crate share.
use Rattle.service_log.specs.Laws.Big.{big-bytes}
use Rattle.service_log.specs.Laws.Log.{record-length}
use Rattle.service_log.specs.Laws.Sessions.{write-none, write-some}

-- what is written has the length that the writer gives
pub ruleset lengths = (record-length)

-- a count's bytes are the last of four
pub ruleset bytes = (big-bytes)

-- a session is written by its outcome
pub ruleset outcomes = (write-none, write-some)
