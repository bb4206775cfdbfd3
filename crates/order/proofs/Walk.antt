-- A step leads to the next, and what is left from it on begins with it.
use Rattle.order.specs.Laws.Walk.{walk-start, walk-next, walk-stands, walk-first, walk-all}

pub ruleset walk = (walk-start, walk-next, walk-stands, walk-first, walk-all)
