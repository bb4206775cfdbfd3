-- No board has more than 248 pages.
use Rattle.basis.specs.Laws.Boards.{pages-few}

pub ruleset boards = (pages-few)
