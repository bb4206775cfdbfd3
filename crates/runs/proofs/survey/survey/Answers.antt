-- `survey` meets its contract: the walk halts at the place's page,
-- and the counts grow where a run or a piece starts.
use Rattle.runs.proofs.Surveys.{tallies-none, tallies-bytes, surveyed, few-runs, few-pieces, few-below}
use Rattle.runs.proofs.survey.survey.Goals as goal

pub over_pages-below-requires-clause-met : goal.over_pages-below-requires-clause-met
over_pages-below-requires-clause-met c = tallies-none _ _ c.default.result c.default.ensures

pub up_to-place-requires-clause-met : goal.up_to-place-requires-clause-met
up_to-place-requires-clause-met c = tallies-bytes _ _ _ c.over_pages-below.ensures

pub returns-clause-survey : goal.returns-clause-survey
returns-clause-survey c =
    let told = c.pages-pages.ensures.pages in
    surveyed _ _ _ _ c.from-page.ensures (rw told at c.over_pages-below.ensures)
    (rw told at c.over_pages-here.ensures) (rw told at c.over_pages-all.ensures)
    c.up_to-place.ensures c.over_places-next.ensures

pub returns-clause-runs : goal.returns-clause-runs
returns-clause-runs c = few-runs _ _ _ c.requires (returns-clause-survey c)

pub returns-clause-pieces : goal.returns-clause-pieces
returns-clause-pieces c = few-pieces _ _ _ c.requires (returns-clause-survey c)

pub returns-clause-below : goal.returns-clause-below
returns-clause-below c = few-below _ _ _ c.requires (returns-clause-survey c)
