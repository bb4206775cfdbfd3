-- `feed` meets its contract: a line and its 0A leave what feeding them byte by byte leaves.
use Rattle.std.proofs.Common.{sym, ◌∙◌, rules}
use Rattle.listing.specs.Laws.Reading.{feed-stopped}
use Rattle.listing.proofs.Texts.{line-fed}
use Rattle.listing.proofs.text.feed.Goals as goal

pub returns-in_err-text-2 : goal.returns-in_err-text-2
returns-in_err-text-2 c =
    let stops = sym (feed-stopped _ _ _ _ _ c.in-Some.others.now)
    ∙ line-fed _ _ _ _ _ _ _ _ _ _ _ c.in-Some.ensures.cut (c.keep-text.ensures _ _ _) c.ended.ensures
    c.in_err-text-2.ensures
    ∙ c.loop-front.invariant in
    search rules

pub loop-front-preserved : goal.loop-front-preserved
loop-front-preserved c =
    line-fed _ _ _ _ _ _ _ _ _ _ _ c.in-Some.ensures.cut (c.keep-text.ensures _ _ _) c.ended.ensures
    c.in_ok-text-2.ensures
    ∙ c.loop-front.invariant
