use Rattle.chain.proofs.Steps.{begin_is_function}
use Rattle.tour.proofs.Meeting.{picks_from}
use Rattle.tour.proofs.met.picking.Goals as goal

pub returns : goal.returns
returns c =
    let picks = c.new-chain.ensures.picks in
    picks_from c.new-chain.result.rule 9 0 _ _ c.meet_ages.new.ages 4 c.meet_ages.auto.ages picks.0
    picks.1 (begin_is_function _ _ _ _ _ _ _ c.new-chain.ensures.begins) c.meet_ages.ensures.met
