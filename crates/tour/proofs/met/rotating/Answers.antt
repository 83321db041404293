use Rattle.chain.proofs.Steps.{begin_is_function}
use Rattle.chains.specs.Ways.{turnings}
use Rattle.chains.specs.Kinds.{rotating}
use Rattle.tour.proofs.Meeting.{met_from}
use Rattle.tour.proofs.met.rotating.Goals as goal

pub returns : goal.returns
returns c =
    met_from (λ s k. turnings rotating k c.new-chain.result.rule s) _ _ c.meet_ages.new.ages 5 c.meet_ages.auto.ages
    (begin_is_function _ _ _ _ _ _ _ c.new-chain.ensures.begins) c.meet_ages.ensures.met
