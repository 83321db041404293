use Rattle.surface.proofs.Pairs.{pair_settled}
use Rattle.surface.proofs.pair.PairShelf.count.Goals as goal

pub returns-clause-settled : goal.returns-clause-settled
returns-clause-settled g c = pair_settled _ _ _ _
