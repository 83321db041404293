use Rattle.region_laws.proofs.Laws.{one_list, every_set}
use Rattle.region.proofs.region.Region.same.Goals as goal

pub returns-clause-one_list : goal.returns-clause-one_list
returns-clause-one_list c = one_list

pub returns-clause-every_set : goal.returns-clause-every_set
returns-clause-every_set c = every_set
