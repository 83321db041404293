use Rattle.region.specs.Lists.{list_of}
use Rattle.region_laws.proofs.Counts.{stays_in, each_once}
use Rattle.region_laws.proofs.FromRules.{banding}
use Rattle.region.proofs.region.Region.boxes.Goals as goal

pub returns-clause-rules : goal.returns-clause-rules
returns-clause-rules c = (banding (list_of c.args.self.now)).0 c.args.self.now.banded

pub returns-clause-banding : goal.returns-clause-banding
returns-clause-banding c = banding

pub returns-clause-within : goal.returns-clause-within
returns-clause-within c = stays_in (list_of c.args.self.now) c.args.self.now.banded

pub returns-clause-each_once : goal.returns-clause-each_once
returns-clause-each_once c = each_once (list_of c.args.self.now) c.args.self.now.banded
