use Rattle.std.proofs.Common.{refl, rules}
use Rattle.std.proofs.lemmas.List.{take_more_set}
use Rattle.region_laws.proofs.Stacking.{rest_set}
use Rattle.region.proofs.pile.Pile.push.Goals as goal

pub invariant_of-self : goal.invariant_of-self
invariant_of-self c = record { size = search rules; few = search rules; begun = search rules; rest = rest_set c.args.self.now.boxes c.args.self.now.count c.args.b c.args.self.now.rest }

pub returns : goal.returns
returns c = record { list = take_more_set c.args.self.now.boxes c.args.self.now.count c.args.b (search rules); more = refl }
