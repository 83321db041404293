use Rattle.std.proofs.Common.{◌∙◌, rules}
use Rattle.std.proofs.lemmas.List.{places}
use Rattle.region_laws.proofs.Stacking.{lengthen_is, rest_part}
use Rattle.region.proofs.pile.Pile.lengthen.Goals as goal

pub invariant_of-self : goal.invariant_of-self
invariant_of-self c = record { size = search (rules, places); few = search rules; begun = search rules; rest = rest_part c.args.self.now.boxes c.lower.new.bs c.args.self.now.start c.args.self.now.count c.args.bottom (search rules) (search rules) c.lower.ensures ∙ c.args.self.now.rest }

pub returns : goal.returns
returns c = record { list = lengthen_is c.args.self.now.boxes c.lower.new.bs c.args.self.now.start c.args.self.now.count c.args.bottom (search rules) (search rules) c.lower.ensures; start = search rules }
