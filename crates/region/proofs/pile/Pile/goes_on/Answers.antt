use Rattle.std.proofs.Common.{arith, rules}
use Rattle.region_laws.proofs.Stacking.{ends_none, goes_is, goes_not}
use Rattle.region.proofs.pile.Pile.goes_on.Goals as goal

pub returns-then-self : goal.returns-then-self
returns-then-self c = let e = ends_none c.args.self.now.boxes c.args.self.now.start c.args.self.now.count c.args.top c.if-self.true in grind (arith, e)

pub returns-then-self-top : goal.returns-then-self-top
returns-then-self-top c = goes_not c.args.self.now.boxes _ c.args.self.now.start c.args.self.now.count c.args.top (omega arith) (search rules) c.if-self-top.true

pub returns : goal.returns
returns c = goes_is c.args.self.now.boxes c.args.row.now.boxes c.args.self.now.start c.args.self.now.count c.args.row.now.count c.args.top c.same_spans.result (omega arith) (search rules) c.if-self-top.false c.same_spans.ensures
