use Rattle.std.proofs.Common.{inr, arith, rules}
use Rattle.region_laws.specs.Boxes.{box}
use Rattle.region_laws.proofs.Extend.{add_first, add_behind, add_longer, add_held}
use Rattle.region.proofs.strip.Strip.add.Goals as goal

pub returns-then-n-eq0 : goal.returns-then-n-eq0
returns-then-n-eq0 c = record { row = add_first c.args.self.now.boxes c.args.self.now.count c.args.left c.args.right 0 0 (search rules) c.if-n-eq0.true; few = search rules }

pub returns-then-last-left : goal.returns-then-last-left
returns-then-last-left c =
    record { row = add_behind c.args.self.now.boxes c.args.self.now.count (box 0 0 0 0) c.args.left c.args.right 0 0 (search rules) (inr (omega arith, c.if-last-left.true)); few = omega arith }

pub returns-then-last-right : goal.returns-then-last-right
returns-then-last-right c =
    record { row = add_longer c.args.self.now.boxes c.args.self.now.count (box 0 0 0 0) c.args.left c.args.right _ _ (omega arith) (search rules) c.if-last-left.false c.if-last-right.true; few = search rules }

pub returns-else-last-right : goal.returns-else-last-right
returns-else-last-right c =
    record { row = add_held c.args.self.now.boxes c.args.self.now.count (box 0 0 0 0) c.args.left c.args.right (omega arith) (search rules) c.if-last-left.false c.if-last-right.false; few = search rules }
