use Rattle.std.proofs.Common.{sym, ◌∙◌, arith}
use Rattle.std.proofs.lemmas.Bool.Decides.{nat_tests}
use Rattle.region_laws.proofs.Stacking.{same_more, same_all, same_length}
use Rattle.region.proofs.stacking.same_spans.Goals as goal

pub returns-then-xs-ys : goal.returns-then-xs-ys
returns-then-xs-ys c = same_length c.args.xs.now c.args.ys.now (omega arith)

pub returns-then-xs-i : goal.returns-then-xs-i
returns-then-xs-i c =
    let e = same_more c.args.xs.now c.args.ys.now c.loop-i.i (omega arith) (omega arith) in
    grind (arith, nat_tests, e)

pub loop-i-preserved : goal.loop-i-preserved
loop-i-preserved c =
    let e = same_more c.args.xs.now c.args.ys.now c.loop-i.i (omega arith) (omega arith) in
    grind (arith, nat_tests, e)

pub returns : goal.returns
returns c = sym (same_all c.args.xs.now c.args.ys.now c.loop-i.i (omega arith) (omega arith)) ∙ c.loop-i.invariant
