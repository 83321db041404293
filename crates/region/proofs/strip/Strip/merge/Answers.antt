use Rattle.std.proofs.Common.{arith}
use Rattle.region_laws.specs.Spans.{First}
use Rattle.region.specs.Making.{strip_of}
use Rattle.region_laws.proofs.Woven.{woven_left, woven_right, woven_all}
use Rattle.region.proofs.strip.Strip.merge.Goals as goal

pub loop-i-preserved-then-takes_first : goal.loop-i-preserved-then-takes_first
loop-i-preserved-then-takes_first c =
    let f : First c.args.xs.now c.loop-i.i c.args.ys.now c.loop-i.j = c.takes_first.ensures.yes c.if-takes_first.true in
    (woven_left _ _ _ _ (strip_of c.loop-i.self) _ c.requires.first f c.loop-i.invariant.0 c.add.ensures.row, omega arith, omega arith, omega arith)

pub loop-i-preserved : goal.loop-i-preserved
loop-i-preserved c =
    let f : First c.args.ys.now c.loop-i.j c.args.xs.now c.loop-i.i = c.takes_first.ensures.other c.if-takes_first.false in
    (woven_right _ _ _ _ (strip_of c.loop-i.self) _ c.requires.second f c.loop-i.invariant.0 c.add-else-takes_first.ensures.row, omega arith, omega arith, omega arith)

pub returns : goal.returns
returns c = record { tidy = c.loop-i.invariant.0.tidy; set = woven_all _ _ _ _ _ c.loop-i.invariant.0 (omega arith) (omega arith) }
