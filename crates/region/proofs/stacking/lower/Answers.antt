use Rattle.std.proofs.Common.{arith}
use Rattle.region_laws.proofs.Stacking.{lowering_more, lowering_all}
use Rattle.region.proofs.stacking.lower.Goals as goal

pub loop-b-preserved : goal.loop-b-preserved
loop-b-preserved c = lowering_more c.args.bs.now c.loop-b.bs c.args.bottom c.loop-b.b-index (omega arith) (omega arith) c.loop-b.invariant

pub returns : goal.returns
returns c = lowering_all c.args.bs.now c.loop-b.bs c.args.bottom c.loop-b.b-index (omega arith) (omega arith) c.loop-b.invariant
