use Rattle.region_laws.proofs.Stacking.{Lowering}
use Rattle.region.proofs.stacking.lower.Given as goal

abbrev pub invariant-loop-b : goal.invariant-loop-b
invariant-loop-b l = Lowering l.initial.bs l.bs l.bottom l.b-index
