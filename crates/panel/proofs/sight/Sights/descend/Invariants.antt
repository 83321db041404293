use Rattle.std.proofs.Common.{length}
use Rattle.panel.specs.Sights.{sights_of}
use Rattle.panel.proofs.Descending.{Left}
use Rattle.panel.proofs.sight.Sights.descend.Given as goal

abbrev pub decreases-loop-rest : goal.decreases-loop-rest
decreases-loop-rest l = length l.rest

abbrev pub invariant-loop-rest : goal.invariant-loop-rest
invariant-loop-rest l = Left (sights_of l.self) l.x l.y l.rest l.laid
