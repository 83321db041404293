use Rattle.std.proofs.Common.{◌≡◌, drop}
use Rattle.region_laws.specs.Bands.{same_row}
use Rattle.region_laws.specs.Spans.{spans}
use Rattle.region.proofs.stacking.same_spans.Given as goal

abbrev pub invariant-loop-i : goal.invariant-loop-i
invariant-loop-i l = same_row (spans (drop l.i l.xs)) (spans (drop l.i l.ys)) ≡ same_row (spans l.xs) (spans l.ys)
