use Rattle.std.proofs.Common.{◌+◌, ◌-◌, ◌≤◌, length}
use Rattle.region.specs.Making.{strip_of}
use Rattle.region_laws.proofs.Woven.{Woven}
use Rattle.region.proofs.strip.Strip.merge.Given as goal

abbrev pub invariant-loop-i : goal.invariant-loop-i
invariant-loop-i l = Woven l.xs l.ys l.i l.j (strip_of l.self) × (l.i ≤ length l.xs) × (l.j ≤ length l.ys) × (l.self.count ≤ l.i + l.j)

abbrev pub decreases-loop-i : goal.decreases-loop-i
decreases-loop-i l = length l.xs + length l.ys - (l.i + l.j)
