use Rattle.std.proofs.Common.{◌≡◌, ◌+◌, drop}
use Rattle.region_laws.specs.Counted.{area}
use Rattle.region.proofs.bands.Bands.area.Given as goal

abbrev pub invariant-loop-b : goal.invariant-loop-b
invariant-loop-b l = l.n + area (drop l.b-index l.self.boxes.now) ≡ area l.self.boxes.now
