use Rattle.std.proofs.Common.{ℕ, ◌-◌, ◌<◌, ◌≤◌, length, get_or}
use Rattle.region_laws.specs.Boxes.{no_box}
use Rattle.region_laws.proofs.Swept.{Swept}
use Rattle.region.specs.Making.{pile_of}
use Rattle.region.proofs.bands.Bands.unite.Given as goal

abbrev pub invariant-loop-y : goal.invariant-loop-y
invariant-loop-y l =
    Swept l.self.boxes.now l.other.boxes.now l.y (pile_of l.p) l.p.start × (l.y ≤ l.end)
    × (l.above ≤ length l.self.boxes.now) × ((m : ℕ) → m < l.above → (get_or l.self.boxes.now m no_box).bottom ≤ l.y)
    × (l.other_above ≤ length l.other.boxes.now) × ((m : ℕ) → m < l.other_above → (get_or l.other.boxes.now m no_box).bottom ≤ l.y)

abbrev pub decreases-loop-y : goal.decreases-loop-y
decreases-loop-y l = l.end - l.y
