use Rattle.std.proofs.Common.{◌≡◌, ◌≤◌, min, take, fold}
use Rattle.region_laws.specs.Joined.{joined}
use Rattle.region.specs.Lists.{list_of}
use Rattle.scene.specs.States.{slots}
use Rattle.scene.proofs.scene.Scene.with_past.Given as goal

abbrev pub invariant-loop-damage : goal.invariant-loop-damage
invariant-loop-damage l =
    record { joins : list_of l.all ≡ fold joined (list_of l.self.pending) (take l.damage-index (slots l.self)); within : l.damage-index ≤ min l.n l.self.shows }
