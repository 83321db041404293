use Rattle.std.proofs.Common.{◌≡◌}
use Rattle.region.specs.Lists.{list_of}
use Rattle.tour.proofs.Joining.{joined_dots}
use Rattle.tour.proofs.joins.dots.Given as goal

abbrev pub invariant-loop-i : goal.invariant-loop-i
invariant-loop-i l = list_of l.all ≡ joined_dots l.i
