use Rattle.std.proofs.Common.{[], ◌∷◌, ◌∙◌}
use Rattle.region_laws.specs.Boxes.{box}
use Rattle.region_laws.specs.Examples.{dots}
use Rattle.region_laws.proofs.Examples.{lengthened_is}
use Rattle.tour.proofs.Joining.{join_is}
use Rattle.tour.proofs.joins.lengthened.Goals as goal

pub returns : goal.returns
returns c =
    join_is _ _ _ (dots 32) (box 63 0 64 1 ∷ []) c.join.ensures.list c.dots.ensures c.boxed.ensures ∙ lengthened_is.list
