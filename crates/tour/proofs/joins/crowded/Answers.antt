use Rattle.std.proofs.Common.{[], ◌∷◌, ◌∙◌}
use Rattle.region_laws.specs.Boxes.{box}
use Rattle.region_laws.specs.Examples.{dots}
use Rattle.region_laws.proofs.Examples.{crowded_is}
use Rattle.tour.proofs.Joining.{join_is}
use Rattle.tour.proofs.joins.crowded.Goals as goal

pub returns : goal.returns
returns c =
    join_is _ _ _ (dots 32) (box 64 0 65 1 ∷ []) c.join.ensures.list c.dots.ensures c.boxed.ensures ∙ crowded_is
