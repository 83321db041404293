use Rattle.std.proofs.Common.{◌∙◌, rules, tests}
use Rattle.std.proofs.lemmas.Iterator.{YieldsList-from_slice}
use Rattle.std.proofs.lemmas.Iterator.Search.{any_from_yields_List}
use Rattle.region_laws.specs.Boxes.{inside}
use Rattle.region.proofs.Lists.{some_inside}
use Rattle.region.proofs.asking.some_covers.Goals as goal

pub returns : goal.returns
returns c =
    any_from_yields_List (λ b. inside b c.args.x c.args.y) _ _ c.any.result c.any.ensures.ran (YieldsList-from_slice c.args.bs.now cc) (λ x b q k. search (rules, tests))
    ∙ some_inside c.args.bs.now c.args.x c.args.y
