use Rattle.std.proofs.Common.{eqb, ◌∙◌, rules, tests}
use Rattle.std.proofs.lemmas.Iterator.{YieldsList-from_slice}
use Rattle.std.proofs.lemmas.Iterator.Search.{position_from_yields_List}
use Rattle.scene.proofs.Heights.{position_is}
use Rattle.scene.proofs.stack.find.Goals as goal

pub returns-clause-height : goal.returns-clause-height
returns-clause-height c =
    position_from_yields_List (λ p. eqb p.surface c.args.surface) _ _ c.position.result c.position.ensures.ran (YieldsList-from_slice c.args.panes.now cc) (λ x b q k. search (rules, tests))
    ∙ position_is c.args.surface c.args.panes.now
