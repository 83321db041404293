use Rattle.std.proofs.Common.{eqb, sym, ◌∙◌, rules, tests}
use Rattle.std.proofs.lemmas.Iterator.{YieldsList-from_slice}
use Rattle.std.proofs.lemmas.Iterator.Search.{position_from_yields_List}
use Rattle.std.proofs.lemmas.List.{take_rest}
use Rattle.script.proofs.Splitting.{parted, at_some, at_none}
use Rattle.script.proofs.parting.cut.Goals as goal

pub returns-in-Some : goal.returns-in-Some
returns-in-Some c =
    let sep = c.args.sep in
    let text = c.args.text.now in
    let found = position_from_yields_List (λ b. eqb b sep) _ _ c.position.result c.position.ensures.ran (YieldsList-from_slice text cc) (λ x b q k. search (rules, tests)) in
    let p = at_some sep text c.in-Some.n (sym c.in-Some.is ∙ found) in
    rw take_rest (record { first = p.0; then = p.1; parted = parted sep text _ _ p.0 p.1 })

pub returns-in-None : goal.returns-in-None
returns-in-None c =
    let sep = c.args.sep in
    let text = c.args.text.now in
    let found = position_from_yields_List (λ b. eqb b sep) _ _ c.position.result c.position.ensures.ran (YieldsList-from_slice text cc) (λ x b q k. search (rules, tests)) in
    let p = at_none sep text (sym c.in-None.is ∙ found) in
    record { first = p.0; then = p.1; parted = parted sep text _ _ p.0 p.1 }
