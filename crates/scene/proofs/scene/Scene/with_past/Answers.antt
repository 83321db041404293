use Rattle.std.proofs.Common.{fold, ap, ◌∙◌, arith, length-take}
use Rattle.region_laws.specs.Joined.{joined}
use Rattle.region.specs.Lists.{list_of}
use Rattle.scene.specs.States.{slots}
use Rattle.scene.proofs.Turns.{take_least, fold_told}
use Rattle.scene.proofs.scene.Scene.with_past.Goals as goal

pub loop-damage-preserved : goal.loop-damage-preserved
loop-damage-preserved c = record {
  joins = fold_told (λ r. list_of r.now) joined (list_of c.args.self.now.pending) _ c.min.result c.loop-damage.damage-index c.damage-item.result _ _ c.damage-item.is c.loop-damage-test.true c.loop-damage.invariant.joins c.join-all.ensures.list;
  within = let h = simp length-take at c.loop-damage-test.true in omega arith;
}

pub returns : goal.returns
returns c =
    let s = c.args.self.now in
    let h = simp length-take at c.loop-damage-test.false in
    c.loop-damage.invariant.joins ∙ ap (fold joined (list_of s.pending)) (take_least (slots s) c.args.n s.shows c.loop-damage.damage-index (omega arith))
