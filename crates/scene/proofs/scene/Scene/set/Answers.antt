use Rattle.std.proofs.Common.{List, ap, arith, length-take}
use Rattle.std.proofs.Math.Seq.{take-set-lt}
use Rattle.reference.specs.declared.pane.Pane.{Pane}
use Rattle.scene.specs.States.{state_of, stacked}
use Rattle.scene.proofs.scene.Scene.set.Goals as goal

pub returns : goal.returns
returns c =
    let s = c.args.self.now in
    ap (λ (ps : List Pane). stacked ps (state_of s)) (take-set-lt s.count s.panes c.args.i c.args.pane (omega (arith, length-take s.count s.panes)))
