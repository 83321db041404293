use Rattle.std.proofs.Common.{◌<◌, List, ap, arith, length-take}
use Rattle.reference.specs.declared.pane.Pane.{Pane}
use Rattle.scene.specs.States.{state_of, stacked}
use Rattle.scene.proofs.Turns.{turned_left}
use Rattle.scene.proofs.scene.Scene.take_out.Goals as goal

pub returns : goal.returns
returns c =
    let s = c.args.self.now in
    let l : c.args.i < s.count = omega (arith, length-take s.count s.panes) in
    record {
      stack = ap (λ (ps : List Pane). stacked ps (state_of s)) (turned_left s.panes c.args.i s.count c.rotate_left.new.self (omega arith) l c.rotate_left.ensures.after);
      room = omega arith;
    }
