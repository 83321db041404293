use Rattle.std.proofs.Common.{arith}
use Rattle.panel.proofs.Brushing.{box_opens, box_goes, box_closes}
use Rattle.panel.proofs.panel.Panel.paint_box.Goals as goal

pub loop-y-init : goal.loop-y-init
loop-y-init g c = (box_opens g.P.Pixel.lay (g.S.Shelf.tells g.P.Pixel.solid) g.C.Chain.tells g.C.Chain.sound c.args.sights.now c.args.self.now c.args.b.left c.args.b.top c.args.b.right, omega arith)

pub loop-y-preserved : goal.loop-y-preserved
loop-y-preserved g c = (
  box_goes g.P.Pixel.lay (g.S.Shelf.tells g.P.Pixel.solid) g.C.Chain.tells g.C.Chain.sound c.args.sights.now c.args.self.now
      c.loop-y.self c.paint_row-row.new.self c.args.b.left c.args.b.top c.args.b.right c.loop-y.y c.loop-y.tally c.paint_row-row.result c.add.new.self
      (omega arith) c.loop-y.invariant.0 c.paint_row-row.ensures c.add.ensures,
  omega arith,
)

pub returns : goal.returns
returns g c =
    box_closes g.P.Pixel.lay (g.S.Shelf.tells g.P.Pixel.solid) g.C.Chain.tells g.C.Chain.sound c.args.sights.now c.args.self.now
    c.loop-y.self c.args.b.left c.args.b.top c.args.b.right c.args.b.bottom c.loop-y.y c.loop-y.tally (omega arith) (omega arith) c.loop-y.invariant.1 c.loop-y.invariant.0
