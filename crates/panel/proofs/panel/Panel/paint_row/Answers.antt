use Rattle.std.proofs.Common.{arith}
use Rattle.panel.proofs.Brushing.{row_opens, row_goes, row_closes}
use Rattle.panel.proofs.panel.Panel.paint_row.Goals as goal

pub loop-x-init : goal.loop-x-init
loop-x-init g c = (row_opens g.P.Pixel.lay (g.S.Shelf.tells g.P.Pixel.solid) g.C.Chain.tells g.C.Chain.sound c.args.sights.now c.args.self.now c.args.left c.args.y, omega arith)

pub loop-x-preserved : goal.loop-x-preserved
loop-x-preserved g c = (
  row_goes g.P.Pixel.lay (g.S.Shelf.tells g.P.Pixel.solid) g.C.Chain.tells g.C.Chain.sound c.args.sights.now c.args.self.now
      c.loop-x.self c.paint_pixel-laid.new.self c.args.left c.loop-x.x c.args.y c.paint_pixel-laid.result c.loop-x.tally c.add.new.self
      (omega arith) c.loop-x.invariant.0 c.paint_pixel-laid.ensures.painted c.paint_pixel-laid.ensures.laid c.paint_pixel-laid.ensures.few c.paint_pixel-laid.ensures.rest c.add.ensures,
  omega arith,
)

pub returns : goal.returns
returns g c =
    row_closes g.P.Pixel.lay (g.S.Shelf.tells g.P.Pixel.solid) g.C.Chain.tells g.C.Chain.sound c.args.sights.now c.args.self.now
    c.loop-x.self c.args.left c.args.right c.loop-x.x c.args.y c.loop-x.tally (omega arith) (omega arith) c.loop-x.invariant.1 c.loop-x.invariant.0
