use Rattle.std.proofs.Common.{List, subst, arith}
use Rattle.region_laws.specs.declared.rect.Rect.{Rect}
use Rattle.panel.specs.Paints.{PaintedList}
use Rattle.panel.proofs.Brushing.{list_opens, list_goes, list_closes}
use Rattle.panel.proofs.panel.Panel.paint.Goals as goal

pub loop-b-init : goal.loop-b-init
loop-b-init g c = list_opens g.P.Pixel.lay (g.S.Shelf.tells g.P.Pixel.solid) g.C.Chain.tells g.C.Chain.sound c.args.sights.now c.args.self.now c.boxes-b-items.result.now

pub loop-b-preserved : goal.loop-b-preserved
loop-b-preserved g c =
    list_goes g.P.Pixel.lay (g.S.Shelf.tells g.P.Pixel.solid) g.C.Chain.tells g.C.Chain.sound c.args.sights.now c.args.self.now
    c.loop-b.self c.paint_box-part.new.self c.boxes-b-items.result.now c.loop-b.b-index c.loop-b.tally c.paint_box-part.result c.add.new.self
    (omega arith) c.loop-b.invariant c.paint_box-part.ensures c.add.ensures

pub returns : goal.returns
returns g c =
    subst (λ (bs : List Rect). PaintedList g.P.Pixel.lay (g.S.Shelf.tells g.P.Pixel.solid) g.C.Chain.tells c.args.self.now c.args.sights.now bs c.loop-b.tally c.loop-b.self) c.boxes-b-items.ensures.list
    (list_closes g.P.Pixel.lay (g.S.Shelf.tells g.P.Pixel.solid) g.C.Chain.tells g.C.Chain.sound c.args.sights.now c.args.self.now
    c.loop-b.self c.boxes-b-items.result.now c.loop-b.b-index c.loop-b.tally (omega arith) c.loop-b.invariant)
