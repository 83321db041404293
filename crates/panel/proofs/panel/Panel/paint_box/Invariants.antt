use Rattle.std.proofs.Common.{◌≤◌, max}
use Rattle.region_laws.specs.Boxes.{box}
use Rattle.panel.specs.Paints.{PaintedBox}
use Rattle.panel.proofs.panel.Panel.paint_box.Given as goal

abbrev pub invariant-loop-y : goal.invariant-loop-y
invariant-loop-y g l =
    PaintedBox g.P.Pixel.lay (g.S.Shelf.tells g.P.Pixel.solid) g.C.Chain.tells l.initial.self l.sights (box l.b.left l.b.top l.b.right l.y) l.tally l.self
    × (l.y ≤ max l.b.top l.b.bottom)
