use Rattle.std.proofs.Common.{◌≤◌, max}
use Rattle.reference.specs.Painting.{row_box}
use Rattle.panel.specs.Paints.{PaintedBox}
use Rattle.panel.proofs.panel.Panel.paint_row.Given as goal

abbrev pub invariant-loop-x : goal.invariant-loop-x
invariant-loop-x g l =
    PaintedBox g.P.Pixel.lay (g.S.Shelf.tells g.P.Pixel.solid) g.C.Chain.tells l.initial.self l.sights (row_box l.left l.x l.y) l.tally l.self × (l.x ≤ max l.left l.right)
