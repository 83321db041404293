use Rattle.std.proofs.Common.{take}
use Rattle.panel.specs.Paints.{PaintedList}
use Rattle.panel.proofs.panel.Panel.paint.Given as goal

abbrev pub invariant-loop-b : goal.invariant-loop-b
invariant-loop-b g l =
    PaintedList g.P.Pixel.lay (g.S.Shelf.tells g.P.Pixel.solid) g.C.Chain.tells l.initial.self l.sights (take l.b-index l.b-items) l.tally l.self
