use Rattle.std.proofs.Common.{◌≡◌, take}
use Rattle.tour.specs.Rows.{laid_row}
use Rattle.tour.proofs.pixels.lay_row.Given as goal

abbrev pub invariant-loop-i : goal.invariant-loop-i
invariant-loop-i g l = l.row ≡ laid_row g.P.Pixel.lay (take l.i l.above) l.initial.row
