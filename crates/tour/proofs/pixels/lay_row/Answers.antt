use Rattle.std.proofs.Common.{◌∙◌, arith}
use Rattle.tour.proofs.Rows.{laid_more, laid_all}
use Rattle.tour.proofs.pixels.lay_row.Goals as goal

pub loop-i-preserved : goal.loop-i-preserved
loop-i-preserved g c =
    laid_more g.P.Pixel.lay c.args.above.now c.args.row.now c.loop-i.row c.loop-i.i
    c.index-above-i.result c.index-row-i.result c.over.result (omega arith) (omega arith)
    c.loop-i.invariant c.index-above-i.is c.index-row-i.is c.over.ensures

pub returns : goal.returns
returns g c =
    c.loop-i.invariant ∙ laid_all g.P.Pixel.lay c.args.above.now c.args.row.now c.loop-i.i (omega arith)
