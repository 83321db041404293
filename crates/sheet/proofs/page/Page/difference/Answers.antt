use Rattle.sheet.proofs.Rows.{page_more}
use Rattle.sheet.proofs.page.Page.difference.Goals as goal

pub loop-y-preserved : goal.loop-y-preserved
loop-y-preserved g c =
    page_more g.P.Pixel.equal _ _ c.row.result.now c.row-in-loop-y.result.now c.args.self.now.width c.args.other.now.width c.loop-y.y c.loop-y.found c.row_difference-found.result
    c.row.ensures.is c.row-in-loop-y.ensures.is c.row.ensures.long c.requires.0 c.loop-y.invariant c.row_difference-found.ensures
