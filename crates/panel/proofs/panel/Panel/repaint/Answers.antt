use Rattle.panel.specs.Calls.{meaning}
use Rattle.panel.proofs.Showing.{show_displays}
use Rattle.panel.proofs.Keeping.{displays_keeps}
use Rattle.panel.proofs.panel.Panel.repaint.Goals as goal

pub returns : goal.returns
returns g c =
    let d = show_displays (meaning g.P.Pixel.lay (g.S.Shelf.tells g.P.Pixel.solid) g.S.Shelf.becomes g.C.Chain.tells) g.P.Pixel.solid (g.S.Shelf.sound g.P.Pixel.solid) g.met.P.Pixel.hides c.args.self.now
    c.age-age.new.self c.age-age.ensures.same c.sights-sights.result c.sights-sights.ensures c.paint-touched.new.self c.swap.new.self c.shift.new.self c.age-age.result c.stated-region.result c.paint-touched.result
    c.age-age.ensures.gives c.stated-region.ensures c.paint-touched.ensures c.swap.ensures c.shift.ensures in
    record { displays = d; keeps = displays_keeps (meaning g.P.Pixel.lay (g.S.Shelf.tells g.P.Pixel.solid) g.S.Shelf.becomes g.C.Chain.tells) g.P.Pixel.solid (g.S.Shelf.sound g.P.Pixel.solid) g.C.Chain.sound c.args.self.now _ _ d }
