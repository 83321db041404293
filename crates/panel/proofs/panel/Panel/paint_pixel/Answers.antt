use Rattle.panel.specs.Sights.{sights_of, composed}
use Rattle.reference_laws.proofs.Painting.{painted_dot}
use Rattle.std.proofs.Common.{refl}
use Rattle.panel.proofs.panel.Panel.paint_pixel.Goals as goal

pub returns : goal.returns
returns g c = record {
  painted = painted_dot (g.C.Chain.tells c.args.self.now.chain) (g.C.Chain.tells c.write.new.self)
      (composed g.P.Pixel.lay (g.S.Shelf.tells g.P.Pixel.solid c.args.self.now.shelf) c.args.self.now.base (sights_of c.args.sights.now))
      c.args.x c.args.y c.compose-pixel.result.pixel c.write.result (g.C.Chain.sound c.args.self.now.chain).writes c.write.ensures c.compose-pixel.ensures.pixel;
  laid = c.compose-pixel.ensures.laid;
  few = c.compose-pixel.ensures.few;
  rest = record { base = refl; shelf = refl; display = refl; scene = refl };
}
