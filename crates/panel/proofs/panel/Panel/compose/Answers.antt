use Rattle.panel.specs.Sights.{sights_of}
use Rattle.panel.proofs.Composing.{composed_from}
use Rattle.panel.proofs.panel.Panel.compose.Goals as goal

pub returns : goal.returns
returns g c = record {
  pixel = composed_from g.P.Pixel.lay (g.S.Shelf.tells g.P.Pixel.solid c.args.self.now.shelf) c.args.x c.args.y c.args.self.now.base
      (sights_of c.args.sights.now) c.descend-from.result.from c.descend-from.result.laid c.lay_up-pixel.result c.descend-from.ensures c.lay_up-pixel.ensures;
  laid = c.descend-from.ensures.counted;
  few = c.descend-from.ensures.few;
}
