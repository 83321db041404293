use Rattle.std.proofs.Common.{◌≡◌, map, take}
use Rattle.panel.specs.Sights.{sight}
use Rattle.panel.proofs.panel.Panel.sights.Given as goal

abbrev pub invariant-loop-pane : goal.invariant-loop-pane
invariant-loop-pane g l = l.all.items ≡ map (sight (g.S.Shelf.tells g.P.Pixel.solid l.self.shelf)) (take l.pane-index l.pane-items)
