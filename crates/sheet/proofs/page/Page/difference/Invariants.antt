use Rattle.std.proofs.Common.{◌≡◌}
use Rattle.surface.specs.Hull.{hull}
use Rattle.sheet.specs.Pages.{differs}
use Rattle.sheet.proofs.page.Page.difference.Given as goal

abbrev pub invariant-loop-y : goal.invariant-loop-y
invariant-loop-y g l = l.found ≡ hull (differs g.P.Pixel.equal l.self.width l.self.pixels.now l.other.pixels.now) l.self.width l.y
