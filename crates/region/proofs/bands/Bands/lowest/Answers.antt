use Rattle.std.proofs.Common.{ap, ◌∙◌}
use Rattle.region_laws.specs.Boxes.{no_box}
use Rattle.region_laws.specs.declared.rect.Rect.{Rect}
use Rattle.region_laws.proofs.Strips.{high_last}
use Rattle.region.proofs.bands.Bands.lowest.Goals as goal

pub returns-in-Some : goal.returns-in-Some
returns-in-Some c =
    let i = c.in-Some.ensures.item in
    ap (λ (b : Rect). b.bottom) (i.3.1 no_box) ∙ high_last c.args.self.now.boxes.now c.args.self.now.banded i.3.0
