use Rattle.std.proofs.Common.{◌∙◌, arith, rules}
use Rattle.region.specs.Making.{pile_of}
use Rattle.region_laws.proofs.Stacking.{band_more}
use Rattle.region.proofs.pile.Pile.write_band.Goals as goal

pub loop-k-preserved : goal.loop-k-preserved
loop-k-preserved c = (
  c.push.ensures.list ∙ band_more (pile_of c.args.self.now) (pile_of c.loop-k.self) c.args.row.now.boxes c.loop-k.k c.args.top c.args.bottom (search rules) c.loop-k.invariant.0,
  omega arith,
)
