use Rattle.std.proofs.Common.{◌≡◌, sym, subst, rules}
use Rattle.region_laws.specs.declared.rect.Rect.{Rect}
use Rattle.region_laws.specs.Boxes.{Smallest}
use Rattle.region_laws.specs.Bands.{covers}
use Rattle.region_laws.specs.Joined.{cover}
use Rattle.region.specs.Lists.{list_of}
use Rattle.region_laws.proofs.Pairs.{banded_all}
use Rattle.region_laws.proofs.Smallest.{cover_smallest}
use Rattle.region.proofs.region.Region.extents.Goals as goal

pub returns-clause-smallest : goal.returns-clause-smallest
returns-clause-smallest c =
    let l = list_of c.args.self.now in
    let e : c.covering.result ≡ cover l = search rules in
    subst (λ (b : Rect). Smallest (covers l) b) (sym e) (cover_smallest l (banded_all l c.args.self.now.banded))
