use Rattle.std.proofs.Common.{◌≡◌, true, List, sym, ◌∙◌, subst, rules}
use Rattle.region_laws.specs.declared.rect.Rect.{Rect}
use Rattle.region_laws.specs.Bands.{banded}
use Rattle.region_laws.specs.Joined.{union}
use Rattle.region.specs.Lists.{list_of}
use Rattle.region.specs.Making.{pile_of}
use Rattle.region_laws.proofs.Union.{union_banded}
use Rattle.region.proofs.Joins.{regions_unite, regions_join, regions_laws}
use Rattle.region.proofs.region.Region.join.Goals as goal

pub returns-then-self-eq0-clause-unites : goal.returns-then-self-eq0-clause-unites
returns-then-self-eq0-clause-unites c = regions_unite c.args.self.now c.args.other.now

pub returns-then-self-eq0-clause-laws : goal.returns-then-self-eq0-clause-laws
returns-then-self-eq0-clause-laws c = regions_laws c.args.self.now c.args.other.now

pub returns-then-other-eq0-clause-unites : goal.returns-then-other-eq0-clause-unites
returns-then-other-eq0-clause-unites c = regions_unite c.args.self.now c.args.other.now

pub returns-then-other-eq0-clause-laws : goal.returns-then-other-eq0-clause-laws
returns-then-other-eq0-clause-laws c = regions_laws c.args.self.now c.args.other.now

pub made-requires : goal.made-requires
made-requires c =
    let u : pile_of c.in-Ok.p ≡ union (list_of c.args.self.now) (list_of c.args.other.now) = c.in-Ok.ensures ∙ (λ i. union (c.bands.ensures i) (c.bands-2.ensures i)) in
    subst (λ (v : List Rect). banded v ≡ true) (sym u) (union_banded (list_of c.args.self.now) (list_of c.args.other.now) c.args.self.now.banded c.args.other.now.banded)

pub returns-in-Ok-clause-joins : goal.returns-in-Ok-clause-joins
returns-in-Ok-clause-joins c = regions_join c.args.self.now c.args.other.now (list_of c.made.result) (search rules)

pub returns-in-Ok-clause-unites : goal.returns-in-Ok-clause-unites
returns-in-Ok-clause-unites c = regions_unite c.args.self.now c.args.other.now

pub returns-in-Ok-clause-laws : goal.returns-in-Ok-clause-laws
returns-in-Ok-clause-laws c = regions_laws c.args.self.now c.args.other.now

pub returns-in-Err-clause-joins : goal.returns-in-Err-clause-joins
returns-in-Err-clause-joins c = regions_join c.args.self.now c.args.other.now (list_of c.stand_in.result) (search rules)

pub returns-in-Err-clause-unites : goal.returns-in-Err-clause-unites
returns-in-Err-clause-unites c = regions_unite c.args.self.now c.args.other.now

pub returns-in-Err-clause-laws : goal.returns-in-Err-clause-laws
returns-in-Err-clause-laws c = regions_laws c.args.self.now c.args.other.now
