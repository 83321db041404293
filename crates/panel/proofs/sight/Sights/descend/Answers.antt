use Rattle.std.proofs.Common.{◌≤◌, length, subst, sym}
use Rattle.panel.specs.Sights.{sights_of}
use Rattle.panel.proofs.Descending.{Left, left_all, left_past, left_met, left_shut, left_none}
use Rattle.panel.proofs.sight.Sights.descend.Goals as goal

pub loop-rest-init : goal.loop-rest-init
loop-rest-init c = let ss = sights_of c.args.self.now in subst (λ r. Left ss c.args.x c.args.y r 0) (sym c.as_slice-rest.ensures.value) (left_all ss c.args.x c.args.y)

pub returns-then-covers : goal.returns-then-covers
returns-then-covers c =
    let ss = sights_of c.args.self.now in
    let few : length ss ≤ 16 = subst (λ n. length n ≤ 16) c.as_slice-rest.ensures.value c.as_slice-rest.ensures.fits in
    left_shut ss c.loop-rest.rest.now c.args.x c.args.y c.loop-rest.laid c.loop-rest.invariant c.in-len1-up.len_at_least c.spot.result c.in-Some.at c.covers.result
    c.spot.ensures c.in-Some.is c.covers.ensures few c.if-covers.true

pub loop-rest-preserved-else-covers : goal.loop-rest-preserved-else-covers
loop-rest-preserved-else-covers c =
    left_met (sights_of c.args.self.now) c.loop-rest.rest.now c.args.x c.args.y c.loop-rest.laid c.loop-rest.invariant c.in-len1-up.len_at_least c.spot.result c.in-Some.at c.covers.result
    c.spot.ensures c.in-Some.is c.covers.ensures c.if-covers.false

pub loop-rest-preserved : goal.loop-rest-preserved
loop-rest-preserved c =
    left_past (sights_of c.args.self.now) c.loop-rest.rest.now c.args.x c.args.y c.loop-rest.laid c.loop-rest.invariant c.in-len1-up.len_at_least c.spot.result c.spot.ensures c.in_default-spot.is

pub returns : goal.returns
returns c =
    let ss = sights_of c.args.self.now in
    let few : length ss ≤ 16 = subst (λ n. length n ≤ 16) c.as_slice-rest.ensures.value c.as_slice-rest.ensures.fits in
    left_none ss c.loop-rest.rest.now c.args.x c.args.y c.loop-rest.laid few c.in_default.len_below c.loop-rest.invariant
