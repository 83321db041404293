use Rattle.std.proofs.Common.{ap, arith}
use Rattle.region_laws.specs.Boxes.{no_box}
use Rattle.region_laws.specs.declared.rect.Rect.{Rect}
use Rattle.region_laws.proofs.Strips.{edge_none, edge_bottom, edge_top}
use Rattle.region.proofs.bands.Bands.next_edge.Goals as goal

pub returns-in-Some-clause-plain : goal.returns-in-Some-clause-plain
returns-in-Some-clause-plain c =
    let l = c.in-Some.ensures.lookup in
    let t = ap (λ (b : Rect). b.top) (l.3.1 no_box) in
    edge_top c.args.self.now.boxes.now c.args.y c.args.above c.min.result c.args.self.now.banded c.requires.above l.3.0 (omega arith)

pub returns-in-Some-2-clause-plain : goal.returns-in-Some-2-clause-plain
returns-in-Some-2-clause-plain c =
    let l = c.in-Some.ensures.lookup in
    let t = ap (λ (b : Rect). b.top) (l.3.1 no_box) in
    let u = ap (λ (b : Rect). b.bottom) (l.3.1 no_box) in
    edge_bottom c.args.self.now.boxes.now c.args.y c.args.above c.min-in-Some-2.result c.args.self.now.banded c.requires.above l.3.0 (omega arith) (omega arith)

pub returns-in-None-clause-plain : goal.returns-in-None-clause-plain
returns-in-None-clause-plain c =
    edge_none c.args.self.now.boxes.now c.args.y c.args.above c.args.end c.args.self.now.banded c.requires.above c.in-None.ensures.lookup.3
