use Rattle.std.proofs.Common.{length, ◌<◌, rules, ◌≡◌, true, sym, ap, ◌∙◌, arith}
use Rattle.std.proofs.lemmas.Bool.{cond-true, leb-false}
use Rattle.std.specs.Result.{is_ok}
use Rattle.region_laws.specs.Joined.{union}
use Rattle.region.specs.Making.{pile_of, strip_of}
use Rattle.region_laws.proofs.Rows.{row_fine}
use Rattle.region_laws.proofs.Strips.{plain_less}
use Rattle.region_laws.proofs.Swept.{swept_turn, swept_at, swept_full}
use Rattle.region.proofs.bands.Bands.unite.Goals as goal

pub merge-requires : goal.merge-requires
merge-requires c = record {
  few = (c.row.ensures.few, c.row-in-loop-y.ensures.few);
  first = row_fine c.args.self.now.boxes.now _ c.loop-y.y c.args.self.now.banded c.row.ensures.row;
  second = row_fine c.args.other.now.boxes.now _ c.loop-y.y c.args.other.now.banded c.row-in-loop-y.ensures.row;
}

pub returns-in_err-append : goal.returns-in_err-append
returns-in_err-append c =
    let xs = c.args.self.now.boxes.now in
    let ys = c.args.other.now.boxes.now in
    let t = swept_turn xs ys c.row.result.now c.row-in-loop-y.result.now c.loop-y.y c.next_edge-edge.result (pile_of c.loop-y.p) c.loop-y.p.start (strip_of c.merge.new.self)
    c.args.self.now.banded c.args.other.now.banded
    (plain_less xs c.loop-y.y c.next_edge.result c.next_edge-edge.result c.next_edge-edge.ensures.within c.next_edge.ensures.plain)
    c.next_edge-edge.ensures.plain c.next_edge-edge.ensures.past c.row.ensures.row c.row-in-loop-y.ensures.row c.merge.ensures.tidy c.merge.ensures.set c.loop-y.invariant.0 in
    let f : 32 < length (union xs ys) = swept_full xs ys c.next_edge-edge.result _ _ 32 t
    (let u = c.next_edge-edge.ensures.within in let v = c.next_edge.ensures.within in let w = c.max-end.ensures in let h = c.lowest.ensures in let g = c.lowest-2.ensures in omega arith)
    (leb-false _ _ (sym c.append.ensures.fits ∙ ap is_ok c.in_err-append.was)) in
    search rules

pub loop-y-preserved : goal.loop-y-preserved
loop-y-preserved c =
    let xs = c.args.self.now.boxes.now in
    let ys = c.args.other.now.boxes.now in
    let t = swept_turn xs ys c.row.result.now c.row-in-loop-y.result.now c.loop-y.y c.next_edge-edge.result (pile_of c.loop-y.p) c.loop-y.p.start (strip_of c.merge.new.self)
    c.args.self.now.banded c.args.other.now.banded
    (plain_less xs c.loop-y.y c.next_edge.result c.next_edge-edge.result c.next_edge-edge.ensures.within c.next_edge.ensures.plain)
    c.next_edge-edge.ensures.plain c.next_edge-edge.ensures.past c.row.ensures.row c.row-in-loop-y.ensures.row c.merge.ensures.tidy c.merge.ensures.set c.loop-y.invariant.0 in
    let e : is_ok c.append.result ≡ true = ap is_ok c.in_ok-append.was in (
      swept_at xs ys c.next_edge-edge.result _ (pile_of c.append.new.self) _ c.append.new.self.start t
          (c.append.ensures.list ∙ cond-true (is_ok c.append.result) _ _ e) (c.append.ensures.start ∙ cond-true (is_ok c.append.result) _ _ e),
      (let u = c.next_edge-edge.ensures.within in let v = c.next_edge.ensures.within in omega arith),
      c.count_above-above.ensures.within,
      (λ m h. let a = c.count_above-above.ensures.above m h in let p = c.next_edge-edge.ensures.past in omega arith),
      c.count_above-other_above.ensures.within,
      (λ m h. let a = c.count_above-other_above.ensures.above m h in let p = c.next_edge-edge.ensures.past in omega arith),
    )
