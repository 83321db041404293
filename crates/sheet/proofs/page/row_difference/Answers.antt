use Rattle.std.proofs.Common.{sym, ◌∙◌, length, rules}
use Rattle.std.proofs.lemmas.Iterator.{YieldsList-from_slice, YieldsList-from_zip}
use Rattle.std.proofs.lemmas.Iterator.Consumers.{YieldsList-from_enumerate, YieldsList-turn}
use Rattle.std.proofs.lemmas.List.{length_push}
use Rattle.sheet.proofs.Rows.{row_turn, row_more, row_skip}
use Rattle.sheet.proofs.page.row_difference.Goals as goal

pub loop-x-preserved-then-not-same : goal.loop-x-preserved-then-not-same
loop-x-preserved-then-not-same g c = record {
  can_next = search rules;
  is_finite = search rules;
  so_far =
      let old = c.args.old.now in
      let new = c.args.new.now in
      let k = length c.loop-x.yielded in
      let road = YieldsList-from_enumerate (YieldsList-from_zip (YieldsList-from_slice old cc) (YieldsList-from_slice new cc)) cc in
      let at = YieldsList-turn road c.loop-x.yielded _ c.loop-x.yielded_by _ c.next.new.self _ c.in-Some.is c.next.ensures.steps in
      let t = row_turn old new k c.in-Some.x c.in-Some.a.now c.in-Some.b.now c.requires.1.1 at.0 at.1 in
      row_more g.P.Pixel.equal old new c.args.y k _ c.in-Some.x _ _ c.args.found c.loop-x.reach t (length_push c.loop-x.yielded _) c.loop-x.invariant.so_far
      c.grow-reach.result (sym c.same.ensures ∙ c.if-not-same.true) c.grow-reach.ensures;
}

pub loop-x-preserved : goal.loop-x-preserved
loop-x-preserved g c = record {
  can_next = search rules;
  is_finite = search rules;
  so_far =
      let old = c.args.old.now in
      let new = c.args.new.now in
      let k = length c.loop-x.yielded in
      let road = YieldsList-from_enumerate (YieldsList-from_zip (YieldsList-from_slice old cc) (YieldsList-from_slice new cc)) cc in
      let at = YieldsList-turn road c.loop-x.yielded _ c.loop-x.yielded_by _ c.next.new.self _ c.in-Some.is c.next.ensures.steps in
      let t = row_turn old new k c.in-Some.x c.in-Some.a.now c.in-Some.b.now c.requires.1.1 at.0 at.1 in
      row_skip g.P.Pixel.equal old new c.args.y k _ c.in-Some.x _ _ c.args.found c.loop-x.reach t (length_push c.loop-x.yielded _) c.loop-x.invariant.so_far
      (sym c.same.ensures ∙ c.if-not-same.false);
}
