use Rattle.std.proofs.Common.{◌≡◌, ℕ, min, length, ◌∙◌, subst, arith}
use Rattle.panel.specs.Calls.{meaning}
use Rattle.runs.specs.Runs.{Runs}
use Rattle.runs.proofs.OneMore.{runs_more, others_more}
use Rattle.runs.proofs.running.run.Goals as goal

pub loop-i-preserved : goal.loop-i-preserved
loop-i-preserved g c = record {
  runs = runs_more (meaning g.P.Pixel.lay (g.S.Shelf.tells g.P.Pixel.solid) g.S.Shelf.becomes g.C.Chain.tells) c.args.panel.now c.loop-i.panel c.step.new.panel c.args.calls.now c.loop-i.answers c.loop-i.i _ c.step.result
      (omega arith) (omega arith) c.loop-i.invariant.runs c.step.ensures.keeps;
  others = others_more c.loop-i.answers c.args.answers.now c.loop-i.i c.step.result c.loop-i.invariant.others;
  fixed = record { base = c.step.ensures.fixed.base ∙ c.loop-i.invariant.fixed.base; display = c.step.ensures.fixed.display ∙ c.loop-i.invariant.fixed.display };
}

pub returns-clause-runs : goal.returns-clause-runs
returns-clause-runs g c =
    let e : c.loop-i.i ≡ min (length c.args.calls.now) (length c.args.answers.now) = omega arith in
    subst (λ (n : ℕ). Runs (meaning g.P.Pixel.lay (g.S.Shelf.tells g.P.Pixel.solid) g.S.Shelf.becomes g.C.Chain.tells) c.args.panel.now c.args.calls.now c.loop-i.answers n c.loop-i.panel) e c.loop-i.invariant.runs
