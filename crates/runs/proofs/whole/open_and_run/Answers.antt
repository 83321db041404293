use Rattle.std.proofs.Common.{min, length}
use Rattle.panel.specs.Calls.{meaning}
use Rattle.runs.proofs.Living.{lives}
use Rattle.runs.proofs.whole.open_and_run.Goals as goal

pub returns-clause-lived : goal.returns-clause-lived
returns-clause-lived g c =
    lives (meaning g.P.Pixel.lay (g.S.Shelf.tells g.P.Pixel.solid) g.S.Shelf.becomes g.C.Chain.tells) c.args.shelf c.args.chain c.args.base c.in_ok-panel.panel c.run.new.panel
    c.args.calls.now c.run.new.answers (min (length c.args.calls.now) (length c.args.answers.now)) c.in_ok-panel.ensures c.run.ensures.runs c.run.ensures.fixed
