use Rattle.std.proofs.Common.{◌≡◌, drop}
use Rattle.panel.specs.Calls.{meaning, Fixed}
use Rattle.runs.specs.Runs.{Runs}
use Rattle.runs.proofs.running.run.Given as goal

abbrev pub invariant-loop-i : goal.invariant-loop-i
invariant-loop-i g l = record {
  runs : Runs (meaning g.P.Pixel.lay (g.S.Shelf.tells g.P.Pixel.solid) g.S.Shelf.becomes g.C.Chain.tells) l.initial.panel l.calls l.answers l.i l.panel;
  others : drop l.i l.answers ≡ drop l.i l.initial.answers;
  fixed : Fixed (meaning g.P.Pixel.lay (g.S.Shelf.tells g.P.Pixel.solid) g.S.Shelf.becomes g.C.Chain.tells) l.initial.panel l.panel;
}
