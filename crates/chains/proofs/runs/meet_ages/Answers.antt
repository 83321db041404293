use Rattle.std.proofs.Common.{arith}
use Rattle.chains.proofs.Meeting.{along_more}
use Rattle.chains.proofs.runs.meet_ages.Goals as goal

pub loop-age-preserved : goal.loop-age-preserved
loop-age-preserved g c =
    let m = c.meet_age.ensures in
    along_more g.R.Rule.way _ _ _ _ _ _ c.loop-age.invariant (omega arith) m.age m.turns m.rule m.untouched
