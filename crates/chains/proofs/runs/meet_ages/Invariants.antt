use Rattle.chains.proofs.Meeting.{Along}
use Rattle.chains.proofs.runs.meet_ages.Given as goal

abbrev pub invariant-loop-age : goal.invariant-loop-age
invariant-loop-age g l = Along g.R.Rule.way l.initial.chain l.chain l.ages l.age-index
