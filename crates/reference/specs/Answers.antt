-- How the answers of calls are told in a list of answers.
use Rattle.std.specs.Prelude.{Ok, Err, Result}
use Rattle.region_laws.specs.declared.rect.Rect.{Rect}
use Rattle.reference.specs.declared.answer.Answer.{Answer}
use Rattle.reference.specs.declared.answer.Answer.TheVariants.{Done, Damaged, Refused}
use Rattle.reference.specs.declared.refusal.Refusal.{Refusal}

-- what is told of how a call that is neither tell nor show answers, and of a tell
abbrev pub said : Result (Unit {0}) Refusal → Answer
said (Ok v) = Done
said (Err r) = Refused r

abbrev pub said_of : Result Rect Refusal → Answer
said_of (Ok d) = Damaged d
said_of (Err r) = Refused r
