use Rattle.std.proofs.Common.{◌≡◌, ◌-◌, length, take}
use Rattle.script.specs.Records.{numbers_of}
use Rattle.script.proofs.Numbering.{prefixed}
use Rattle.script.proofs.record.numbers.Given as goal

-- the numbers so far, and those that the rest of the line gives, are the line's numbers
abbrev pub invariant-loop-number : goal.invariant-loop-number
invariant-loop-number g l = (length l.number-items ≡ g.row.N) × (prefixed (take l.number-index l.number-items) (numbers_of (g.row.N - l.number-index) l.fields) ≡ numbers_of g.row.N l.initial.fields)
