use Rattle.std.proofs.Common.{◌≡◌, ℕ, ◌^◌, ◌<◌, drop, pos}
use Rattle.std.specs.Str.{all_ascii_digits}
use Rattle.script.specs.Numbers.{read_on}
use Rattle.script.proofs.number.magnitude.Given as goal

-- the digits so far were digits, and what is left is read on from the number that they write
abbrev pub invariant-loop-b : goal.invariant-loop-b
invariant-loop-b l = (m : ℕ) × (l.n ≡ pos m) × (m < 10 ^ l.b-index) × (read_on m (drop l.b-index l.digits) ≡ read_on 0 l.digits) × (all_ascii_digits (drop l.b-index l.digits) ≡ all_ascii_digits l.digits)
