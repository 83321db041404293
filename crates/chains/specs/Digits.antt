-- Going round: the next of a number of things, and the digits of a number.
use Rattle.std.specs.Prelude.{ℕ, zero, suc, ◌+◌, ◌*◌, ◌/◌, ◌%◌, ◌^◌, cond, ◌==◌}

-- the number after b among 0 to n - 1, and 0 after the last
abbrev pub following : ℕ → ℕ → ℕ
following b n = cond (b + 1 == n) 0 (b + 1)

-- k times the number after b
abbrev pub further : ℕ → ℕ → ℕ → ℕ
further b n zero = b
further b n (suc k) = following (further b n k) n

-- digit i of a number, four bits each, the lowest of them digit 0
abbrev pub digit : ℕ → ℕ → ℕ
digit number i = number / (2 ^ (4 * i)) % 16

-- the number that its lowest k digits spell
abbrev pub spelled : ℕ → ℕ → ℕ
spelled number zero = 0
spelled number (suc k) = digit number k * 2 ^ (4 * k) + spelled number k
