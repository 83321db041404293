-- The ways of the three kinds. A proof stands here too, that the next digit is one of sixteen.
use Rattle.std.specs.Prelude.{◌≡◌, ℕ, ◌+◌, ◌%◌, ◌<◌, Bool, true, false, cond, ◌==◌, nat_le, refl}
use Rattle.std.proofs.Common.{arith}
use Rattle.std.proofs.lemmas.Bool.{eqb-false}
use Rattle.chains.specs.Digits.{following, digit}
use Rattle.chains.specs.Ways.{Way}
use Rattle.chains.specs.declared.single.Stay.{Stay}
use Rattle.chains.specs.declared.rotating.Rotate.{Rotate}
use Rattle.chains.specs.declared.picks.Picks.{Picks}

-- buffer 0 again and again
abbrev pub staying : Way Stay
staying = record { picks = λ r back count. 0; forgets = λ r. false; after = λ r. r }

-- the next buffer, 0 after the last
abbrev pub rotating : Way Rotate
rotating = record { picks = λ r back count. following back count; forgets = λ r. false; after = λ r. r }

either_below : (t : Bool) (a n : ℕ) → 0 < n → (t ≡ false → a < n) → cond t 0 a < n
either_below true a n p q = p
either_below false a n p q = q refl

pub following_below : (b n : ℕ) → b < n → following b n < n
following_below b n lt = either_below (b + 1 == n) (b + 1) n (omega arith) (λ e. let ne = eqb-false (b + 1) n e in omega arith)

-- one digit later
abbrev pub advanced : Picks → Picks
advanced p = record { number = p.number; at = following p.at 16; within = following_below p.at 16 p.within }

-- Digit v picks buffer (v mod 4) mod the number of buffers, and forgets it if v is 8 or more.
abbrev pub by_digits : Way Picks
by_digits =
    record {
      picks = λ p back count. digit p.number p.at % 4 % count;
      forgets = λ p. nat_le 8 (digit p.number p.at);
      after = advanced;
    }
