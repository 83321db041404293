-- The swaps of a picking chain.
use Rattle.std.specs.Prelude.{◌≡◌, ℕ, zero, suc, ◌%◌, nat_le}
use Rattle.chain.specs.Screens.{Screens}
use Rattle.chain.specs.Swaps.{Turned, turned}
use Rattle.chains.specs.Digits.{following, further, digit}
use Rattle.chains.specs.declared.picks.Picks.{Picks}

-- Digit v picks buffer (v mod 4) mod the number of buffers, and forgets it if v is 8 or more; what is shown by this very
-- swap is never forgotten.
abbrev pub Picked : {P : Type 0} → Screens P → ℕ → Screens P → Type 0
Picked s v t = Turned s (v % 4 % s.count) (nat_le 8 v) t

-- the same as a function
abbrev pub picked : {P : Type 0} → Screens P → ℕ → Screens P
picked s v = turned s (v % 4 % s.count) (nat_le 8 v)

-- one digit later
pub record Advanced (p q : Picks) : Type 0 where
  pub number : q.number ≡ p.number
  pub at : q.at ≡ following p.at 16

-- after k such swaps, from digit i of a number on; digit 0 follows digit 15
abbrev pub pickings : {P : Type 0} → ℕ → ℕ → ℕ → Screens P → Screens P
pickings number i zero s = s
pickings number i (suc k) s = picked (pickings number i k s) (digit number (further i 16 k))
