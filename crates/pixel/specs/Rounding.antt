-- Rounding to the nearest 255th.
use Rattle.std.specs.Prelude.{◌≡◌, ℕ, ◌+◌, ◌*◌, ◌/◌, ◌≤◌}

-- n / 255, to the nearest whole number
abbrev pub near : ℕ → ℕ
near n = (n + 127) / 255

-- 255 times q differs from n by at most 127
pub record Nearest (n q : ℕ) : Type 0 where
  pub above : 255 * q ≤ n + 127
  pub below : n ≤ 255 * q + 127

-- near rounds to the nearest
abbrev pub Rounds : Type 0
Rounds = (n : ℕ) → Nearest n (near n)

-- no other number is as near
abbrev pub Unique : Type 0
Unique = (n q : ℕ) → Nearest n q → q ≡ near n

-- multiples of 255 lose nothing
abbrev pub Exact : Type 0
Exact = (k : ℕ) → near (255 * k) ≡ k
