-- The swaps of a rotating chain.
use Rattle.std.specs.Prelude.{◌≡◌, ℕ, zero, suc, ◌≤◌, false}
use Rattle.chain.specs.Screens.{Screens, back_age}
use Rattle.chain.specs.Swaps.{Turned, turned}
use Rattle.chains.specs.Digits.{following}

-- the next buffer is picked, 0 after the last, and none is forgotten
abbrev pub Rotated : {P : Type 0} → Screens P → Screens P → Type 0
Rotated s t = Turned s (following s.back s.count) false t

-- the same as a function
abbrev pub rotated : {P : Type 0} → Screens P → Screens P
rotated s = turned s (following s.back s.count) false

-- after k such swaps
abbrev pub rotations : {P : Type 0} → ℕ → Screens P → Screens P
rotations zero s = s
rotations (suc k) s = rotated (rotations k s)

-- Law: from any state, whatever the ages then are, once a chain of n buffers has swapped n times or more the back's age
-- is n.
abbrev pub Settles : {P : Type 0} → Screens P → ℕ → Screens P → Type 0
Settles s k t = s.count ≤ k → back_age t ≡ s.count
