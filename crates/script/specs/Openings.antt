-- The settings that an open gives.
use Rattle.std.specs.Prelude.{◌≡◌, ℕ, ◌≤◌, true, false, ℤ, pos, Some, None, Ok, Err, Result}
use Rattle.script.specs.declared.record.Opening.{Opening}
use Rattle.script.specs.declared.settings.Settings.{Settings}
use Rattle.replies.specs.declared.refused.Refused.{Refused}
use Rattle.replies.specs.declared.refused.Refused.TheVariants.{OutOfTurn}
use Rattle.script.specs.Records.{outside, misfit}

-- a field's number where it is 1 to `most`, else the refusal of the field at `place`
abbrev pub Ranged : ℕ → ℤ → ℕ → Result ℕ Refused → Type 0
Ranged most z place (Ok n) = (outside (pos 1) (pos most) z ≡ false) × (z ≡ pos n) × (1 ≤ n) × (n ≤ most)
Ranged most z place (Err e) = (outside (pos 1) (pos most) z ≡ true) × (e ≡ OutOfTurn place)

-- an open whose fields are all in range, and the settings with its four numbers
pub record Fitting (o : Opening) (s : Settings) : Type 0 where
  pub fits : misfit o ≡ None
  pub width : o.width ≡ pos s.width
  pub height : o.height ≡ pos s.height
  pub base : o.base ≡ pos s.base
  pub chain : o.chain ≡ pos s.buffers

-- settings exactly where all fields are in range, else the refusal of the first that is not
abbrev pub Settled : Opening → Result Settings Refused → Type 0
Settled o (Ok s) = Fitting o s
Settled o (Err e) = (place : ℕ) × (misfit o ≡ Some place) × (e ≡ OutOfTurn place)
