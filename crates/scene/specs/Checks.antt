-- How a check of a call answers.
use Rattle.std.specs.Prelude.{◌≡◌, Some, None, Ok, Err, Option, Result, MatchResult}
use Rattle.reference.specs.declared.refusal.Refusal.{Refusal}
use Rattle.scene.specs.declared.known.Known.{Known}

-- how a call that has nothing more to tell answers, over the first refusal that it meets
abbrev pub accepted : Option Refusal → Result (Unit {0}) Refusal
accepted None = Ok tt
accepted (Some r) = Err r

-- a check answers the first refusal that its call meets or, where there is none, the surface that was found
abbrev pub Allows : Option Known → Option Refusal → Result Known Refusal → Type 0
Allows found first r = MatchResult r (λ k. (found ≡ Some k) × (first ≡ None)) (λ e. first ≡ Some e)
