-- How tallies of painted pixels add up.
use Rattle.std.specs.Prelude.{◌+◌}
use Rattle.reference.specs.Painting.{capped}
use Rattle.panel.specs.declared.sight.Tally.{Tally}

-- both numbers add up, capped
abbrev pub added : Tally → Tally → Tally
added a b = record { touched = capped (a.touched + b.touched); laid = capped (a.laid + b.laid) }
