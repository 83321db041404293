-- How a refusal of a line is told: by a number, a layer and a place.
use Rattle.std.specs.Prelude.{ℕ, ℤ, pos}
use Rattle.reference.specs.Refusals as panel
use Rattle.reference.specs.declared.refusal.Layer as panel_layer
use Rattle.reference.specs.declared.refusal.Layer.TheVariants as of
use Rattle.replies.specs.declared.refused.Refused.{Refused}
use Rattle.replies.specs.declared.refused.Refused.TheVariants.{NotARecord, OutOfTurn, Panel}
use Rattle.replies.specs.declared.refused.Layer.{Layer}
use Rattle.replies.specs.declared.refused.Layer.TheVariants as told

-- 1 where the line is no record, 2 where it is out of turn or out of range, the panel's own from 3 to 10
abbrev pub number : Refused → ℕ
number (NotARecord place) = 1
number (OutOfTurn place) = 2
number (Panel r) = panel.number r

-- the panel's layers among those of a script
abbrev pub as_told : panel_layer.Layer → Layer
as_told of.Panel = told.Panel
as_told of.Shelf = told.Shelf

abbrev pub layer : Refused → Layer
layer (NotARecord place) = told.Script
layer (OutOfTurn place) = told.Script
layer (Panel r) = as_told (panel.layer r)

-- a field's number, or the surface that the panel names
abbrev pub place : Refused → ℤ
place (NotARecord p) = pos p
place (OutOfTurn p) = pos p
place (Panel r) = panel.place r
