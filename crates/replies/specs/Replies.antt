-- The text that answers a line, with its line feed (10).
use Rattle.std.specs.Prelude.{ℕ, ◌+◌, ◌/◌, ◌%◌, cond, List, [], ◌∷◌, ◌++◌, codes, decimal, nat_lt}
use Rattle.std.specs.Fmt.{signed_decimal}
use Rattle.replies.specs.declared.refused.Layer.{Layer}
use Rattle.replies.specs.declared.refused.Layer.TheVariants.{Script, Panel, Shelf}
use Rattle.replies.specs.declared.refused.Refused.{Refused}
use Rattle.replies.specs.declared.reply.Outcome as outcome
use Rattle.replies.specs.declared.reply.Outcome.TheVariants as of
use Rattle.replies.specs.declared.reply.Reply.{Reply}
use Rattle.replies.specs.Fields.{tabbed}
use Rattle.replies.specs.Refusals.{number, layer, place}

-- a layer's name
abbrev pub layer_text : Layer → List ℕ
layer_text Script = codes "script"
layer_text Panel = codes "panel"
layer_text Shelf = codes "shelf"

-- a refusal: its layer, number and place
abbrev pub refused_text : Refused → List ℕ
refused_text r = tabbed (layer_text (layer r) ∷ decimal (number r) ∷ signed_decimal (place r) ∷ [])

-- what came of a line; a frame's age, touched and laid counts follow the word
abbrev pub outcome_text : outcome.Outcome → List ℕ
outcome_text of.Done = codes "done"
outcome_text (of.Shown s) = tabbed (codes "frame" ∷ decimal s.age ∷ decimal s.touched ∷ decimal s.laid ∷ [])
outcome_text (of.Refused r) = tabbed (codes "refused" ∷ refused_text r ∷ [])

-- a whole reply, with its line feed
abbrev pub reply_text : Reply → List ℕ
reply_text r = tabbed (decimal r.line ∷ (outcome_text r.outcome ++ 10 ∷ []) ∷ [])

-- a hexadecimal digit, in lower case
abbrev pub hex_digit : ℕ → ℕ
hex_digit n = cond (nat_lt n 10) (48 + n) (87 + n)

-- two digits for each pixel
abbrev pub hex_text : List ℕ → List ℕ
hex_text [] = []
hex_text (p ∷ ps) = hex_digit (p / 16) ∷ hex_digit (p % 16) ∷ hex_text ps

-- a row of pixels, with its line feed
abbrev pub row_text : List ℕ → List ℕ
row_text ps = hex_text ps ++ 10 ∷ []
