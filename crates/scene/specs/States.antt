-- What a scene keeps, as the state of the reference compositor.
use Rattle.std.specs.Prelude.{List, [], ◌∷◌, take}
use Rattle.region_laws.specs.declared.rect.Rect.{Rect}
use Rattle.region.specs.Lists.{list_of}
use Rattle.reference.specs.declared.pane.Pane.{Pane}
use Rattle.reference.specs.Damage.{State, kept}
use Rattle.scene.specs.declared.scene.Scene.{Scene}

-- the places of seven past damages, newest first, whether they are there or not
abbrev pub slots : Scene → List (List Rect)
slots s =
    list_of s.ago_1 ∷ list_of s.ago_2 ∷ list_of s.ago_3 ∷ list_of s.ago_4 ∷ list_of s.ago_5 ∷ list_of s.ago_6 ∷ list_of s.ago_7 ∷ []

-- the stack, the pending region, and the past damages that are there
abbrev pub state_of : Scene → State
state_of s = record { stack = take s.count s.panes; pending = list_of s.pending; past = take s.shows (slots s) }

-- the same regions over another stack
abbrev pub stacked : List Pane → State → State
stacked ps st = record { stack = ps; pending = st.pending; past = st.past }

-- the same stack and pending region, and one past damage more
abbrev pub stored : List Rect → State → State
stored r st = record { stack = st.stack; pending = st.pending; past = take kept (r ∷ st.past) }
