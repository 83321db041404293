-- What a show must repaint.
use Rattle.std.specs.Prelude.{◌≡◌, ℕ, ◌-◌, Bool, true, cond, ◌&&◌, List, [], ◌∷◌, take, fold, nat_le}
use Rattle.std.specs.List.{AllByRecursion}
use Rattle.region_laws.specs.Boxes.{box, inside, Within}
use Rattle.region_laws.specs.Bands.{banded, covers}
use Rattle.region_laws.specs.Joined.{joined}
use Rattle.region_laws.specs.declared.rect.Rect.{Rect}
use Rattle.reference.specs.declared.pane.Pane.{Pane}
use Rattle.reference.specs.Stack.{Once}

-- What the reference compositor keeps: the stack, bottom first; the pending region, damaged since the last show; and
-- the pending regions that the last shows stored, newest first. Regions are given by their lists.
pub record State : Type 0 where
  pub stack : List Pane
  pub pending : List Rect
  pub past : List (List Rect)

-- the region of a whole display of w by h
abbrev pub whole : ℕ → ℕ → List Rect
whole w h = box 0 0 w h ∷ []

-- an empty stack, no past damage, and the whole display pending
abbrev pub opening : ℕ → ℕ → State
opening w h = record { stack = []; pending = whole w h; past = [] }

-- so many past damages are kept
abbrev pub kept : ℕ
kept = 7

-- a buffer of this age can be told from the past damages: age n needs the newest n - 1 of them
abbrev pub usable : ℕ → Bool
usable age = nat_le 1 age && nat_le age 8

-- the region that a show repaints in a buffer of this age: pending, joined with the newest (age - 1) past damages, or
-- all if there are fewer, newest first; the whole display where the age is 0 or above 8
abbrev pub stated : ℕ → ℕ → ℕ → State → List Rect
stated w h age st = cond (usable age) (fold joined st.pending (take (age - 1) st.past)) (whole w h)

-- one region more is pending
abbrev pub noted : List Rect → State → State
noted r st = record { stack = st.stack; pending = joined st.pending r; past = st.past }

-- another stack, and one region more pending
abbrev pub restacked : List Pane → List Rect → State → State
restacked ps r st = record { stack = ps; pending = joined st.pending r; past = st.past }

-- after a show: pending is stored as the newest past damage, and emptied
abbrev pub shifted : State → State
shifted st = record { stack = st.stack; pending = []; past = take kept (st.pending ∷ st.past) }

-- a region of a display of w by h: its list is banded, and covers pixels of the display only
pub record OnDisplay (w h : ℕ) (r : List Rect) : Type 0 where
  pub listed : banded r ≡ true
  pub within : Within (covers r) (inside (box 0 0 w h))

-- what holds of every state that the reference comes to: no surface is on the stack twice, and all regions are regions
-- of the display
pub record Orderly (w h : ℕ) (st : State) : Type 0 where
  pub stack : Once st.stack
  pub pending : OnDisplay w h st.pending
  pub past : AllByRecursion (OnDisplay w h) st.past
