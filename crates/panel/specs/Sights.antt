-- The picture as a show composes it from what it asked once of each pane.
use Rattle.std.specs.Prelude.{◌≡◌, ℕ, ◌+◌, ◌<◌, ◌≤◌, Bool, true, false, cond, ◌&&◌, ◌||◌, List, length, is_some, Some, None, fold, Option, ◌==◌, nat_le, nat_lt, slice_index_or}
use Rattle.region_laws.specs.Boxes.{inside, no_box}
use Rattle.region_laws.specs.declared.rect.Rect.{Rect}
use Rattle.surface.specs.Told.{Told}
use Rattle.reference.specs.declared.pane.Pane.{Pane}
use Rattle.reference.specs.Stack.{no_pane}
use Rattle.reference.specs.Places.{past, surface_box}
use Rattle.reference.specs.Picture.{laid_over}
use Rattle.panel.specs.declared.sight.Spot.{Spot}
use Rattle.panel.specs.declared.sight.Sight.{Sight}
use Rattle.panel.specs.declared.sight.Sights.{Sights}

abbrev pub spot : ℕ → ℕ → Spot
spot x y = record { x = x; y = y }

-- the box that a shelf may tell
abbrev pub box_or : Option Rect → Rect
box_or None = no_box
box_or (Some b) = b

-- what is asked once of a pane
abbrev pub sight : {P : Type 0} → Told P → Pane → Sight
sight t p = record { pane = p; whole = surface_box t p.surface; solid = box_or (t.solid p.surface) }

abbrev pub no_sight : Sight
no_sight = record { pane = no_pane; whole = no_box; solid = no_box }

abbrev pub sights_of : Sights → List Sight
sights_of s = s.all.items

-- an offset from l up to and without r
abbrev pub between : ℕ → ℕ → Option ℕ → Option ℕ
between l r None = None
between l r (Some i) = cond (nat_le l i && nat_lt i r) (Some i) None

abbrev pub spot_of : Option ℕ → Option ℕ → Option Spot
spot_of (Some i) (Some j) = Some (spot i j)
spot_of (Some i) None = None
spot_of None j = None

-- the place of its surface that a pane shows at (x, y), if it covers that place
abbrev pub spot_at : ℕ → ℕ → Sight → Option Spot
spot_at x y s = spot_of (between s.whole.left s.whole.right (past x s.pane.x)) (between s.whole.top s.whole.bottom (past y s.pane.y))

abbrev pub covered_by : Option Spot → Rect → Bool
covered_by None b = false
covered_by (Some a) b = inside b a.x a.y

-- whether a pane covers the place, and whether its solid box does
abbrev pub meets : ℕ → ℕ → Sight → Bool
meets x y s = is_some (spot_at x y s)

abbrev pub blocks : ℕ → ℕ → Sight → Bool
blocks x y s = covered_by (spot_at x y s) s.solid

abbrev pub pixel_at_spot : {P : Type 0} → Told P → ℕ → Option Spot → Option P
pixel_at_spot t k None = None
pixel_at_spot t k (Some a) = t.pixel k a.x a.y

-- a pane's pixel at the place
abbrev pub sight_pixel : {P : Type 0} → Told P → ℕ → ℕ → Sight → Option P
sight_pixel t x y s = pixel_at_spot t s.pane.surface (spot_at x y s)

-- the picture of some panes over d
abbrev pub over : {P : Type 0} → (P → P → P) → Told P → ℕ → ℕ → P → List Sight → P
over lay t x y d ss = fold (λ e s. laid_over lay e (sight_pixel t x y s)) d ss

-- the same, begun anew at each pane whose solid box covers the place
abbrev pub composed : {P : Type 0} → (P → P → P) → Told P → P → List Sight → ℕ → ℕ → P
composed lay t base ss x y = fold (λ e s. laid_over lay (cond (blocks x y s) base e) (sight_pixel t x y s)) base ss

-- the panes that cover the place, counted from the top down to the first whose solid box covers it
abbrev pub stacked : List Sight → ℕ → ℕ → ℕ
stacked ss x y = fold (λ n s. cond (meets x y s) 1 0 + cond (blocks x y s) 0 n) 0 ss

-- going down: no pane above `from` hides the place, and that at `from` does, or it is the lowest
pub record Descends (ss : List Sight) (x y from laid : ℕ) : Type 0 where
  pub within : from ≤ length ss
  pub begins : (from == 0 || blocks x y (slice_index_or ss from no_sight)) ≡ true
  pub above : (j : ℕ) → from < j → j < length ss → blocks x y (slice_index_or ss j no_sight) ≡ false
  pub counted : laid ≡ stacked ss x y
  pub few : laid ≤ 16
