-- Rows as the boxes of one band hold them, and how a row is made from left to right.
use Rattle.std.specs.Prelude.{ℕ, ◌<◌, ◌≤◌, max, true, cond, ◌&&◌, List, [], ◌∷◌, length, nat_le, nat_lt, slice_index_or}
use Rattle.region_laws.specs.Boxes.{no_box}
use Rattle.region_laws.specs.Runs.{run}
use Rattle.region_laws.specs.Bands.{Row}
use Rattle.region_laws.specs.declared.rect.Rect.{Rect}

-- the lefts and rights of boxes
abbrev pub spans : List Rect → Row
spans [] = []
spans (b ∷ bs) = run b.left b.right true ∷ spans bs

-- the boxes of a list that have row y
abbrev pub row_at : ℕ → List Rect → List Rect
row_at y [] = []
row_at y (b ∷ bs) = cond (nat_le b.top y && nat_lt y b.bottom) (b ∷ row_at y bs) (row_at y bs)

-- one more span, which starts at or after the start of the last: it lengthens the last where the two touch
abbrev pub extend : Row → ℕ → ℕ → Row
extend [] l r = run l r true ∷ []
extend (s ∷ []) l r = cond (nat_lt s.to l) (s ∷ run l r true ∷ []) (run s.from (max s.to r) true ∷ [])
extend (s ∷ t ∷ ts) l r = s ∷ extend (t ∷ ts) l r

-- the i-th of xs exists, and starts no later than the j-th of ys, if there is one
pub record First (xs : List Rect) (i : ℕ) (ys : List Rect) (j : ℕ) : Type 0 where
  pub there : i < length xs
  pub before : j < length ys → (slice_index_or xs i no_box).left ≤ (slice_index_or ys j no_box).left

-- no box of the list begins or ends past y and before e
abbrev pub Plain : List Rect → ℕ → ℕ → Type 0
Plain [] y e = Unit {0}
Plain (b ∷ bs) y e = (y < b.top → e ≤ b.top) × (y < b.bottom → e ≤ b.bottom) × Plain bs y e
