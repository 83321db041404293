-- The four rules of a region, on the flat list of its boxes.
use Rattle.std.specs.Prelude.{◌≡◌, ℕ, ◌<◌, ◌≤◌, ◌≢◌, ◌⊎◌, List, length, Decides, slice_index_or}
use Rattle.region_laws.specs.Boxes.{no_box}
use Rattle.region_laws.specs.Bands.{farthest, banded}
use Rattle.region_laws.specs.Spans.{spans, row_at}
use Rattle.region_laws.specs.declared.rect.Rect.{Rect}

-- a box covers a pixel, and none past the far edge
pub record Sound (b : Rect) : Type 0 where
  pub wide : b.left < b.right
  pub high : b.top < b.bottom
  pub right : b.right ≤ farthest
  pub bottom : b.bottom ≤ farthest

-- the i-th box of a list
abbrev pub nth : List Rect → ℕ → Rect
nth bs i = slice_index_or bs i no_box

-- the band that has row y, as the lefts and rights of its boxes, is `spans (row_at y bs)`
pub record Rules (bs : List Rect) : Type 0 where
  -- every box covers a pixel
  pub sound : (i : ℕ) → i < length bs → Sound (nth bs i)
  -- 1. boxes are ordered by top, then by left
  pub ordered : (i j : ℕ) → i < j → j < length bs → ((nth bs i).top < (nth bs j).top) ⊎ (((nth bs i).top ≡ (nth bs j).top) × ((nth bs i).left < (nth bs j).left))
  -- 2. two boxes have the same top and bottom, and so one band, or one lies wholly above the other
  pub in_bands : (i j : ℕ) → i < j → j < length bs
      → (((nth bs i).top ≡ (nth bs j).top) × ((nth bs i).bottom ≡ (nth bs j).bottom)) ⊎ (((nth bs i).bottom ≤ (nth bs j).top) ⊎ ((nth bs j).bottom ≤ (nth bs i).top))
  -- 3. inside a band each right is less than the next left
  pub apart : (i j : ℕ) → i < j → j < length bs → (nth bs i).top ≡ (nth bs j).top → (nth bs i).right < (nth bs j).left
  -- 4. where a band's bottom equals the next band's top, the two bands differ in some left or right
  pub differ : (i j : ℕ) → i < length bs → j < length bs → (nth bs i).bottom ≡ (nth bs j).top → spans (row_at (nth bs i).top bs) ≢ spans (row_at (nth bs j).top bs)

-- a list is banded just where it keeps the rules
abbrev pub Banding : Type 0
Banding = (bs : List Rect) → Decides (banded bs) (Rules bs)
