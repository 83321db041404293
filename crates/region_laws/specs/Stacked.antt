-- Bands put one under the other: the boxes so far, and where the last band of them starts.
use Rattle.std.specs.Prelude.{ℕ, Bool, false, cond, ◌&&◌, List, [], ◌∷◌, ◌++◌, length, take, drop, ◌==◌}
use Rattle.region_laws.specs.Boxes.{box}
use Rattle.region_laws.specs.Bands.{Row, same_row, row_boxes}
use Rattle.region_laws.specs.Spans.{spans}
use Rattle.region_laws.specs.declared.rect.Rect.{Rect}

-- boxes with another bottom
abbrev pub lowered : ℕ → List Rect → List Rect
lowered u [] = []
lowered u (b ∷ bs) = box b.left b.top b.right u ∷ lowered u bs

-- whether boxes end at t
abbrev pub ends_at : List Rect → ℕ → Bool
ends_at [] t = false
ends_at (b ∷ bs) t = b.bottom == t

-- the last band, the boxes from s on, ends at t and has this row
abbrev pub goes_on : List Rect → ℕ → Row → ℕ → Bool
goes_on bs s row t = ends_at (drop s bs) t && same_row (spans (drop s bs)) row

-- one more row, from t down to u: an empty one adds nothing, else the last band is lengthened where it goes on with
-- this row, else the row becomes a band
abbrev pub stacked : List Rect → ℕ → Row → ℕ → ℕ → List Rect
stacked bs s [] t u = bs
stacked bs s (r ∷ rs) t u = cond (goes_on bs s (r ∷ rs) t) (take s bs ++ lowered u (drop s bs)) (bs ++ row_boxes t u (r ∷ rs))

-- where the last band then starts
abbrev pub start_of_last : List Rect → ℕ → Row → ℕ → ℕ
start_of_last bs s [] t = s
start_of_last bs s (r ∷ rs) t = cond (goes_on bs s (r ∷ rs) t) s (length bs)
