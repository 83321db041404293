-- The pages of a sheet, each a list of its pixels in rows from the top.
use Rattle.std.specs.Prelude.{ℕ, ◌+◌, ◌*◌, Bool, true, false, not, List, take, drop, Some, None, Option}
use Rattle.std.specs.List.{slice_get}
use Rattle.region_laws.specs.Boxes.{Places}

-- page p of pages of n pixels each, that stand one after the other
abbrev pub nth_page : {P : Type 0} → List P → ℕ → ℕ → List P
nth_page cells n p = take n (drop (p * n) cells)

-- the pixel at (x, y) of a page that is w wide
abbrev pub pixel_at : {P : Type 0} → List P → ℕ → ℕ → ℕ → Option P
pixel_at page w x y = slice_get page (y * w + x)

-- two pixels that are the same, or both absent
abbrev pub alike : {P : Type 0} → (P → P → Bool) → Option P → Option P → Bool
alike equal None None = true
alike equal None (Some q) = false
alike equal (Some p) None = false
alike equal (Some p) (Some q) = equal p q

-- the places where two pages, each w wide, differ
abbrev pub differs : {P : Type 0} → (P → P → Bool) → ℕ → List P → List P → Places
differs equal w old new x y = not (alike equal (pixel_at old w x y) (pixel_at new w x y))

-- the places of one row, of whatever number, where two such rows differ
abbrev pub row_differs : {P : Type 0} → (P → P → Bool) → List P → List P → Places
row_differs equal old new x y = not (alike equal (slice_get old x) (slice_get new x))
