-- The one banded list of a set of pixels.
use Rattle.std.specs.Prelude.{ℕ, max, Bool, false, List, [], ◌∷◌}
use Rattle.region_laws.specs.Boxes.{Places}
use Rattle.region_laws.specs.Runs.{runs}
use Rattle.region_laws.specs.Bands.{Row, same_bit, same_row, boxes}
use Rattle.region_laws.specs.declared.rect.Rect.{Rect}

-- the row of the x below w that pass p
abbrev pub row_of : ℕ → (ℕ → Bool) → Row
row_of w p = runs same_bit false p w

-- the list of the pixels of p with x < w and y < h: the runs of each row, then the runs of equal rows
abbrev pub listed : ℕ → ℕ → Places → List Rect
listed w h p = boxes (runs same_row [] (λ y. row_of w (λ x. p x y)) h)

-- how far a list of boxes goes to the right and down
abbrev pub wide : List Rect → ℕ
wide [] = 0
wide (b ∷ bs) = max b.right (wide bs)

abbrev pub high : List Rect → ℕ
high [] = 0
high (b ∷ bs) = max b.bottom (high bs)
