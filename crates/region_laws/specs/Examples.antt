-- Worked examples of joins.
use Rattle.std.specs.Prelude.{◌≡◌, ℕ, zero, suc, ◌+◌, ◌*◌, List, [], ◌∷◌, ◌++◌, length}
use Rattle.region_laws.specs.Boxes.{box}
use Rattle.region_laws.specs.Joined.{joined}
use Rattle.region_laws.specs.Counted.{area}
use Rattle.region_laws.specs.declared.rect.Rect.{Rect}

-- two boxes that overlap make three bands
abbrev pub overlap : List Rect
overlap = joined (box 0 0 4 2 ∷ []) (box 2 1 6 3 ∷ [])

pub record Overlap : Type 0 where
  pub list : overlap ≡ box 0 0 4 1 ∷ box 0 1 6 2 ∷ box 2 2 6 3 ∷ []
  pub pixels : area overlap ≡ 14

-- two boxes of one width, one right under the other, make one
abbrev pub Under : Type 0
Under = joined (box 0 0 2 1 ∷ []) (box 0 1 2 2 ∷ []) ≡ box 0 0 2 2 ∷ []

-- the first n single pixels of row 0 at x = 0, 2, 4, ..
abbrev pub dots : ℕ → List Rect
dots zero = []
dots (suc n) = dots n ++ box (2 * n) 0 (2 * n + 1) 1 ∷ []

-- a 33rd box is one too many: the smallest box over all stands for the union
abbrev pub Crowded : Type 0
Crowded = joined (dots 32) (box 64 0 65 1 ∷ []) ≡ box 0 0 65 1 ∷ []

-- a pixel that touches the last of 32 boxes lengthens it
abbrev pub lengthened : List Rect
lengthened = joined (dots 32) (box 63 0 64 1 ∷ [])

pub record Lengthened : Type 0 where
  pub list : lengthened ≡ dots 31 ++ box 62 0 64 1 ∷ []
  pub few : length lengthened ≡ 32
  pub pixels : area lengthened ≡ 33
