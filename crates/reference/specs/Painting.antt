-- What painting some places does to a chain.
use Rattle.std.specs.Prelude.{◌≡◌, ℕ, ◌+◌, ◌-◌, ◌%◌, ◌^◌, min, cond, ◌&&◌, List, Some, ◌==◌}
use Rattle.region_laws.specs.Boxes.{Places, box, inside as inside_box}
use Rattle.region_laws.specs.Bands.{covers}
use Rattle.region_laws.specs.Counted.{box_sum, list_sum}
use Rattle.region_laws.specs.declared.rect.Rect.{Rect}
use Rattle.chain.specs.Screens.{Screens, on_display}

-- All but pixels of the back and the count of writes is as it was; at each of the places r that lies on the display the
-- back has the pixel of pic, and no other pixel altered; n writes were made.
pub record Painted {P : Type 0} (s : Screens P) (r : Places) (n : ℕ) (pic : ℕ → ℕ → P) (t : Screens P) : Type 0 where
  pub width : t.width ≡ s.width
  pub height : t.height ≡ s.height
  pub count : t.count ≡ s.count
  pub age : (b : ℕ) → t.age b ≡ s.age b
  pub back : t.back ≡ s.back
  pub front : t.front ≡ s.front
  pub pixel : (b x y : ℕ) → t.pixel b x y ≡ cond (b == s.back && (r x y && on_display s x y)) (Some (pic x y)) (s.pixel b x y)
  pub writes : t.writes ≡ (s.writes + n) % 2 ^ 32

-- 1 at each place of the display
abbrev pub one_per_place : {P : Type 0} → Screens P → ℕ → ℕ → ℕ
one_per_place s x y = cond (on_display s x y) 1 0

-- the region was painted, with one write for each of its pixels on the display
abbrev pub RegionPainted : {P : Type 0} → Screens P → List Rect → (ℕ → ℕ → P) → Screens P → Type 0
RegionPainted s rs pic t = Painted s (covers rs) (list_sum (one_per_place s) rs) pic t

-- a count that stops at the greatest number of 32 bits
abbrev pub capped : ℕ → ℕ
capped n = min n (2 ^ 32 - 1)

-- places were painted and counted: their number, and the depths at them together
pub record Brushed {P : Type 0} (s : Screens P) (r : Places) (writes : ℕ) (pic : ℕ → ℕ → P) (places depths : ℕ) (touched laid : ℕ) (t : Screens P) : Type 0 where
  pub painted : Painted s r writes pic t
  pub touched_is : touched ≡ capped places
  pub laid_is : laid ≡ capped depths

-- the same of a box, of a row of it, and of a list of boxes, where the depth at a place is d
abbrev pub BoxBrushed : {P : Type 0} → Screens P → (ℕ → ℕ → P) → (ℕ → ℕ → ℕ) → Rect → ℕ → ℕ → Screens P → Type 0
BoxBrushed s pic d b touched laid t = Brushed s (inside_box b) (box_sum (one_per_place s) b) pic (box_sum (λ x y. 1) b) (box_sum d b) touched laid t

-- the box of one row, from l up to and without r
abbrev pub row_box : ℕ → ℕ → ℕ → Rect
row_box l r y = box l y r (y + 1)

abbrev pub ListBrushed : {P : Type 0} → Screens P → (ℕ → ℕ → P) → (ℕ → ℕ → ℕ) → List Rect → ℕ → ℕ → Screens P → Type 0
ListBrushed s pic d bs touched laid t = Brushed s (covers bs) (list_sum (one_per_place s) bs) pic (list_sum (λ x y. 1) bs) (list_sum d bs) touched laid t
