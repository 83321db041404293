-- Sums over the pixels of a region.
use Rattle.std.specs.Prelude.{ℕ, zero, suc, ◌+◌, ◌-◌, ◌*◌, cond, List, [], ◌∷◌}
use Rattle.region_laws.specs.Boxes.{Places}
use Rattle.region_laws.specs.declared.rect.Rect.{Rect}

-- the sum of f over the n numbers from a on
abbrev pub sum : (ℕ → ℕ) → ℕ → ℕ → ℕ
sum f a zero = 0
sum f a (suc n) = sum f a n + f (a + n)

-- the sum of a weight over a box, row by row, and over a list, box by box
abbrev pub box_sum : (ℕ → ℕ → ℕ) → Rect → ℕ
box_sum f b = sum (λ y. sum (λ x. f x y) b.left (b.right - b.left)) b.top (b.bottom - b.top)

abbrev pub list_sum : (ℕ → ℕ → ℕ) → List Rect → ℕ
list_sum f [] = 0
list_sum f (b ∷ bs) = box_sum f b + list_sum f bs

-- the sum of a weight over the pixels of p with x < w and y < h
abbrev pub place_sum : ℕ → ℕ → (ℕ → ℕ → ℕ) → Places → ℕ
place_sum w h f p = sum (λ y. sum (λ x. cond (p x y) (f x y) 0) 0 w) 0 h

-- the number of those pixels
abbrev pub pixels : ℕ → ℕ → Places → ℕ
pixels w h p = place_sum w h (λ x y. 1) p

-- the number of pixels of a list's boxes
abbrev pub area : List Rect → ℕ
area [] = 0
area (b ∷ bs) = (b.right - b.left) * (b.bottom - b.top) + area bs
