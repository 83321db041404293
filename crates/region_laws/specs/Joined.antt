-- The join of two regions: their union, or a stand-in where its list is too long.
use Rattle.std.specs.Prelude.{ℕ, min, max, cond, ◌||◌, List, [], ◌∷◌, length, nat_le}
use Rattle.region_laws.specs.Boxes.{Places, box, no_box, full}
use Rattle.region_laws.specs.Bands.{covers}
use Rattle.region_laws.specs.Listed.{listed, wide, high}
use Rattle.region_laws.specs.declared.rect.Rect.{Rect}

-- the pixels of either of two lists
abbrev pub either : List Rect → List Rect → Places
either xs ys x y = covers xs x y || covers ys x y

-- the list of all the pixels that one of two lists covers
abbrev pub union : List Rect → List Rect → List Rect
union xs ys = listed (max (wide xs) (wide ys)) (max (high xs) (high ys)) (either xs ys)

-- the smallest box over a box c, unless that covers nothing, and a box b
abbrev pub widen : Rect → Rect → Rect
widen c b = cond (full c) (box (min c.left b.left) (min c.top b.top) (max c.right b.right) (max c.bottom b.bottom)) b

-- the smallest box over c and a list of boxes; the one over a list
abbrev pub cover_from : Rect → List Rect → Rect
cover_from c [] = c
cover_from c (b ∷ bs) = cover_from (widen c b) bs

abbrev pub cover : List Rect → Rect
cover bs = cover_from no_box bs

-- the list of one box, or of none where it covers nothing
abbrev pub single : Rect → List Rect
single b = cond (full b) (b ∷ []) []

-- at most so many boxes make a region
abbrev pub most : ℕ
most = 32

-- what stands for a union whose list is too long: today the smallest box over it. Shut on purpose: whoever joins goes
-- by the laws of a join, so that another stand-in can come
unfoldable pub stand_in : List Rect → List Rect
stand_in u = single (cover u)

abbrev pub joined : List Rect → List Rect → List Rect
joined xs ys = let u = union xs ys in cond (nat_le (length u) most) u (stand_in u)
