-- Banded lists of boxes, as X11 servers keep their regions: bands from the top down, in each band boxes from left to
-- right, and the fewest of both.
use Rattle.std.specs.Prelude.{ℕ, Bool, true, false, cond, not, ◌&&◌, ◌||◌, List, [], ◌∷◌, ◌++◌, ◌==◌, nat_le}
use Rattle.region_laws.specs.Boxes.{Places, box, inside}
use Rattle.region_laws.specs.Runs.{Run, run, tidy, reach}
use Rattle.region_laws.specs.declared.rect.Rect.{Rect}

-- the pixels that a list of boxes covers: those of its boxes
abbrev pub covers : List Rect → Places
covers [] x y = false
covers (b ∷ bs) x y = inside b x y || covers bs x y

-- no edge of a region lies past this: the greatest width and height of a display
abbrev pub farthest : ℕ
farthest = 1024

-- a row is a set of x, as its runs of `true`; a band is a run of equal rows
abbrev pub Row : Type 0
Row = List (Run Bool)

abbrev pub Band : Type 0
Band = Run Row

-- whether two bits, and two rows, are equal
abbrev pub same_bit : Bool → Bool → Bool
same_bit true b = b
same_bit false b = not b

abbrev pub same_row : Row → Row → Bool
same_row [] [] = true
same_row [] (s ∷ ss) = false
same_row (r ∷ rs) [] = false
same_row (r ∷ rs) (s ∷ ss) = r.from == s.from && (r.to == s.to && (same_bit r.what s.what && same_row rs ss))

-- the boxes of a row from t down to b, and those of bands
abbrev pub row_boxes : ℕ → ℕ → Row → List Rect
row_boxes t b [] = []
row_boxes t b (s ∷ ss) = box s.from t s.to b ∷ row_boxes t b ss

abbrev pub boxes : List Band → List Rect
boxes [] = []
boxes (b ∷ bs) = row_boxes b.from b.to b.what ++ boxes bs

-- the bands of a list of boxes: boxes of one top and one bottom that follow one another are a band
abbrev pub stack : Rect → List Band → List Band
stack b [] = run b.top b.bottom (run b.left b.right true ∷ []) ∷ []
stack b (c ∷ cs) =
    cond (b.top == c.from && b.bottom == c.to)
    (run b.top b.bottom (run b.left b.right true ∷ c.what) ∷ cs)
    (run b.top b.bottom (run b.left b.right true ∷ []) ∷ c ∷ cs)

abbrev pub bands : List Rect → List Band
bands [] = []
bands (b ∷ bs) = stack b (bands bs)

-- a row of a band: at least one span, none of them empty, each ending before the next begins, none past the far edge
abbrev pub bit : Bool → Bool
bit b = b

abbrev pub good_row : Row → Bool
good_row [] = false
good_row (s ∷ ss) = tidy same_bit bit 0 (s ∷ ss) && nat_le (reach (s ∷ ss)) farthest

-- the list is banded: its bands have good rows, stand one under the other, and two that touch differ
abbrev pub banded : List Rect → Bool
banded bs = tidy same_row good_row 0 (bands bs) && nat_le (reach (bands bs)) farthest
