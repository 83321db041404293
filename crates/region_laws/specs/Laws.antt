-- What is promised of regions above their definitions.
use Rattle.std.specs.Prelude.{◌≡◌, ℕ, ◌<◌, ◌≤◌, true, false, cond, List, [], length, nat_lt}
use Rattle.region_laws.specs.Boxes.{Places, inside, Within}
use Rattle.region_laws.specs.Bands.{covers, banded, farthest}
use Rattle.region_laws.specs.Listed.{listed, wide, high}
use Rattle.region_laws.specs.Joined.{either, union, most, joined}
use Rattle.region_laws.specs.Counted.{list_sum, place_sum, pixels, area}
use Rattle.region_laws.specs.declared.rect.Rect.{Rect}

-- the same pixels
abbrev pub Same : Places → Places → Type 0
Same p q = (x y : ℕ) → p x y ≡ q x y

-- two banded lists with the same pixels are one list
abbrev pub OneList : Type 0
OneList = (xs ys : List Rect) → banded xs ≡ true → banded ys ≡ true → Same (covers xs) (covers ys) → xs ≡ ys

-- every set of pixels of a display has a banded list
pub record Lists (w h : ℕ) (p : Places) (bs : List Rect) : Type 0 where
  pub rules : banded bs ≡ true
  pub pixels : Same (covers bs) (λ x y. cond (nat_lt y h) (cond (nat_lt x w) (p x y) false) false)

abbrev pub EverySet : Type 0
EverySet = (w h : ℕ) (p : Places) → w ≤ farthest → h ≤ farthest → Lists w h p (listed w h p)

-- the union's list covers just what either covers
pub record Unites (xs ys : List Rect) : Type 0 where
  pub rules : banded (union xs ys) ≡ true
  pub pixels : Same (covers (union xs ys)) (either xs ys)

-- a join is a region that covers both its parts, lies in every box that covers both, and is their union where that has
-- few enough boxes
pub record Joins (xs ys rs : List Rect) : Type 0 where
  pub rules : banded rs ≡ true
  pub few : length rs ≤ most
  pub both : Within (either xs ys) (covers rs)
  pub least : (c : Rect) → Within (covers xs) (inside c) → Within (covers ys) (inside c) → Within (covers rs) (inside c)
  pub exact : length (union xs ys) ≤ most → Same (covers rs) (either xs ys)

-- a region joins to the same in either order, with itself to itself, and with the empty region to itself
pub record JoinLaws (xs ys : List Rect) : Type 0 where
  pub either_order : joined xs ys ≡ joined ys xs
  pub with_itself : joined xs xs ≡ xs
  pub with_none : joined xs [] ≡ xs
  pub none_with : joined [] xs ≡ xs

-- the list lies in a display of w by h
abbrev pub FitsIn : ℕ → ℕ → List Rect → Type 0
FitsIn w h bs = (wide bs ≤ w) × (high bs ≤ h)

-- the sum of any weight over a list's boxes, box by box, is its sum over the display's pixels that the list covers: no
-- pixel is met twice
abbrev pub EachOnce : List Rect → Type 0
EachOnce bs = (w h : ℕ) (f : ℕ → ℕ → ℕ) → FitsIn w h bs → list_sum f bs ≡ place_sum w h f (covers bs)

-- the area is the number of pixels of the set
abbrev pub Counts : List Rect → Type 0
Counts bs = (w h : ℕ) → FitsIn w h bs → area bs ≡ pixels w h (covers bs)

-- a list whose pixels lie in a display of w by h has its boxes in it
abbrev pub StaysIn : List Rect → Type 0
StaysIn bs = (w h : ℕ) → ((x y : ℕ) → covers bs x y ≡ true → (x < w) × (y < h)) → FitsIn w h bs
