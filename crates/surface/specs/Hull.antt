-- The smallest box over a set of places, to compute: place by place.
use Rattle.std.specs.Prelude.{◌≡◌, ℕ, zero, suc, ◌+◌, min, max, cond, ◌&&◌, nat_lt}
use Rattle.region_laws.specs.declared.rect.Rect.{Rect}
use Rattle.region_laws.specs.Boxes.{Places, box, no_box, Smallest}

-- the box, made as large as it must be to cover (x, y) too; at first it covers nothing
abbrev pub grown : Rect → ℕ → ℕ → Rect
grown b x y = cond (nat_lt b.left b.right)
    (box (min b.left x) (min b.top y) (max b.right (x + 1)) (max b.bottom (y + 1)))
    (box x y (x + 1) (y + 1))

-- the box, grown over those of the first n places of row y that are in p
abbrev pub across : Places → ℕ → ℕ → Rect → Rect
across p y zero b = b
across p y (suc n) b = cond (p n y) (grown (across p y n b) n y) (across p y n b)

-- the smallest box over the places of p in a surface of w by h
abbrev pub hull : Places → ℕ → ℕ → Rect
hull p w zero = no_box
hull p w (suc h) = across p h w (hull p w h)

-- the places of p in a surface of w by h
abbrev pub cut : Places → ℕ → ℕ → Places
cut p w h x y = (nat_lt x w && nat_lt y h) && p x y

-- hull is the smallest box
abbrev pub Hulls : Type 0
Hulls = (p : Places) (w h : ℕ) → Smallest (cut p w h) (hull p w h)

-- there is but one smallest box
abbrev pub OneSmallest : Type 0
OneSmallest = (p : Places) (a b : Rect) → Smallest p a → Smallest p b → a ≡ b
