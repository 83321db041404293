-- Boxes of pixels, and the smallest box over a set of pixels.
use Rattle.std.specs.Prelude.{◌≡◌, ℕ, Bool, true, false, ◌&&◌, nat_le, nat_lt}
use Rattle.region_laws.specs.declared.rect.Rect.{Rect}

-- a set of pixels, as a test on x and y
abbrev pub Places : Type 0
Places = ℕ → ℕ → Bool

-- the box of these four edges
abbrev pub box : ℕ → ℕ → ℕ → ℕ → Rect
box l t r b = record { left = l; top = t; right = r; bottom = b }

-- how a box that covers no pixel is told
abbrev pub no_box : Rect
no_box = box 0 0 0 0

-- the pixels that a box covers
abbrev pub inside : Rect → Places
inside b x y = (nat_le b.left x && nat_lt x b.right) && (nat_le b.top y && nat_lt y b.bottom)

-- whether a box covers a pixel at all
abbrev pub full : Rect → Bool
full b = nat_lt b.left b.right && nat_lt b.top b.bottom

-- every pixel of p is one of q
abbrev pub Within : Places → Places → Type 0
Within p q = (x y : ℕ) → p x y ≡ true → q x y ≡ true

-- b is the smallest box over the pixels of p: it covers them, and lies in every box that does; where p has no
-- pixel, it is told as (0, 0, 0, 0)
pub record Smallest (p : Places) (b : Rect) : Type 0 where
  pub covers : Within p (inside b)
  pub least : (c : Rect) → Within p (inside c) → Within (inside b) (inside c)
  pub plain : full b ≡ false → b ≡ no_box
