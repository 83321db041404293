-- What a shelf tells: its meaning, which everything above it is proved against. A shelf is a number of surfaces,
-- numbered from 0.
use Rattle.std.specs.Prelude.{ℕ, Bool, true, false, ◌&&◌, ◌||◌, Some, None, Option, ◌==◌, nat_le, nat_lt}
use Rattle.region_laws.specs.declared.rect.Rect.{Rect}
use Rattle.region_laws.specs.Boxes.{inside, full}
use Rattle.surface.specs.declared.order.Order.{Order}
use Rattle.surface.specs.declared.size.Size.{Size}

-- a surface is given by its number, a place by x to the right and y down; None where there is no such surface or place
pub record Told (P : Type 0) : Type 0 where
  pub count : ℕ
  pub size : ℕ → Option Size
  -- the picture: surface, x, y
  pub pixel : ℕ → ℕ → ℕ → Option P
  -- a box in which every pixel of the surface is solid; not always the largest such box
  pub solid : ℕ → Option Rect
  -- whether an order is taken
  pub takes : ℕ → Order → Bool

-- the surface has the place (x, y)
abbrev pub on : Option Size → ℕ → ℕ → Bool
on None x y = false
on (Some z) x y = nat_lt x z.width && nat_lt y z.height

-- the surface is there, and is not closed
abbrev pub opened : Option Size → Bool
opened None = false
opened (Some z) = nat_lt 0 z.width && nat_lt 0 z.height

-- sides from 0 to 1,024
abbrev pub fair : Option Size → Bool
fair None = true
fair (Some z) = nat_le z.width 1024 && nat_le z.height 1024

-- the box is told as (0, 0, 0, 0)
abbrev pub bare : Rect → Bool
bare b = (b.left == 0 && b.top == 0) && (b.right == 0 && b.bottom == 0)

-- the box is told as (0, 0, 0, 0), or covers a pixel and lies inside the surface
abbrev pub fits : Option Size → Rect → Bool
fits None b = false
fits (Some z) b = bare b || (full b && (nat_le b.right z.width && nat_le b.bottom z.height))

-- the box covers (x, y)
abbrev pub has : Option Rect → ℕ → ℕ → Bool
has None x y = false
has (Some b) x y = inside b x y

-- there is a pixel, and it passes the test
abbrev pub passes : {P : Type 0} → (P → Bool) → Option P → Bool
passes f None = false
passes f (Some p) = f p
