-- What every shelf owes, whatever its kind.
use Rattle.std.specs.Prelude.{◌≡◌, ℕ, ◌≤◌, Bool, true, false, is_some, Some, None, Option, nat_lt}
use Rattle.region_laws.specs.declared.rect.Rect.{Rect}
use Rattle.surface.specs.declared.order.Order.{Order}
use Rattle.surface.specs.declared.size.Size.{Size}
use Rattle.surface.specs.Told.{Told, on, opened, fair, fits, has, passes}

-- the solid box, where there is one, lies inside its surface
abbrev pub boxed : Option Size → Option Rect → Bool
boxed z None = true
boxed z (Some b) = fits z b

-- hard: which pixels are solid
pub record Sound {P : Type 0} (hard : P → Bool) (t : Told P) : Type 0 where
  -- 1 to 255 surfaces
  pub some : 1 ≤ t.count
  pub few : t.count ≤ 255
  -- each surface below the count has a size and a solid box, and no other
  pub sized : (k : ℕ) → is_some (t.size k) ≡ nat_lt k t.count
  pub solids : (k : ℕ) → is_some (t.solid k) ≡ nat_lt k t.count
  pub sides : (k : ℕ) → fair (t.size k) ≡ true
  -- a pixel at exactly the places of the surface
  pub pictures : (k x y : ℕ) → is_some (t.pixel k x y) ≡ on (t.size k) x y
  pub boxes : (k : ℕ) → boxed (t.size k) (t.solid k) ≡ true
  -- every pixel in the solid box is solid
  pub hides : (k x y : ℕ) → has (t.solid k) x y ≡ true → passes hard (t.pixel k x y) ≡ true
  -- a surface that is closed or not there takes no order
  pub closed : (k : ℕ) (o : Order) → opened (t.size k) ≡ false → t.takes k o ≡ false
