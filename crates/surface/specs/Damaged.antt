-- What an order that is taken leaves as it was.
use Rattle.std.specs.Prelude.{◌≡◌, ℕ, true, false, ◌&&◌, ◌==◌}
use Rattle.region_laws.specs.declared.rect.Rect.{Rect}
use Rattle.region_laws.specs.Boxes.{inside}
use Rattle.surface.specs.declared.order.Order.{Order}
use Rattle.surface.specs.Told.{Told, fits}

-- an order to surface k answered the damage box b: outside b the picture is as before, and so is all that is told of
-- every other surface; counts and sizes never change
pub record Damaged {P : Type 0} (before after : Told P) (k : ℕ) (b : Rect) : Type 0 where
  pub boxed : fits (before.size k) b ≡ true
  pub count : after.count ≡ before.count
  pub size : (j : ℕ) → after.size j ≡ before.size j
  pub pixel : (j x y : ℕ) → (j == k && inside b x y) ≡ false → after.pixel j x y ≡ before.pixel j x y
  pub solid : (j : ℕ) → (j == k) ≡ false → after.solid j ≡ before.solid j
  pub takes : (j : ℕ) (o : Order) → (j == k) ≡ false → after.takes j o ≡ before.takes j o
