-- A shelf of one surface.
use Rattle.std.specs.Prelude.{ℕ, Bool, cond, ◌&&◌, Some, None, Option, ◌==◌}
use Rattle.region_laws.specs.Boxes.{box, no_box}
use Rattle.surface.specs.declared.order.Order.{Order}
use Rattle.surface.specs.declared.size.Size.{Size}
use Rattle.surface.specs.Told.{Told, on, opened}

-- the size of surface k, where surface 0 is w by h and there is no other
abbrev pub sides : ℕ → ℕ → ℕ → Option Size
sides w h k = cond (k == 0) (Some (record { width = w; height = h })) None

-- what one surface of w by h tells, with this picture on it: the solid box is the whole surface or nothing, and an order
-- that is accepted is taken unless the surface is closed
abbrev pub single : {P : Type 0} → ℕ → ℕ → (ℕ → ℕ → Option P) → Bool → (Order → Bool) → Told P
single w h picture whole accepts = record {
  count = 1;
  size = sides w h;
  pixel = λ k x y. cond (on (sides w h k) x y) (picture x y) None;
  solid = λ k. cond (k == 0) (Some (cond whole (box 0 0 w h) no_box)) None;
  takes = λ k o. opened (sides w h k) && accepts o;
}
