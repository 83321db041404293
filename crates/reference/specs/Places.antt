-- Places of the display and places of a surface.
use Rattle.std.specs.Prelude.{ℕ, suc, ◌+◌, ◌-◌, cond, List, ℤ, pos, negsuc, ◌+ℤ◌, Some, None, Option, nat_le}
use Rattle.region_laws.specs.Boxes.{box}
use Rattle.region_laws.specs.declared.rect.Rect.{Rect}
use Rattle.region_laws.specs.Joined.{single}
use Rattle.region.specs.Clipped.{held_box}
use Rattle.region.specs.declared.signed_rect.SignedRect.{SignedRect}
use Rattle.surface.specs.declared.size.Size.{Size}
use Rattle.surface.specs.Told.{Told}
use Rattle.reference.specs.declared.pane.Pane.{Pane}

-- how far a place of the display lies past a pane's edge, where it does
abbrev pub past : ℕ → ℤ → Option ℕ
past a (pos n) = cond (nat_le n a) (Some (a - n)) None
past a (negsuc n) = Some (a + suc n)

-- a box of a pane's surface, moved to the pane's place
abbrev pub moved_box : Pane → Rect → SignedRect
moved_box p b =
    record {
      left = p.x +ℤ pos b.left;
      top = p.y +ℤ pos b.top;
      right = p.x +ℤ pos b.right;
      bottom = p.y +ℤ pos b.bottom;
    }

-- a box of a pane's surface, moved to the pane's place and clipped to a display of w by h: the region of it
abbrev pub shown_box : ℕ → ℕ → Pane → Rect → List Rect
shown_box w h p b = single (held_box w h (moved_box p b))

-- the box of a whole surface
abbrev pub whole_box : Option Size → Rect
whole_box None = box 0 0 0 0
whole_box (Some z) = box 0 0 z.width z.height

-- the box of surface k of a shelf
abbrev pub surface_box : {P : Type 0} → Told P → ℕ → Rect
surface_box t k = whole_box (t.size k)
