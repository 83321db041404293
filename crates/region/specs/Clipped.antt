-- Boxes of any place and size, clipped to a display.
use Rattle.std.specs.Prelude.{ℕ, min, Bool, cond, ◌&&◌, ℤ, pos, negsuc, Some, None, Option, int_le, int_lt, nat_le, nat_lt}
use Rattle.region_laws.specs.Boxes.{Places, box, full}
use Rattle.region_laws.specs.Bands.{farthest}
use Rattle.region_laws.specs.declared.rect.Rect.{Rect}
use Rattle.region.specs.declared.signed_rect.SignedRect.{SignedRect}

-- the pixels of a signed box, of those with x and y from 0
abbrev pub within : SignedRect → Places
within b x y = (int_le b.left (pos x) && int_lt (pos x) b.right) && (int_le b.top (pos y) && int_lt (pos y) b.bottom)

-- the pixels of a display of w by h
abbrev pub shown : ℕ → ℕ → Places
shown w h x y = nat_lt x w && nat_lt y h

-- the pixels that a box and a display of w by h have in common
abbrev pub common : ℕ → ℕ → SignedRect → Places
common w h b x y = shown w h x y && within b x y

-- the sizes that a display can have
abbrev pub sized : ℕ → ℕ → Bool
sized w h = (nat_lt 0 w && nat_le w farthest) && (nat_lt 0 h && nat_le h farthest)

-- a signed edge, held to 0 .. m
abbrev pub held : ℤ → ℕ → ℕ
held (pos n) m = min n m
held (negsuc n) m = 0

-- a box with its edges held to those of a display of w by h
abbrev pub held_box : ℕ → ℕ → SignedRect → Rect
held_box w h b = box (held b.left w) (held b.top h) (held b.right w) (held b.bottom h)

-- the common box of a box and a display of w by h, or nothing where no pixel is common
abbrev pub clipped : ℕ → ℕ → SignedRect → Option Rect
clipped w h b = cond (full (held_box w h b)) (Some (held_box w h b)) None
