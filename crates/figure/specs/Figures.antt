-- Figures: what they tell, and what an order makes of them.
use Rattle.std.specs.Prelude.{◌≡◌, ℕ, ◌+◌, ◌*◌, ◌/◌, ◌%◌, ◌<◌, Bool, true, false, cond, not, ◌&&◌, ◌||◌, ℤ, pos, Some, Option, ◌==◌, int_le, nat_le, nat_lt}
use Rattle.region_laws.specs.declared.rect.Rect.{Rect}
use Rattle.region_laws.specs.Boxes.{Places}
use Rattle.surface.specs.declared.order.Order.{Order}
use Rattle.surface.specs.Told.{Told}
use Rattle.surface.specs.Hull.{hull, cut}
use Rattle.surface.specs.Single.{single}
use Rattle.figure.specs.declared.character.Character.{Character}
use Rattle.figure.specs.declared.character.Character.TheVariants.{Digit, Minus, Blank}
use Rattle.figure.specs.declared.figure.Figure.{Figure}
use Rattle.figure.specs.Characters.{in_cell, in_range}
use Rattle.figure.specs.Glyphs.{ink}

-- act 3, b = 0, and a from -999 to 9,999
abbrev pub accepts : Order → Bool
accepts o = (int_le (pos 3) o.act && int_le o.act (pos 3)) && ((int_le (pos 0) o.b && int_le o.b (pos 0)) && in_range o.a)

-- the order that lets a figure show v
abbrev pub showing : ℤ → Order
showing v = record { act = pos 3; a = v; b = pos 0 }

-- at scale 1: three columns for each character, and a column of paper between two
abbrev pub inked : ℤ → ℕ → ℕ → Bool
inked v column row = nat_lt (column % 4) 3 && ink (in_cell v (column / 4)) (column % 4) row

-- each bit is z by z pixels
abbrev pub picture : {P : Type 0} → ℕ → ℤ → P → P → ℕ → ℕ → Option P
picture z v ink paper x y = Some (cond (inked v (x / z) (y / z)) ink paper)

-- so bit (c, r) of the character in cell i is drawn z by z pixels large, with its upper left corner at
-- (4zi + cz, rz); the column after a cell, c = 3, is paper
abbrev pub Drawn : {P : Type 0} → ℕ → ℤ → P → P → Type 0
Drawn z v dark light = (i c r dx dy : ℕ) → c < 4 → dx < z → dy < z
    → picture z v dark light (4 * z * i + c * z + dx) (r * z + dy) ≡ Some (cond (nat_lt c 3 && ink (in_cell v i) c r) dark light)

-- what a figure of scale z tells, while it shows v
abbrev pub figure : {P : Type 0} → (P → Bool) → ℕ → ℤ → P → P → Told P
figure hard z v ink paper = single (15 * z) (5 * z) (picture z v ink paper) (hard ink && hard paper) accepts

abbrev pub told : {P : Type 0} → (P → Bool) → Figure P → Told P
told hard s = figure hard s.scale s.shown.value s.ink s.paper

-- a scale from 1 to 8, or 0: a closed surface
abbrev pub fitting : ℕ → ℕ
fitting z = cond (nat_le z 8) z 0

-- a new figure shows 0
pub record Fresh {P : Type 0} (z : ℕ) (dark light : P) (s : Figure P) : Type 0 where
  pub scale : s.scale ≡ fitting z
  pub number : s.shown.value ≡ pos 0
  pub ink : s.ink ≡ dark
  pub paper : s.paper ≡ light

-- one and the same character
abbrev pub same : Character → Character → Bool
same (Digit d) (Digit e) = d == e
same (Digit d) Minus = false
same (Digit d) Blank = false
same Minus (Digit e) = false
same Minus Minus = true
same Minus Blank = false
same Blank (Digit e) = false
same Blank Minus = false
same Blank Blank = true

-- cell i fills the columns from 4zi up to 4zi + 3z
abbrev pub cell : ℕ → ℕ → ℕ → Bool
cell z i x = nat_le (4 * z * i) x && nat_lt x (4 * z * i + 3 * z)

-- the character in cell i changed
abbrev pub unlike : ℤ → ℤ → ℕ → Bool
unlike old new i = not (same (in_cell old i) (in_cell new i))

-- x lies in cell i, whose character changed
abbrev pub hit : ℤ → ℤ → ℕ → ℕ → ℕ → Bool
hit old new z x i = cell z i x && unlike old new i

-- the places of the cells whose character changed
abbrev pub touched : ℤ → ℤ → ℕ → Places
touched old new z x y = (hit old new z x 0 || hit old new z x 1) || (hit old new z x 2 || hit old new z x 3)

abbrev pub changed : {P : Type 0} → Figure P → ℤ → Places
changed s v = cut (touched s.shown.value v s.scale) (15 * s.scale) (5 * s.scale)

-- the smallest box over them
abbrev pub damage : ℤ → ℤ → ℕ → Rect
damage old new z = hull (touched old new z) (15 * z) (5 * z)

-- an order o to the figure s, its surface 0, that answers d, makes t of it: t shows a; scale, ink and paper are as
-- before
pub record Showed {P : Type 0} (s : Figure P) (k : ℕ) (o : Order) (d : Rect) (t : Figure P) : Type 0 where
  pub surface : k ≡ 0
  pub number : t.shown.value ≡ o.a
  pub box : d ≡ damage s.shown.value o.a s.scale
  pub scale : t.scale ≡ s.scale
  pub ink : t.ink ≡ s.ink
  pub paper : t.paper ≡ s.paper
