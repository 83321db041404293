-- What painting leaves of a panel.
use Rattle.std.specs.Prelude.{◌≡◌, ℕ, List}
use Rattle.region_laws.specs.declared.rect.Rect.{Rect}
use Rattle.surface.specs.Told.{Told}
use Rattle.chain.specs.Screens.{Screens}
use Rattle.reference.specs.Painting.{BoxBrushed, ListBrushed}
use Rattle.panel.specs.declared.sight.Sights.{Sights}
use Rattle.panel.specs.declared.sight.Tally.{Tally}
use Rattle.panel.specs.Sights.{sights_of, composed, stacked}
use Rattle.panel.specs.declared.panel.Panel.{Panel}

-- all but the chain is as it was
pub record ChainOnly {P S C : Type 0} (p q : Panel P S C) : Type 0 where
  pub base : q.base ≡ p.base
  pub shelf : q.shelf ≡ p.shelf
  pub display : q.display ≡ p.display
  pub scene : q.scene ≡ p.scene

-- what the sights of a stack make of a place: the pixel of the picture, and the depth
abbrev pub picture_by : {P S C : Type 0} → (P → P → P) → (S → Told P) → Panel P S C → Sights → ℕ → ℕ → P
picture_by lay tells p ss x y = composed lay (tells p.shelf) p.base (sights_of ss) x y

abbrev pub depth_by : Sights → ℕ → ℕ → ℕ
depth_by ss x y = stacked (sights_of ss) x y

-- a panel painted a box, or a list of boxes, and counted
pub record PaintedBox {P S C : Type 0} (lay : P → P → P) (tells : S → Told P) (screens : C → Screens P) (p : Panel P S C) (ss : Sights) (b : Rect) (r : Tally) (q : Panel P S C) : Type 0 where
  pub brushed : BoxBrushed (screens p.chain) (picture_by lay tells p ss) (depth_by ss) b r.touched r.laid (screens q.chain)
  pub rest : ChainOnly p q

pub record PaintedList {P S C : Type 0} (lay : P → P → P) (tells : S → Told P) (screens : C → Screens P) (p : Panel P S C) (ss : Sights) (bs : List Rect) (r : Tally) (q : Panel P S C) : Type 0 where
  pub brushed : ListBrushed (screens p.chain) (picture_by lay tells p ss) (depth_by ss) bs r.touched r.laid (screens q.chain)
  pub rest : ChainOnly p q
