-- The whole picture, and how many panes make it.
use Rattle.std.specs.Prelude.{ℕ, ◌+◌, Bool, false, cond, List, is_some, Some, None, fold, Option}
use Rattle.surface.specs.Told.{Told, has}
use Rattle.reference.specs.declared.pane.Pane.{Pane}
use Rattle.reference.specs.Places.{past}

-- the pixel of surface k at a place that may be there
abbrev pub pixel_at : {P : Type 0} → Told P → ℕ → Option ℕ → Option ℕ → Option P
pixel_at t k (Some i) (Some j) = t.pixel k i j
pixel_at t k (Some i) None = None
pixel_at t k None j = None

-- whether the solid box of surface k covers a place that may be there
abbrev pub solid_at : {P : Type 0} → Told P → ℕ → Option ℕ → Option ℕ → Bool
solid_at t k (Some i) (Some j) = has (t.solid k) i j
solid_at t k (Some i) None = false
solid_at t k None j = false

-- the pixel that a pane has at the place (x, y) of the display, if it covers that place
abbrev pub pane_at : {P : Type 0} → Told P → ℕ → ℕ → Pane → Option P
pane_at t x y p = pixel_at t p.surface (past x p.x) (past y p.y)

-- whether a pane covers the place
abbrev pub covers : {P : Type 0} → Told P → ℕ → ℕ → Pane → Bool
covers t x y p = is_some (pane_at t x y p)

-- whether a pane's solid box covers the place
abbrev pub hides : {P : Type 0} → Told P → ℕ → ℕ → Pane → Bool
hides t x y p = solid_at t p.surface (past x p.x) (past y p.y)

-- a pixel laid over d, if there is one
abbrev pub laid_over : {P : Type 0} → (P → P → P) → P → Option P → P
laid_over lay d None = d
laid_over lay d (Some s) = lay s d

-- the whole picture at a place: the base, then the pixel of each pane that covers the place, laid from the bottom up
abbrev pub picture : {P : Type 0} → (P → P → P) → Told P → P → List Pane → ℕ → ℕ → P
picture lay t base ps x y = fold (λ d p. laid_over lay d (pane_at t x y p)) base ps

-- the panes that cover a place, counted from the top down to and with the first whose solid box covers it: a pane on
-- top of n counted ones counts itself, and the others unless it hides them
abbrev pub deeper : {P : Type 0} → Told P → ℕ → ℕ → ℕ → Pane → ℕ
deeper t x y n p = cond (covers t x y p) 1 0 + cond (hides t x y p) 0 n

abbrev pub depth : {P : Type 0} → Told P → List Pane → ℕ → ℕ → ℕ
depth t ps x y = fold (deeper t x y) 0 ps
