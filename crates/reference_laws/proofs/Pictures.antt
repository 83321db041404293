-- Where a call leaves the whole picture as it was.
use Rattle.std.proofs.Common.{◌≡◌, ℕ, zero, suc, ◌<◌, Bool, false, ◌&&◌, eqb, List, [], ◌∷◌, ◌++◌, length, get_or, set, is_some, Some, None, fold, Option, sym, refl, ap, ◌∙◌, arith}
use Rattle.std.specs.List.{insert, remove, AllByRecursion}
use Rattle.std.proofs.lemmas.Bool.Decides.{nat_tests}
use Rattle.std.proofs.lemmas.Bool.{and_left, and_right}
use Rattle.region_laws.specs.Boxes.{inside}
use Rattle.region_laws.specs.Bands.{covers}
use Rattle.region_laws.specs.declared.rect.Rect.{Rect}
use Rattle.surface.specs.declared.size.Size.{Size}
use Rattle.surface.specs.Told.{Told, on}
use Rattle.surface.specs.Sound.{Sound}
use Rattle.surface.specs.Damaged.{Damaged}
use Rattle.reference.specs.declared.pane.Pane.{Pane}
use Rattle.reference.specs.Stack.{no_pane}
use Rattle.reference.specs.Places.{past, whole_box, surface_box, shown_box}
use Rattle.reference.specs.Picture as pic
use Rattle.reference.specs.Picture.{pixel_at, pane_at, laid_over, picture}
use Rattle.reference_laws.proofs.Places.{inside_at, shown_covers}

-- a fold over a list of which one element changes nothing
module _ {X Y : Type 0} (f : Y → X → Y) (z : X) where
  fold_removed : (a : Y) (xs : List X) (i : ℕ) → i < length xs → ((d : Y) → f d (get_or xs i z) ≡ d) → fold f a (remove xs i) ≡ fold f a xs
  fold_removed a [] i h e = absurd (omega arith)
  fold_removed a (x ∷ xs) zero h e = ap (λ v. fold f v xs) (sym (e a))
  fold_removed a (x ∷ xs) (suc i) h e = fold_removed (f a x) xs i (omega arith) e

  fold_inserted : (a : Y) (xs : List X) (n : ℕ) (q : X) → ((d : Y) → f d q ≡ d) → fold f a (insert xs n q) ≡ fold f a xs
  fold_inserted a [] zero q e = e a
  fold_inserted a [] (suc n) q e = e a
  fold_inserted a (x ∷ xs) zero q e = ap (λ v. fold f v (x ∷ xs)) (e a)
  fold_inserted a (x ∷ xs) (suc n) q e = fold_inserted (f a x) xs n q e

  fold_set : (a : Y) (xs : List X) (i : ℕ) (q : X) → i < length xs → ((d : Y) → f d (get_or xs i z) ≡ d) → ((d : Y) → f d q ≡ d) → fold f a (set xs i q) ≡ fold f a xs
  fold_set a [] i q h e k = absurd (omega arith)
  fold_set a (x ∷ xs) zero q h e k = ap (λ v. fold f v xs) (k a ∙ sym (e a))
  fold_set a (x ∷ xs) (suc i) q h e k = fold_set (f a x) xs i q (omega arith) e k

  fold_placed : (a : Y) (xs : List X) (q : X) → ((d : Y) → f d q ≡ d) → fold f a (xs ++ q ∷ []) ≡ fold f a xs
  fold_placed a [] q e = e a
  fold_placed a (x ∷ xs) q e = fold_placed (f a x) xs q e

module _ {P : Type 0} (lay : P → P → P) (t : Told P) (base : P) (x y : ℕ) where
  over : P → Pane → P
  over d p = laid_over lay d (pane_at t x y p)

  -- a pane that does not cover the place
  clear : (p : Pane) → pane_at t x y p ≡ None → (d : P) → laid_over lay d (pane_at t x y p) ≡ d
  clear p e d = ap (laid_over lay d) e

  pub picture_removed : (ps : List Pane) (i : ℕ) → i < length ps → pane_at t x y (get_or ps i no_pane) ≡ None → picture lay t base (remove ps i) x y ≡ picture lay t base ps x y
  picture_removed ps i h e = fold_removed (λ d p. laid_over lay d (pane_at t x y p)) no_pane base ps i h (clear (get_or ps i no_pane) e)

  pub picture_inserted : (ps : List Pane) (n : ℕ) (q : Pane) → pane_at t x y q ≡ None → picture lay t base (insert ps n q) x y ≡ picture lay t base ps x y
  picture_inserted ps n q e = fold_inserted (λ d p. laid_over lay d (pane_at t x y p)) no_pane base ps n q (clear q e)

  pub picture_set : (ps : List Pane) (i : ℕ) (q : Pane) → i < length ps → pane_at t x y (get_or ps i no_pane) ≡ None → pane_at t x y q ≡ None → picture lay t base (set ps i q) x y ≡ picture lay t base ps x y
  picture_set ps i q h e k = fold_set (λ d p. laid_over lay d (pane_at t x y p)) no_pane base ps i q h (clear (get_or ps i no_pane) e) (clear q k)

  pub picture_placed : (ps : List Pane) (q : Pane) → pane_at t x y q ≡ None → picture lay t base (ps ++ q ∷ []) x y ≡ picture lay t base ps x y
  picture_placed ps q e = fold_placed (λ d p. laid_over lay d (pane_at t x y p)) no_pane base ps q (clear q e)

-- the same panes over two shelves that have the same pixels at the place
pub picture_told : {P : Type 0} (lay : P → P → P) (t u : Told P) (x y : ℕ) (base : P) (ps : List Pane) → AllByRecursion (λ p. pane_at u x y p ≡ pane_at t x y p) ps → picture lay u base ps x y ≡ picture lay t base ps x y
picture_told lay t u x y base [] h = refl
picture_told lay t u x y base (p ∷ ps) h =
    picture_told lay t u x y (laid_over lay base (pane_at u x y p)) ps h.1 ∙ ap (λ o. picture lay t (laid_over lay base o) ps x y) h.0

-- the whole surface has the places where it has a pixel
size_at : (z : Option Size) (i j : ℕ) → inside (whole_box z) i j ≡ on z i j
size_at None i j = grind (arith, nat_tests)
size_at (Some z) i j = grind (arith, nat_tests)

some_none : {A : Type 0} (o : Option A) → is_some o ≡ false → o ≡ None
some_none None e = refl
some_none (Some a) e = absurd (let z : ◌≡◌ {A = ℕ} 0 1 = cc in omega arith)

module _ {P : Type 0} (hard : P → Bool) (t : Told P) (sound : Sound hard t) where
  pixel_at_lem : (k : ℕ) (i j : Option ℕ) → inside_at (whole_box (t.size k)) i j ≡ is_some (pixel_at t k i j)
  pixel_at_lem k (Some i) (Some j) = size_at (t.size k) i j ∙ sym (sound.pictures k i j)
  pixel_at_lem k (Some i) None = refl
  pixel_at_lem k None j = refl

  -- on the display, a pane's box covers what the pane covers
  pub pane_covers_lem : (w h x y : ℕ) (p : Pane) → x < w → y < h → covers (shown_box w h p (surface_box t p.surface)) x y ≡ pic.covers t x y p
  pane_covers_lem w h x y p i j = shown_covers w h x y p (surface_box t p.surface) i j ∙ pixel_at_lem p.surface (past x p.x) (past y p.y)

  -- off its box a pane has no pixel
  pub pane_none : (w h x y k : ℕ) (p : Pane) → p.surface ≡ k → x < w → y < h → covers (shown_box w h p (surface_box t k)) x y ≡ false → pane_at t x y p ≡ None
  pane_none w h x y k p s i j e = some_none (pane_at t x y p) (sym (pane_covers_lem w h x y p i j) ∙ (ap (λ n. covers (shown_box w h p (surface_box t n)) x y) s ∙ e))

-- what an order leaves of a pane's pixels
module _ {P : Type 0} (t u : Told P) (k : ℕ) (d : Rect) (m : Damaged t u k d) where
  kept_at : (j : ℕ) (a b : Option ℕ) → (eqb j k && inside_at d a b) ≡ false → pixel_at u j a b ≡ pixel_at t j a b
  kept_at j (Some a) (Some b) e = m.pixel j a b e
  kept_at j (Some a) None e = refl
  kept_at j None b e = refl

  -- another surface's pane is as it was
  pub told_other : (x y : ℕ) (p : Pane) → eqb p.surface k ≡ false → pane_at u x y p ≡ pane_at t x y p
  told_other x y p e = kept_at p.surface (past x p.x) (past y p.y) (and_left _ _ e)

  -- a pane is as it was off the damage box
  pub told_off : (w h x y : ℕ) (p : Pane) → x < w → y < h → covers (shown_box w h p d) x y ≡ false → pane_at u x y p ≡ pane_at t x y p
  told_off w h x y p i j e = kept_at p.surface (past x p.x) (past y p.y) (and_right (eqb p.surface k) _ (sym (shown_covers w h x y p d i j) ∙ e))
