-- The sights of a stack make its whole picture.
use Rattle.std.proofs.Common.{◌≡◌, ℕ, ◌+◌, Bool, true, false, cond, ◌&&◌, ltb, leb, List, [], ◌∷◌, map, is_some, Some, None, fold, Option, sym, refl, ap, ◌∙◌, arith}
use Rattle.std.proofs.lemmas.Bool.Decides.{nat_tests}
use Rattle.region_laws.specs.Boxes.{inside}
use Rattle.region_laws.specs.declared.rect.Rect.{Rect}
use Rattle.surface.specs.declared.size.Size.{Size}
use Rattle.surface.specs.Told.{Told, on, has, fits, passes}
use Rattle.surface.specs.Sound.{Sound, boxed}
use Rattle.reference.specs.declared.pane.Pane.{Pane}
use Rattle.reference.specs.Places.{past, whole_box, surface_box}
use Rattle.reference.specs.Picture.{pixel_at, solid_at, pane_at, covers, hides, laid_over, deeper}
use Rattle.panel.specs.Sights.{sight, spot, between, spot_of, box_or, covered_by, meets, blocks, pixel_at_spot, sight_pixel}

-- the box of a surface covers a place just where there is a pixel
on_size : (z : Option Size) (i j : ℕ) → inside (whole_box z) i j ≡ on z i j
on_size None i j = grind (arith, nat_tests)
on_size (Some z) i j = grind (arith, nat_tests)

both_in : (b : Rect) (i j : ℕ) → spot_of (between b.left b.right (Some i)) (between b.top b.bottom (Some j)) ≡ cond (inside b i j) (Some (spot i j)) None
both_in b i j = go (leb b.left i && ltb i b.right) (leb b.top j && ltb j b.bottom)
  where
    go : (u v : Bool) → spot_of (cond u (Some i) None) (cond v (Some j) None) ≡ cond (u && v) (Some (spot i j)) None
    go true true = refl
    go true false = refl
    go false v = refl

no_right : (b : Rect) (o : Option ℕ) → spot_of (between b.left b.right o) None ≡ None
no_right b None = refl
no_right b (Some i) = go (leb b.left i && ltb i b.right)
  where
    go : (u : Bool) → spot_of (cond u (Some i) None) None ≡ None
    go true = refl
    go false = refl

none_of : {A : Type 0} (o : Option A) → is_some o ≡ false → o ≡ None
none_of None e = refl
none_of (Some a) e = absurd (let z : ◌≡◌ {A = ℕ} 0 1 = cc in omega arith)

-- the empty box, or one inside the surface
fits_in : (z : Option Size) (b : Rect) (i j : ℕ) → fits z b ≡ true → inside b i j ≡ true → on z i j ≡ true
fits_in None b i j e h = absurd (let q : ◌≡◌ {A = ℕ} 0 1 = cc in omega arith)
fits_in (Some z) b i j e h = grind (arith, nat_tests)

module _ {P : Type 0} (hard : P → Bool) (t : Told P) (sound : Sound hard t) where
  -- the pixel and the solid box at a place, as the sight has them
  at_place : (k : ℕ) (i j : Option ℕ) → pixel_at_spot t k (spot_of (between (surface_box t k).left (surface_box t k).right i) (between (surface_box t k).top (surface_box t k).bottom j)) ≡ pixel_at t k i j
  at_place k (Some i) (Some j) = ap (pixel_at_spot t k) (both_in (surface_box t k) i j) ∙ go (inside (surface_box t k) i j) refl
    where
      go : (b : Bool) → inside (surface_box t k) i j ≡ b → pixel_at_spot t k (cond b (Some (spot i j)) None) ≡ t.pixel k i j
      go true e = refl
      go false e = sym (none_of (t.pixel k i j) (sound.pictures k i j ∙ (sym (on_size (t.size k) i j) ∙ e)))
  at_place k (Some i) None = ap (pixel_at_spot t k) (no_right (surface_box t k) (Some i))
  at_place k None j = refl

  solid_on : (k : ℕ) (o : Option Rect) (i j : ℕ) → boxed (t.size k) o ≡ true → has o i j ≡ true → on (t.size k) i j ≡ true
  solid_on k None i j e h = absurd (let q : ◌≡◌ {A = ℕ} 0 1 = cc in omega arith)
  solid_on k (Some b) i j e h = fits_in (t.size k) b i j e h

  box_or_lem : (o : Option Rect) (i j : ℕ) → inside (box_or o) i j ≡ has o i j
  box_or_lem None i j = grind (arith, nat_tests)
  box_or_lem (Some b) i j = refl

  at_solid : (k : ℕ) (i j : Option ℕ) → covered_by (spot_of (between (surface_box t k).left (surface_box t k).right i) (between (surface_box t k).top (surface_box t k).bottom j)) (box_or (t.solid k)) ≡ solid_at t k i j
  at_solid k (Some i) (Some j) = ap (λ o. covered_by o (box_or (t.solid k))) (both_in (surface_box t k) i j) ∙ go (inside (surface_box t k) i j) refl
    where
      no : (b : Bool) → (b ≡ true → true ≡ false) → b ≡ false
      no true f = f refl
      no false f = refl

      go : (b : Bool) → inside (surface_box t k) i j ≡ b → covered_by (cond b (Some (spot i j)) None) (box_or (t.solid k)) ≡ has (t.solid k) i j
      go true e = box_or_lem (t.solid k) i j
      go false e = sym (no (has (t.solid k) i j) (λ h. sym (on_size (t.size k) i j ∙ solid_on k (t.solid k) i j (sound.boxes k) h) ∙ e))
  at_solid k (Some i) None = ap (λ o. covered_by o (box_or (t.solid k))) (no_right (surface_box t k) (Some i))
  at_solid k None j = refl

  at_meet : (k : ℕ) (i j : Option ℕ) → is_some (spot_of (between (surface_box t k).left (surface_box t k).right i) (between (surface_box t k).top (surface_box t k).bottom j)) ≡ is_some (pixel_at t k i j)
  at_meet k (Some i) (Some j) = ap is_some (both_in (surface_box t k) i j) ∙ (go (inside (surface_box t k) i j) ∙ (on_size (t.size k) i j ∙ sym (sound.pictures k i j)))
    where
      go : (b : Bool) → is_some (cond b (Some (spot i j)) None) ≡ b
      go true = refl
      go false = refl
  at_meet k (Some i) None = ap is_some (no_right (surface_box t k) (Some i))
  at_meet k None j = refl

  pixel_is : (x y : ℕ) (p : Pane) → sight_pixel t x y (sight t p) ≡ pane_at t x y p
  pixel_is x y p = at_place p.surface (past x p.x) (past y p.y)

  blocks_is : (x y : ℕ) (p : Pane) → blocks x y (sight t p) ≡ hides t x y p
  blocks_is x y p = at_solid p.surface (past x p.x) (past y p.y)

  meets_is : (x y : ℕ) (p : Pane) → meets x y (sight t p) ≡ covers t x y p
  meets_is x y p = at_meet p.surface (past x p.x) (past y p.y)

  -- where a pane's solid box covers a place, its pixel there is solid
  solid_at_lem : (k : ℕ) (i j : Option ℕ) → solid_at t k i j ≡ true → passes hard (pixel_at t k i j) ≡ true
  solid_at_lem k (Some i) (Some j) e = sound.hides k i j e
  solid_at_lem k (Some i) None e = absurd (let q : ◌≡◌ {A = ℕ} 0 1 = cc in omega arith)
  solid_at_lem k None j e = absurd (let q : ◌≡◌ {A = ℕ} 0 1 = cc in omega arith)

  -- the count is the depth
  pub stacked_is : (ps : List Pane) (n x y : ℕ) → fold (λ n s. cond (meets x y s) 1 0 + cond (blocks x y s) 0 n) n (map (sight t) ps) ≡ fold (deeper t x y) n ps
  stacked_is [] n x y = refl
  stacked_is (p ∷ ps) n x y =
      ap (λ m. fold (λ n s. cond (meets x y s) 1 0 + cond (blocks x y s) 0 n) m (map (sight t) ps))
      (ap (λ b. cond b 1 0 + cond (blocks x y (sight t p)) 0 n) (meets_is x y p) ∙ ap (λ b. cond (covers t x y p) 1 0 + cond b 0 n) (blocks_is x y p))
      ∙ stacked_is ps (deeper t x y n p) x y

  module _ (lay : P → P → P) (law : (s d : P) → hard s ≡ true → lay s d ≡ s) where
    covers_all : (o : Option P) (d e : P) → passes hard o ≡ true → laid_over lay d o ≡ laid_over lay e o
    covers_all None d e h = absurd (let q : ◌≡◌ {A = ℕ} 0 1 = cc in omega arith)
    covers_all (Some s) d e h = law s d h ∙ sym (law s e h)

    -- begun anew where nothing below is seen, the picture is the same
    anew : (base d : P) (b : Bool) (o : Option P) → (b ≡ true → passes hard o ≡ true) → laid_over lay (cond b base d) o ≡ laid_over lay d o
    anew base d true o h = covers_all o base d (h refl)
    anew base d false o h = refl

    pub composed_is : (base d : P) (ps : List Pane) (x y : ℕ) → fold (λ e s. laid_over lay (cond (blocks x y s) base e) (sight_pixel t x y s)) d (map (sight t) ps) ≡ fold (λ e p. laid_over lay e (pane_at t x y p)) d ps
    composed_is base d [] x y = refl
    composed_is base d (p ∷ ps) x y =
        ap (λ e. fold (λ e s. laid_over lay (cond (blocks x y s) base e) (sight_pixel t x y s)) e (map (sight t) ps))
        (ap (λ b. laid_over lay (cond b base d) (sight_pixel t x y (sight t p))) (blocks_is x y p)
        ∙ (ap (laid_over lay (cond (hides t x y p) base d)) (pixel_is x y p) ∙ anew base d (hides t x y p) (pane_at t x y p) (solid_at_lem p.surface (past x p.x) (past y p.y))))
        ∙ composed_is base (laid_over lay d (pane_at t x y p)) ps x y
