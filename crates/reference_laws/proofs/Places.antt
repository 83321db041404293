-- A box of a pane's surface, as it lies on the display.
use Rattle.std.proofs.Common.{◌≡◌, ℕ, ◌+◌, ◌-◌, ◌<◌, Bool, true, false, cond, ◌&&◌, ltb, leb, ◌⊎◌, ℤ, pos, negsuc, ◌+ℤ◌, Some, None, Option, sym, refl, ap, ◌∙◌, inl, inr, arith}
use lib.Signed.{lt_z, le_z}
use Rattle.std.proofs.lemmas.Bool.Decides.{nat_tests}
use Rattle.std.proofs.lemmas.Int.{ints}
use Rattle.std.proofs.lemmas.Bool.{cases_Bool, cond-true, cond-false}
use Rattle.region_laws.specs.Boxes.{box, inside}
use Rattle.region_laws.specs.Bands.{covers}
use Rattle.region_laws.specs.declared.rect.Rect.{Rect}
use Rattle.region_laws.specs.Joined.{single}
use Rattle.region_laws.proofs.Join.{single_covers}
use Rattle.region.specs.Clipped.{within, held, held_box}
use Rattle.region.specs.declared.signed_rect.SignedRect.{SignedRect}
use Rattle.reference.specs.declared.pane.Pane.{Pane}
use Rattle.reference.specs.Places.{past, moved_box, shown_box}

-- whether a box covers a place that may be there
abbrev pub inside_at : Rect → Option ℕ → Option ℕ → Bool
inside_at b (Some i) (Some j) = inside b i j
inside_at b (Some i) None = false
inside_at b None j = false

-- between two edges
abbrev between : ℕ → ℕ → Option ℕ → Bool
between l r (Some i) = leb l i && ltb i r
between l r None = false

low : (v : ℤ) (m x : ℕ) → x < m → leb (held v m) x ≡ le_z v (pos x)
low (pos n) m x h = grind (arith, nat_tests)
low (negsuc n) m x h = grind (arith, nat_tests)

high : (v : ℤ) (m x : ℕ) → x < m → ltb x (held v m) ≡ lt_z (pos x) v
high (pos n) m x h = grind (arith, nat_tests)
high (negsuc n) m x h = grind (arith, nat_tests)

held_inside : (w h x y : ℕ) (b : SignedRect) → x < w → y < h → inside (held_box w h b) x y ≡ within b x y
held_inside w h x y b i j = let p = low b.left w x i in let q = high b.right w x i in let r = low b.top h y j in let s = high b.bottom h y j in cc

-- a clipped box covers, of the display, what the box covers
pub clipped_covers : (w h x y : ℕ) (b : SignedRect) → x < w → y < h → covers (single (held_box w h b)) x y ≡ within b x y
clipped_covers w h x y b i j = single_covers (held_box w h b) x y ∙ held_inside w h x y b i j

-- one edge pair, moved by n
along : (v : ℤ) (l r x : ℕ) → (le_z (v +ℤ pos l) (pos x) && lt_z (pos x) (v +ℤ pos r)) ≡ between l r (past x v)
along (pos n) l r x = go (cases_Bool (leb n x))
  where
    go : (leb n x ≡ true) ⊎ (leb n x ≡ false) → (leb (n + l) x && ltb x (n + r)) ≡ between l r (cond (leb n x) (Some (x - n)) None)
    go (inl e) = (let m : (leb (n + l) x && ltb x (n + r)) ≡ (leb l (x - n) && ltb (x - n) r) = grind (arith, nat_tests) in m) ∙ ap (between l r) (sym (cond-true (leb n x) (Some (x - n)) None e))
    go (inr e) = (let m : (leb (n + l) x && ltb x (n + r)) ≡ false = grind (arith, nat_tests) in m) ∙ ap (between l r) (sym (cond-false (leb n x) (Some (x - n)) None e))
along (negsuc n) l r x = grind (arith, nat_tests, ints)

both : (l t r b : ℕ) (i j : Option ℕ) → (between l r i && between t b j) ≡ inside_at (box l t r b) i j
both l t r b (Some i) (Some j) = refl
both l t r b (Some i) None = no_and (leb l i && ltb i r)
  where
    no_and : (v : Bool) → (v && false) ≡ false
    no_and true = refl
    no_and false = refl
both l t r b None j = refl

-- on the display, a moved and clipped box covers what the box covers of the surface
pub shown_covers : (w h x y : ℕ) (p : Pane) (b : Rect) → x < w → y < h → covers (shown_box w h p b) x y ≡ inside_at b (past x p.x) (past y p.y)
shown_covers w h x y p b i j =
    let u = along p.x b.left b.right x in
    let v = along p.y b.top b.bottom y in
    clipped_covers w h x y (moved_box p b) i j ∙ ((let m : within (moved_box p b) x y ≡ (between b.left b.right (past x p.x) && between b.top b.bottom (past y p.y)) = cc in m) ∙ both b.left b.top b.right b.bottom (past x p.x) (past y p.y))
