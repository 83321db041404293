-- The smallest box, found place by place.
use Rattle.std.proofs.Common.{◌≡◌, ℕ, zero, suc, ◌+◌, ◌-◌, ◌<◌, ◌≤◌, min, max, true, false, ◌&&◌, ◌||◌, eqb, ltb, leb, ◌⊎◌, Some, sym, refl, ap, ◌∙◌, inl, inr, ⊎_elim, add-one, arith}
use Rattle.std.proofs.lemmas.Bool.{cases_eq, cases_Bool, both_ways, lt-ltb, ltb-true, leb-true, le-leb, and_parts, and_from, or_right, cond-true, cond-false}
use Rattle.std.proofs.lemmas.Bool.Decides.{nat_tests}
use Rattle.region_laws.specs.declared.rect.Rect.{Rect}
use Rattle.region_laws.specs.Boxes.{Places, box, no_box, inside, full, Within, Smallest}
use Rattle.surface.specs.declared.size.Size.{Size}
use Rattle.surface.specs.Told.{fits}
use Rattle.surface.specs.Hull.{grown, across, hull, cut, Hulls, OneSmallest}

-- (x, y) lies in the box
pub record In (b : Rect) (x y : ℕ) : Type 0 where
  pub left : b.left ≤ x
  pub right : x < b.right
  pub top : b.top ≤ y
  pub bottom : y < b.bottom

pub in_from : (b : Rect) (x y : ℕ) → inside b x y ≡ true → In b x y
in_from b x y e =
    let p = and_parts (leb b.left x && ltb x b.right) _ e in
    let q = and_parts (leb b.left x) _ p.0 in
    let r = and_parts (leb b.top y) _ p.1 in
    record { left = leb-true _ _ q.0; right = ltb-true _ _ q.1; top = leb-true _ _ r.0; bottom = ltb-true _ _ r.1 }

pub from_in : (b : Rect) (x y : ℕ) → In b x y → inside b x y ≡ true
from_in b x y h = and_from _ _ (and_from _ _ (le-leb _ _ h.left) (lt-ltb _ _ h.right)) (and_from _ _ (le-leb _ _ h.top) (lt-ltb _ _ h.bottom))

-- a box is told as (0, 0, 0, 0), or covers its first and its last pixel
plain : (b : Rect) → (full b ≡ false → b ≡ no_box) → (b ≡ no_box) ⊎ ((b.left < b.right) × (b.top < b.bottom))
plain b f = ⊎_elim
    (λ e. let p = and_parts (ltb b.left b.right) _ e in inr (ltb-true _ _ p.0, ltb-true _ _ p.1))
    (λ e. inl (f e))
    (cases_Bool (full b))

nothing : (x y : ℕ) → inside no_box x y ≡ true → ⊥
nothing x y e = let h = in_from no_box x y e in let r : x < 0 = h.right in omega arith

pub none_smallest : (p : Places) → ((x y : ℕ) → p x y ≡ true → ⊥) → Smallest p no_box
none_smallest p never = record {
  covers = λ x y e. absurd (never x y e);
  least = λ c h x y e. absurd (nothing x y e);
  plain = λ e. refl;
}

-- the same places have the same smallest box
pub same_smallest : (p q : Places) (b : Rect) → Within p q → Within q p → Smallest p b → Smallest q b
same_smallest p q b f g s = record {
  covers = λ x y e. s.covers x y (g x y e);
  least = λ c h x y e. s.least c (λ i j u. h i j (f i j u)) x y e;
  plain = s.plain;
}

full_of : (b : Rect) → b.left < b.right → b.top < b.bottom → full b ≡ true
full_of b i j = and_from _ _ (lt-ltb _ _ i) (lt-ltb _ _ j)

first_in : (b : Rect) → b.left < b.right → b.top < b.bottom → inside b b.left b.top ≡ true
first_in b i j = from_in b _ _ (record { left = omega arith; right = i; top = omega arith; bottom = j })

last_in : (b : Rect) → b.left < b.right → b.top < b.bottom → inside b (b.right - 1) (b.bottom - 1) ≡ true
last_in b i j = from_in b _ _ (record { left = omega arith; right = omega arith; top = omega arith; bottom = omega arith })

same_edges : (a b : Rect) → a.left ≡ b.left → a.top ≡ b.top → a.right ≡ b.right → a.bottom ≡ b.bottom → a ≡ b
same_edges a b l t r d = ap (λ v. box v a.top a.right a.bottom) l ∙ ap (λ v. box b.left v a.right a.bottom) t
    ∙ ap (λ v. box b.left b.top v a.bottom) r ∙ ap (λ v. box b.left b.top b.right v) d

-- what covers nothing has no box with a pixel in it
nothing_in : (a b : Rect) → a ≡ no_box → b.left < b.right → b.top < b.bottom → Within (inside b) (inside a) → ⊥
nothing_in a b e i j h = nothing b.left b.top (sym (ap (λ v. inside v b.left b.top) e) ∙ h b.left b.top (first_in b i j))

-- one more place
module _ (p q : Places) (b : Rect) (x y : ℕ) (only : (i j : ℕ) → q i j ≡ true → (p i j ≡ true) ⊎ ((i ≡ x) × (j ≡ y))) (more : Within p q) (here : q x y ≡ true) (s : Smallest p b) where
  first_place : b ≡ no_box → Smallest q (box x y (x + 1) (y + 1))
  first_place e = record {
    covers = λ i j h. ⊎_elim
        (λ u. absurd (nothing i j (ap (λ v. inside v i j) (sym e) ∙ s.covers i j u)))
        (λ u. from_in (box x y (x + 1) (y + 1)) i j (record { left = omega arith; right = omega arith; top = omega arith; bottom = omega arith }))
        (only i j h);
    least = λ c h i j t.
        let k = in_from (box x y (x + 1) (y + 1)) i j t in
        let l : x ≤ i = k.left in let r : i < x + 1 = k.right in let u : y ≤ j = k.top in let d : j < y + 1 = k.bottom in
        let m = in_from c x y (h x y here) in
        from_in c i j (record { left = omega arith; right = omega arith; top = omega arith; bottom = omega arith });
    plain = λ f. absurd (both_ways _ f (full_of (box x y (x + 1) (y + 1)) (omega arith) (omega arith)));
  }

  next_place : b.left < b.right → b.top < b.bottom → Smallest q (box (min b.left x) (min b.top y) (max b.right (x + 1)) (max b.bottom (y + 1)))
  next_place lr tb =
      let n = box (min b.left x) (min b.top y) (max b.right (x + 1)) (max b.bottom (y + 1)) in
      record {
        covers = λ i j h. ⊎_elim
            (λ u. let t = in_from b i j (s.covers i j u) in from_in n i j (record { left = omega arith; right = omega arith; top = omega arith; bottom = omega arith }))
            (λ u. from_in n i j (record { left = omega arith; right = omega arith; top = omega arith; bottom = omega arith }))
            (only i j h);
        least = λ c h i j t.
            let k = in_from n i j t in
            let l : min b.left x ≤ i = k.left in let r : i < max b.right (x + 1) = k.right in
            let u : min b.top y ≤ j = k.top in let d : j < max b.bottom (y + 1) = k.bottom in
            let of : Within (inside b) (inside c) = s.least c (λ i j v. h i j (more i j v)) in
            let low = in_from c b.left b.top (of b.left b.top (first_in b lr tb)) in
            let high = in_from c (b.right - 1) (b.bottom - 1) (of (b.right - 1) (b.bottom - 1) (last_in b lr tb)) in
            let m = in_from c x y (h x y here) in
            from_in c i j (record { left = omega arith; right = omega arith; top = omega arith; bottom = omega arith });
        plain = λ f. absurd (both_ways _ f (full_of n (omega arith) (omega arith)));
      }

  pub more_smallest : Smallest q (grown b x y)
  more_smallest = ⊎_elim
      (λ e. let f : ltb b.left b.right ≡ false = ap (λ v. ltb v.left v.right) e in simp f (first_place e))
      (λ h. let f : ltb b.left b.right ≡ true = lt-ltb _ _ h.0 in simp f (next_place h.0 h.1))
      (plain b s.plain)

-- the places of p in the rows above y, and the first n places of row y
abbrev up_to : Places → ℕ → ℕ → ℕ → Places
up_to p w y n i j = (ltb i w && (ltb j y || (eqb j y && ltb i n))) && p i j

row : (p : Places) (w y n : ℕ) (b : Rect) → n ≤ w → Smallest (cut p w y) b → Smallest (up_to p w y n) (across p y n b)
row p w y zero b h s = same_smallest (cut p w y) (up_to p w y zero) b (λ i j e. grind (arith, nat_tests)) (λ i j e. grind (arith, nat_tests)) s
row p w y (suc n) b h s = ⊎_elim
    (λ e0. let e : p n y ≡ true = e0 in simp e (more_smallest (up_to p w y n) (up_to p w y (suc n)) (across p y n b) n y
    (λ i j k. ⊎_elim
    (λ u. ⊎_elim (λ v. inr (u, v)) (λ v. inl (grind (arith, nat_tests))) (cases_eq j y))
    (λ u. inl (grind (arith, nat_tests)))
    (cases_eq i n))
    (λ i j k. grind (arith, nat_tests))
    (grind (arith, nat_tests))
    (row p w y n b (omega arith) s)))
    (λ e0. let e : p n y ≡ false = e0 in simp e (same_smallest (up_to p w y n) (up_to p w y (suc n)) (across p y n b)
    (λ i j k. grind (arith, nat_tests))
    (λ i j k. ⊎_elim
    (λ u. ⊎_elim (λ v. let z : p i j ≡ p n y = cc in absurd (both_ways _ (z ∙ e) (and_parts _ _ k).1)) (λ v. grind (arith, nat_tests)) (cases_eq j y))
    (λ u. grind (arith, nat_tests))
    (cases_eq i n))
    (row p w y n b (omega arith) s)))
    (cases_Bool (p n y))

pub hulls : Hulls
hulls p w zero = none_smallest (cut p w zero) (λ x y e. grind (arith, nat_tests))
hulls p w (suc h) = same_smallest (up_to p w h w) (cut p w (suc h)) (across p h w (hull p w h)) (λ i j e. grind (arith, nat_tests)) (λ i j e. grind (arith, nat_tests))
    (row p w h w (hull p w h) (omega arith) (hulls p w h))

-- two smallest boxes are one
pub one_smallest : OneSmallest
one_smallest p a b s t = ⊎_elim
    (λ e. ⊎_elim (λ f. e ∙ sym f) (λ f. absurd (nothing_in a b e f.0 f.1 (t.least a s.covers))) (plain b t.plain))
    (λ e. ⊎_elim
    (λ f. absurd (nothing_in b a f e.0 e.1 (s.least b t.covers)))
    (λ f.
    let k = in_from a _ _ (t.least a s.covers _ _ (first_in b f.0 f.1)) in
    let l = in_from a _ _ (t.least a s.covers _ _ (last_in b f.0 f.1)) in
    let m = in_from b _ _ (s.least b t.covers _ _ (first_in a e.0 e.1)) in
    let n = in_from b _ _ (s.least b t.covers _ _ (last_in a e.0 e.1)) in
    same_edges a b (omega arith) (omega arith) (omega arith) (omega arith))
    (plain b t.plain))
    (plain a s.plain)

-- the smallest box over places of a surface lies inside the surface
pub smallest_fits : (p : Places) (b : Rect) (z : Size) → ((x y : ℕ) → p x y ≡ true → (x < z.width) × (y < z.height)) → Smallest p b → fits (Some z) b ≡ true
smallest_fits p b z f s = ⊎_elim
    (λ e. ap (λ v. fits (Some z) v) e)
    (λ e.
    let whole = box 0 0 z.width z.height in
    let within : Within p (inside whole) = λ x y h. let u = f x y h in from_in whole x y (record { left = omega arith; right = u.0; top = omega arith; bottom = u.1 }) in
    let k = in_from whole _ _ (s.least whole within _ _ (last_in b e.0 e.1)) in
    let r : b.right - 1 < z.width = k.right in
    let d : b.bottom - 1 < z.height = k.bottom in
    or_right _ _ (and_from _ _ (full_of b e.0 e.1) (and_from _ _ (le-leb b.right z.width (omega arith)) (le-leb b.bottom z.height (omega arith)))))
    (plain b s.plain)

-- a place outside the smallest box is none of those
pub outside_smallest : (p : Places) (b : Rect) (x y : ℕ) → Smallest p b → inside b x y ≡ false → p x y ≡ false
outside_smallest p b x y s e = ⊎_elim (λ h. absurd (both_ways _ e (s.covers x y h))) (λ h. h) (cases_Bool (p x y))

-- one place of a row more, which is in p
pub across_more : (p : Places) (y x : ℕ) (b f g : Rect) → f ≡ across p y x b → p x y ≡ true → g ≡ grown f x y → g ≡ across p y (x + 1) b
across_more p y x b f g e h i =
    let at : across p y (suc x) b ≡ grown (across p y x b) x y = cond-true (p x y) _ _ h in
    i ∙ ap (λ v. grown v x y) e ∙ sym at ∙ ap (λ n. across p y n b) (sym (add-one x))

-- one place of a row more, which is not
pub across_skip : (p : Places) (y x : ℕ) (b f : Rect) → f ≡ across p y x b → p x y ≡ false → f ≡ across p y (x + 1) b
across_skip p y x b f e h =
    let at : across p y (suc x) b ≡ across p y x b = cond-false (p x y) _ _ h in
    e ∙ sym at ∙ ap (λ n. across p y n b) (sym (add-one x))

-- one row more
pub hull_more : (p : Places) (w y : ℕ) (f g : Rect) → f ≡ hull p w y → g ≡ across p y w f → g ≡ hull p w (y + 1)
hull_more p w y f g e h = h ∙ ap (λ v. across p y w v) e ∙ ap (λ n. hull p w n) (sym (add-one y))
