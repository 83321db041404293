-- The smallest box over a list of boxes: it is one, and there is only one.
use Rattle.std.proofs.Common.{◌≡◌, ℕ, ◌-◌, ◌<◌, ◌≤◌, min, max, true, false, ◌&&◌, ◌||◌, ltb, leb, ◌⊎◌, List, [], ◌∷◌, ◌++◌, sym, refl, ◌∙◌, subst, inl, inr, arith}
use Rattle.std.proofs.lemmas.Bool.{and_parts, and_from, or_cases, or_left, or_right, leb-true, ltb-true, le-leb, lt-ltb, cases_Bool, cond-true, cond-false, false≢true, both_ways}
use Rattle.region_laws.specs.Boxes.{Places, box, no_box, inside, full, Within, Smallest}
use Rattle.region_laws.specs.Bands.{covers}
use Rattle.region_laws.specs.Joined.{widen, cover_from, cover}
use Rattle.region_laws.specs.declared.rect.Rect.{Rect}
use Rattle.region_laws.specs.Rules.{Sound}
use Rattle.region_laws.proofs.Pairs.{All}

-- a pixel of a box, as four bounds
pub record Spot (b : Rect) (x y : ℕ) : Type 0 where
  pub left : b.left ≤ x
  pub right : x < b.right
  pub top : b.top ≤ y
  pub bottom : y < b.bottom

pub spot : (b : Rect) (x y : ℕ) → inside b x y ≡ true → Spot b x y
spot b x y k =
    let a = and_parts (leb b.left x && ltb x b.right) (leb b.top y && ltb y b.bottom) k in
    let h = and_parts (leb b.left x) (ltb x b.right) a.0 in
    let v = and_parts (leb b.top y) (ltb y b.bottom) a.1 in
    record { left = leb-true _ _ h.0; right = ltb-true _ _ h.1; top = leb-true _ _ v.0; bottom = ltb-true _ _ v.1 }

pub at_spot : (b : Rect) (x y : ℕ) → Spot b x y → inside b x y ≡ true
at_spot b x y s = and_from (leb b.left x && ltb x b.right) (leb b.top y && ltb y b.bottom)
    (and_from (leb b.left x) (ltb x b.right) (le-leb _ _ s.left) (lt-ltb _ _ s.right))
    (and_from (leb b.top y) (ltb y b.bottom) (le-leb _ _ s.top) (lt-ltb _ _ s.bottom))

-- a box that covers a pixel
pub record Full (b : Rect) : Type 0 where
  pub wide : b.left < b.right
  pub high : b.top < b.bottom

pub full_parts : (b : Rect) → full b ≡ true → Full b
full_parts b k = let a = and_parts (ltb b.left b.right) (ltb b.top b.bottom) k in record { wide = ltb-true _ _ a.0; high = ltb-true _ _ a.1 }

pub full_from : (b : Rect) → Full b → full b ≡ true
full_from b f = and_from (ltb b.left b.right) (ltb b.top b.bottom) (lt-ltb _ _ f.wide) (lt-ltb _ _ f.high)

pub spot_full : (b : Rect) (x y : ℕ) → Spot b x y → Full b
spot_full b x y s = let l = s.left in let r = s.right in let t = s.top in let o = s.bottom in record { wide = omega arith; high = omega arith }

-- a box inside another, as four bounds
pub record Inner (b c : Rect) : Type 0 where
  pub left : c.left ≤ b.left
  pub right : b.right ≤ c.right
  pub top : c.top ≤ b.top
  pub bottom : b.bottom ≤ c.bottom

pub inner : (b c : Rect) → Full b → Within (inside b) (inside c) → Inner b c
inner b c f k =
    let w = f.wide in
    let h = f.high in
    let p = spot c b.left b.top (k b.left b.top (at_spot b b.left b.top (record { left = omega arith; right = w; top = omega arith; bottom = h }))) in
    let x : ℕ = b.right - 1 in
    let y : ℕ = b.bottom - 1 in
    let q = spot c (b.right - 1) (b.bottom - 1) (k (b.right - 1) (b.bottom - 1) (at_spot b (b.right - 1) (b.bottom - 1) (record { left = omega arith; right = omega arith; top = omega arith; bottom = omega arith }))) in
    let r = q.right in
    let o = q.bottom in
    record { left = p.left; right = omega arith; top = p.top; bottom = omega arith }

pub within_inner : (b c : Rect) → Inner b c → Within (inside b) (inside c)
within_inner b c n x y k =
    let s = spot b x y k in
    let l = n.left in let r = n.right in let t = n.top in let o = n.bottom in
    let u = s.left in let v = s.right in let w = s.top in let z = s.bottom in
    at_spot c x y (record { left = omega arith; right = omega arith; top = omega arith; bottom = omega arith })

same_box : (b c : Rect) → Inner b c → Inner c b → b ≡ c
same_box b c p q =
    let pl = p.left in let pr = p.right in let pt = p.top in let po = p.bottom in
    let ql = q.left in let qr = q.right in let qt = q.top in let qo = q.bottom in
    let l : b.left ≡ c.left = omega arith in
    let t : b.top ≡ c.top = omega arith in
    let r : b.right ≡ c.right = omega arith in
    let o : b.bottom ≡ c.bottom = omega arith in
    λ i. record { left = l i; top = t i; right = r i; bottom = o i }

-- there is one smallest box over a set
pub one_smallest : (p : Places) (b c : Rect) → Smallest p b → Smallest p c → b ≡ c
one_smallest p b c s t = go (cases_Bool (full b)) (cases_Bool (full c))
  where
    bc : Within (inside b) (inside c)
    bc = s.least c t.covers

    cb : Within (inside c) (inside b)
    cb = t.least b s.covers

    corner : (d : Rect) → full d ≡ true → inside d d.left d.top ≡ true
    corner d f = let u = full_parts d f in at_spot d d.left d.top (record { left = omega arith; right = u.wide; top = omega arith; bottom = u.high })

    go : (full b ≡ true) ⊎ (full b ≡ false) → (full c ≡ true) ⊎ (full c ≡ false) → b ≡ c
    go (inl f) (inl g) = same_box b c (inner b c (full_parts b f) bc) (inner c b (full_parts c g) cb)
    go (inl f) (inr g) = absurd (both_ways (full c) g (full_from c (spot_full c b.left b.top (spot c b.left b.top (bc b.left b.top (corner b f))))))
    go (inr f) (inl g) = absurd (both_ways (full b) f (full_from b (spot_full b c.left c.top (spot b c.left c.top (cb c.left c.top (corner c g))))))
    go (inr f) (inr g) = s.plain f ∙ sym (t.plain g)

-- one box more
widened : (c b : Rect) → Full c → Full b → Smallest (λ x y. inside c x y || inside b x y) (box (min c.left b.left) (min c.top b.top) (max c.right b.right) (max c.bottom b.bottom))
widened c b f g = record {
  covers = λ x y k. both x y (or_cases (inside c x y) (inside b x y) k);
  least = λ d k.
      let p = inner c d f (λ x y h. k x y (or_left (inside c x y) (inside b x y) h)) in
      let q = inner b d g (λ x y h. k x y (or_right (inside c x y) (inside b x y) h)) in
      let pl = p.left in let pr = p.right in let pt = p.top in let po = p.bottom in
      let ql = q.left in let qr = q.right in let qt = q.top in let qo = q.bottom in
      within_inner all d (record { left = omega arith; right = omega arith; top = omega arith; bottom = omega arith });
  plain = λ n. let fw = f.wide in let fh = f.high in absurd (both_ways (full all) n (full_from all (record { wide = omega arith; high = omega arith })));
}
  where
    all : Rect
    all = box (min c.left b.left) (min c.top b.top) (max c.right b.right) (max c.bottom b.bottom)

    both : (x y : ℕ) → (inside c x y ≡ true) ⊎ (inside b x y ≡ true) → inside (box (min c.left b.left) (min c.top b.top) (max c.right b.right) (max c.bottom b.bottom)) x y ≡ true
    both x y (inl h) =
        let n : Inner c all = record { left = omega arith; right = omega arith; top = omega arith; bottom = omega arith } in within_inner c all n x y h
    both x y (inr h) =
        let n : Inner b all = record { left = omega arith; right = omega arith; top = omega arith; bottom = omega arith } in within_inner b all n x y h

-- a box that covers a pixel, or the one that stands for none
abbrev pub Told : Rect → Type 0
Told c = full c ≡ false → c ≡ no_box

pub nothing : (c : Rect) (x y : ℕ) → full c ≡ false → inside c x y ≡ false
nothing c x y n = go (cases_Bool (inside c x y))
  where
    go : (inside c x y ≡ true) ⊎ (inside c x y ≡ false) → inside c x y ≡ false
    go (inl t) = absurd (both_ways (full c) n (full_from c (spot_full c x y (spot c x y t))))
    go (inr f) = f

widen_smallest : (c b : Rect) → Full b → Smallest (λ x y. inside c x y || inside b x y) (widen c b)
widen_smallest c b g = go (cases_Bool (full c))
  where
    P : Rect → Type 0
    P d = Smallest (λ x y. inside c x y || inside b x y) d

    go : (full c ≡ true) ⊎ (full c ≡ false) → P (widen c b)
    go (inl t) = subst (λ (d : Rect). Smallest (λ x y. inside c x y || inside b x y) d) (sym (cond-true _ _ _ t)) (widened c b (full_parts c t) g)
    go (inr n) = subst (λ (d : Rect). Smallest (λ x y. inside c x y || inside b x y) d) (sym (cond-false _ _ _ n)) (record {
      covers = λ x y k. alone x y (or_cases (inside c x y) (inside b x y) k);
      least = λ d k x y h. k x y (or_right (inside c x y) (inside b x y) h);
      plain = λ m. absurd (both_ways (full b) m (full_from b g));
    })
      where
        alone : (x y : ℕ) → (inside c x y ≡ true) ⊎ (inside b x y ≡ true) → inside b x y ≡ true
        alone x y (inl h) = absurd (both_ways (inside c x y) (nothing c x y n) h)
        alone x y (inr h) = h

-- the smallest box over c, b and more is that over their widening and the more
one_more : (c b : Rect) (bs : List Rect) (r : Rect) → Smallest (λ x y. inside c x y || inside b x y) (widen c b) → Smallest (λ x y. inside (widen c b) x y || covers bs x y) r
    → Smallest (λ x y. inside c x y || (inside b x y || covers bs x y)) r
one_more c b bs r w s = record {
  covers = λ x y h. s.covers x y (more x y (or_cases (inside c x y) (inside b x y || covers bs x y) h));
  least = λ d h. s.least d (λ x y g. less d h x y (or_cases (inside (widen c b) x y) (covers bs x y) g));
  plain = s.plain;
}
  where
    more : (x y : ℕ) → (inside c x y ≡ true) ⊎ ((inside b x y || covers bs x y) ≡ true) → (inside (widen c b) x y || covers bs x y) ≡ true
    more x y (inl h) = or_left (inside (widen c b) x y) (covers bs x y) (w.covers x y (or_left (inside c x y) (inside b x y) h))
    more x y (inr h) = then (or_cases (inside b x y) (covers bs x y) h)
      where
        then : (inside b x y ≡ true) ⊎ (covers bs x y ≡ true) → (inside (widen c b) x y || covers bs x y) ≡ true
        then (inl i) = or_left (inside (widen c b) x y) (covers bs x y) (w.covers x y (or_right (inside c x y) (inside b x y) i))
        then (inr i) = or_right (inside (widen c b) x y) (covers bs x y) i

    less : (d : Rect) → Within (λ x y. inside c x y || (inside b x y || covers bs x y)) (inside d) → (x y : ℕ) → (inside (widen c b) x y ≡ true) ⊎ (covers bs x y ≡ true) → inside d x y ≡ true
    less d h x y (inr i) = h x y (or_right (inside c x y) (inside b x y || covers bs x y) (or_right (inside b x y) (covers bs x y) i))
    less d h x y (inl i) = w.least d part x y i
      where
        part : Within (λ x y. inside c x y || inside b x y) (inside d)
        part u v j = then (or_cases (inside c u v) (inside b u v) j)
          where
            then : (inside c u v ≡ true) ⊎ (inside b u v ≡ true) → inside d u v ≡ true
            then (inl q) = h u v (or_left (inside c u v) (inside b u v || covers bs u v) q)
            then (inr q) = h u v (or_right (inside c u v) (inside b u v || covers bs u v) (or_left (inside b u v) (covers bs u v) q))

pub from_smallest : (c : Rect) (bs : List Rect) → Told c → All Sound bs → Smallest (λ x y. inside c x y || covers bs x y) (cover_from c bs)
from_smallest c [] t k = record {
  covers = λ x y h. only x y (or_cases (inside c x y) false h);
  least = λ d h x y g. h x y (or_left (inside c x y) false g);
  plain = t;
}
  where
    only : (x y : ℕ) → (inside c x y ≡ true) ⊎ (false ≡ true) → inside c x y ≡ true
    only x y (inl h) = h
    only x y (inr h) = absurd (false≢true h)
from_smallest c (b ∷ bs) t k =
    let w = widen_smallest c b (record { wide = k.0.wide; high = k.0.high }) in
    one_more c b bs (cover_from (widen c b) bs) w (from_smallest (widen c b) bs w.plain k.1)

-- the covering box of a list is the smallest box over its pixels
pub cover_smallest : (bs : List Rect) → All Sound bs → Smallest (covers bs) (cover bs)
cover_smallest bs k =
    let s = from_smallest no_box bs (λ _. refl) k in
    record {
      covers = λ x y h. s.covers x y (or_right (inside no_box x y) (covers bs x y) h);
      least = λ d h. s.least d (λ x y g. part d h x y (or_cases (inside no_box x y) (covers bs x y) g));
      plain = s.plain;
    }
  where
    part : (d : Rect) → Within (covers bs) (inside d) → (x y : ℕ) → (inside no_box x y ≡ true) ⊎ (covers bs x y ≡ true) → inside d x y ≡ true
    part d h x y (inl i) = absurd (both_ways (inside no_box x y) (nothing no_box x y refl) i)
    part d h x y (inr i) = h x y i

-- the covering box depends on the pixels alone
pub smallest_same : (p q : Places) (b : Rect) → ((x y : ℕ) → p x y ≡ q x y) → Smallest p b → Smallest q b
smallest_same p q b e s = record {
  covers = λ x y k. s.covers x y (e x y ∙ k);
  least = λ c k. s.least c (λ x y h. k x y (sym (e x y) ∙ h));
  plain = s.plain;
}

pub from_append : (c : Rect) (xs ys : List Rect) → cover_from c (xs ++ ys) ≡ cover_from (cover_from c xs) ys
from_append c [] ys = refl
from_append c (x ∷ xs) ys = from_append (widen c x) xs ys
