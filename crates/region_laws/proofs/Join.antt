-- The laws of a join. But for the worked examples nothing opens `stand_in` outside this file.
use Rattle.std.proofs.Common.{◌≡◌, ℕ, ◌≤◌, Bool, true, false, cond, ◌||◌, leb, ◌⊎◌, List, [], ◌∷◌, ◌++◌, length, sym, refl, ap, ◌∙◌, subst, inl, inr, arith}
use Rattle.std.proofs.lemmas.Bool.Decides.{nat_tests}
use Rattle.std.proofs.lemmas.Bool.{cases_Bool, cond-true, cond-false, cond_both, or_cases, leb-true, le-leb, false≢true}
use Rattle.region_laws.specs.Boxes.{box, no_box, inside, full, Within}
use Rattle.region_laws.specs.Bands.{covers, banded, farthest}
use Rattle.region_laws.specs.Joined.{either, union, cover_from, cover, single, most, stand_in, joined}
use Rattle.region_laws.specs.declared.rect.Rect.{Rect}
use Rattle.region_laws.proofs.Tidy.{covers-append}
use Rattle.region_laws.specs.Rules.{Sound}
use Rattle.region_laws.proofs.Pairs.{All, all_append, banded_all}
use Rattle.region_laws.proofs.Union.{union_banded, union_covers, union_swap, union_same, union_none}
use Rattle.region_laws.proofs.Smallest.{full_parts, spot, at_spot, inner, one_smallest, smallest_same, cover_smallest, from_append, nothing}

-- the list of one box
pub single_banded : (b : Rect) → Sound b → banded (b ∷ []) ≡ true
single_banded b s = let w = s.wide in let h = s.high in let r = s.right in let o = s.bottom in grind (arith, nat_tests)

pub single_covers : (b : Rect) (x y : ℕ) → covers (single b) x y ≡ inside b x y
single_covers b x y = go (cases_Bool (full b))
  where
    or_false : (a : Bool) → (a || false) ≡ a
    or_false true = refl
    or_false false = refl

    go : (full b ≡ true) ⊎ (full b ≡ false) → covers (single b) x y ≡ inside b x y
    go (inl t) = ap (λ v. covers v x y) (cond-true (full b) (b ∷ []) [] t) ∙ or_false (inside b x y)
    go (inr f) = ap (λ v. covers v x y) (cond-false (full b) (b ∷ []) [] f) ∙ sym (nothing b x y f)

single_few : (b : Rect) → length (single b) ≤ 1
single_few b = cond_both (full b) (b ∷ []) [] (λ v. length v ≤ 1) (λ _. omega arith) (λ _. omega arith)

-- sound boxes lie in the largest display, and so does their covering box
in_largest : (us : List Rect) → All Sound us → Within (covers us) (inside (box 0 0 farthest farthest))
in_largest [] k x y h = absurd (false≢true h)
in_largest (b ∷ bs) k x y h = go (or_cases (inside b x y) (covers bs x y) h) (in_largest bs k.1 x y)
  where
    go : (inside b x y ≡ true) ⊎ (covers bs x y ≡ true) → (covers bs x y ≡ true → inside (box 0 0 farthest farthest) x y ≡ true) → inside (box 0 0 farthest farthest) x y ≡ true
    go (inl i) ih =
        let s = spot b x y i in let r = k.0.right in let o = k.0.bottom in let p = s.right in let q = s.bottom in
        at_spot (box 0 0 farthest farthest) x y (record { left = omega arith; right = omega arith; top = omega arith; bottom = omega arith })
    go (inr i) ih = ih i

cover_sound : (us : List Rect) → All Sound us → full (cover us) ≡ true → Sound (cover us)
cover_sound us k f =
    let s = cover_smallest us k in
    let p = full_parts (cover us) f in
    let i = inner (cover us) (box 0 0 farthest farthest) p (s.least (box 0 0 farthest farthest) (in_largest us k)) in
    record { wide = p.wide; high = p.high; right = i.right; bottom = i.bottom }

-- the laws of the stand-in, by which all others go
pub stand_in_few : (us : List Rect) → length (stand_in us) ≤ most
unfolding stand_in
stand_in_few us = let h = single_few (cover us) in omega arith

pub stand_in_banded : (us : List Rect) → banded us ≡ true → banded (stand_in us) ≡ true
unfolding stand_in
stand_in_banded us k = cond_both (full (cover us)) (cover us ∷ []) [] (λ v. banded v ≡ true) (λ f. single_banded (cover us) (cover_sound us (banded_all us k) f)) (λ _. refl)

pub stand_in_covers : (us : List Rect) → banded us ≡ true → Within (covers us) (covers (stand_in us))
unfolding stand_in
stand_in_covers us k x y h = single_covers (cover us) x y ∙ (cover_smallest us (banded_all us k)).covers x y h

pub stand_in_least : (us : List Rect) → banded us ≡ true → (c : Rect) → Within (covers us) (inside c) → Within (covers (stand_in us)) (inside c)
unfolding stand_in
stand_in_least us k c w x y h = (cover_smallest us (banded_all us k)).least c w x y (sym (single_covers (cover us) x y) ∙ h)

-- the stand-in for a union, from its two parts
pub stand_in_is : (xs ys : List Rect) → banded xs ≡ true → banded ys ≡ true → stand_in (union xs ys) ≡ single (cover_from (cover_from no_box xs) ys)
unfolding stand_in
stand_in_is xs ys k m =
    let u = union_banded xs ys k m in
    let p = cover_smallest (union xs ys) (banded_all (union xs ys) u) in
    let q = cover_smallest (xs ++ ys) (all_append Sound xs ys (banded_all xs k) (banded_all ys m)) in
    let r = smallest_same (covers (xs ++ ys)) (covers (union xs ys)) (cover (xs ++ ys)) (λ x y. covers-append xs ys x y ∙ sym (union_covers xs ys k m x y)) q in
    ap single (one_smallest (covers (union xs ys)) (cover (union xs ys)) (cover (xs ++ ys)) p r ∙ from_append no_box xs ys)

-- a join is the union, or its stand-in
pub joined_short : (xs ys : List Rect) → length (union xs ys) ≤ most → joined xs ys ≡ union xs ys
joined_short xs ys h = cond-true _ _ _ (le-leb _ _ h)

by_cases : (P : List Rect → Type 0) (xs ys : List Rect) → (length (union xs ys) ≤ most → P (union xs ys)) → P (stand_in (union xs ys)) → P (joined xs ys)
by_cases P xs ys f g = cond_both (leb (length (union xs ys)) most) (union xs ys) (stand_in (union xs ys)) P (λ t. f (leb-true _ _ t)) (λ _. g)

pub joined_few : (xs ys : List Rect) → length (joined xs ys) ≤ most
joined_few xs ys = by_cases (λ v. length v ≤ most) xs ys (λ h. h) (stand_in_few (union xs ys))

pub joined_banded : (xs ys : List Rect) → banded xs ≡ true → banded ys ≡ true → banded (joined xs ys) ≡ true
joined_banded xs ys k m = let u = union_banded xs ys k m in by_cases (λ v. banded v ≡ true) xs ys (λ _. u) (stand_in_banded (union xs ys) u)

-- it covers both its parts
pub joined_covers : (xs ys : List Rect) → banded xs ≡ true → banded ys ≡ true → Within (either xs ys) (covers (joined xs ys))
joined_covers xs ys k m x y h =
    let u : covers (union xs ys) x y ≡ true = union_covers xs ys k m x y ∙ h in
    by_cases (λ v. covers v x y ≡ true) xs ys (λ _. u) (stand_in_covers (union xs ys) (union_banded xs ys k m) x y u)

-- and lies in every box that covers both
pub joined_least : (xs ys : List Rect) → banded xs ≡ true → banded ys ≡ true → (c : Rect) → Within (covers xs) (inside c) → Within (covers ys) (inside c) → Within (covers (joined xs ys)) (inside c)
joined_least xs ys k m c p q =
    by_cases (λ v. Within (covers v) (inside c)) xs ys (λ _. part) (stand_in_least (union xs ys) (union_banded xs ys k m) c part)
  where
    then : (x y : ℕ) → (covers xs x y ≡ true) ⊎ (covers ys x y ≡ true) → inside c x y ≡ true
    then x y (inl h) = p x y h
    then x y (inr h) = q x y h

    part : Within (covers (union xs ys)) (inside c)
    part x y h = then x y (or_cases (covers xs x y) (covers ys x y) (sym (union_covers xs ys k m x y) ∙ h))

pub joined_swap : (xs ys : List Rect) → joined xs ys ≡ joined ys xs
joined_swap xs ys = ap (λ u. cond (leb (length u) most) u (stand_in u)) (union_swap xs ys)

pub joined_same : (xs : List Rect) → banded xs ≡ true → length xs ≤ most → joined xs xs ≡ xs
joined_same xs k h = let e = union_same xs k in let f = ap length e in joined_short xs xs (omega arith) ∙ e

pub joined_none : (xs : List Rect) → banded xs ≡ true → length xs ≤ most → joined xs [] ≡ xs
joined_none xs k h = let e = union_none xs k in let f = ap length e in joined_short xs [] (omega arith) ∙ e

pub none_joined : (xs : List Rect) → banded xs ≡ true → length xs ≤ most → joined [] xs ≡ xs
none_joined xs k h = joined_swap [] xs ∙ joined_none xs k h

-- the covering box of two regions lies in the largest display
pub both_inside : (xs ys : List Rect) (b : Rect) → banded xs ≡ true → banded ys ≡ true → b ≡ cover_from (cover_from no_box xs) ys → full b ≡ true → (b.right ≤ farthest) × (b.bottom ≤ farthest)
both_inside xs ys b k m e f =
    let g : cover (xs ++ ys) ≡ b = from_append no_box xs ys ∙ sym e in
    let s = cover_sound (xs ++ ys) (all_append Sound xs ys (banded_all xs k) (banded_all ys m)) (ap full g ∙ f) in
    subst (λ (c : Rect). (c.right ≤ farthest) × (c.bottom ≤ farthest)) g (s.right, s.bottom)

-- what both parts keep inside a display, a join keeps
pub joined_in : (xs ys : List Rect) (w h : ℕ) → banded xs ≡ true → banded ys ≡ true → Within (covers xs) (inside (box 0 0 w h)) → Within (covers ys) (inside (box 0 0 w h)) → Within (covers (joined xs ys)) (inside (box 0 0 w h))
joined_in xs ys w h k m p q = joined_least xs ys k m (box 0 0 w h) p q
