-- The boxes of a banded list that have row y hold the row of its bands at y.
use Rattle.std.proofs.Common.{◌≡◌, ℕ, ◌<◌, ◌≤◌, Bool, true, false, ◌&&◌, ltb, leb, ◌⊎◌, List, [], ◌∷◌, ◌++◌, sym, refl, ap, ◌∙◌, subst, inl, inr, arith}
use Rattle.std.proofs.lemmas.Bool.Decides.{nat_tests}
use Rattle.std.proofs.lemmas.Bool.{cases_lt, cases_Bool, cond-true, cond-false, and_parts}
use Rattle.region_laws.specs.Runs.{at, tidy, reach, Ok}
use Rattle.region_laws.specs.Bands.{Row, Band, boxes, bands, banded, same_row, good_row, row_boxes, farthest}
use Rattle.region_laws.specs.Spans.{spans}
use Rattle.region_laws.specs.Spans.{row_at}
use Rattle.region_laws.specs.declared.rect.Rect.{Rect}
use Rattle.region_laws.proofs.Tidy.{tidy_before, Parts, parts, good_tidy, boxes_bands, row_at_ok}
use Rattle.region_laws.proofs.Unique.{at_in, at_left, at_right}
use Rattle.region_laws.proofs.Extend.{spans-append}
use Rattle.region_laws.proofs.Flat.{spans_row}

pub row_at-append : (y : ℕ) (xs ys : List Rect) → row_at y (xs ++ ys) ≡ row_at y xs ++ row_at y ys
row_at-append y [] ys = refl
row_at-append y (x ∷ xs) ys = go (cases_Bool (leb x.top y && ltb y x.bottom)) (row_at-append y xs ys)
  where
    go : ((leb x.top y && ltb y x.bottom) ≡ true) ⊎ ((leb x.top y && ltb y x.bottom) ≡ false) → row_at y (xs ++ ys) ≡ row_at y xs ++ row_at y ys → row_at y ((x ∷ xs) ++ ys) ≡ row_at y (x ∷ xs) ++ row_at y ys
    go (inl t) h = cond-true _ _ _ t ∙ (ap (λ v. x ∷ v) h ∙ ap (λ v. v ++ row_at y ys) (sym (cond-true (leb x.top y && ltb y x.bottom) (x ∷ row_at y xs) (row_at y xs) t)))
    go (inr t) h = cond-false _ _ _ t ∙ (h ∙ ap (λ v. v ++ row_at y ys) (sym (cond-false (leb x.top y && ltb y x.bottom) (x ∷ row_at y xs) (row_at y xs) t)))

row_at_in : (t b y : ℕ) (r : Row) → t ≤ y → y < b → row_at y (row_boxes t b r) ≡ row_boxes t b r
row_at_in t b y [] l u = refl
row_at_in t b y (s ∷ ss) l u = let e : (leb t y && ltb y b) ≡ true = grind (arith, nat_tests) in cond-true _ _ _ e ∙ ap (λ v. record { left = s.from; top = t; right = s.to; bottom = b } ∷ v) (row_at_in t b y ss l u)

row_at_out : (t b y : ℕ) (r : Row) → (y < t) ⊎ (b ≤ y) → row_at y (row_boxes t b r) ≡ []
row_at_out t b y [] k = refl
row_at_out t b y (s ∷ ss) k = let e : (leb t y && ltb y b) ≡ false = grind (arith, nat_tests) in cond-false _ _ _ e ∙ row_at_out t b y ss k

-- the boxes at y are the row of the bands at y
pub row_bands : (same : Row → Row → Bool) (low : ℕ) (bs : List Band) (y : ℕ) → tidy same good_row low bs ≡ true → spans (row_at y (boxes bs)) ≡ at [] bs y
row_bands same low [] y k = refl
row_bands same low (b ∷ bs) y k =
    let p = parts same good_row low b bs k in
    ap spans (row_at-append y (row_boxes b.from b.to b.what) (boxes bs))
    ∙ (spans-append (row_at y (row_boxes b.from b.to b.what)) (row_at y (boxes bs)) ∙ go p (row_bands same b.to bs y p.rest) (cases_lt y b.from) (cases_lt y b.to))
  where
    mine : List Rect
    mine = row_boxes b.from b.to b.what

    go : Parts same good_row low b bs → spans (row_at y (boxes bs)) ≡ at [] bs y → (y < b.from) ⊎ (b.from ≤ y) → (y < b.to) ⊎ (b.to ≤ y)
        → spans (row_at y mine) ++ spans (row_at y (boxes bs)) ≡ at [] (b ∷ bs) y
    go p h (inl l) m = ap (λ v. spans v ++ spans (row_at y (boxes bs))) (row_at_out b.from b.to y b.what (inl l)) ∙ (h ∙ sym (at_left [] b bs y l))
    go p h (inr g) (inr m) = ap (λ v. spans v ++ spans (row_at y (boxes bs))) (row_at_out b.from b.to y b.what (inr m)) ∙ (h ∙ sym (at_right [] b bs y m))
    go p h (inr g) (inl m) =
        let z : spans (row_at y (boxes bs)) ≡ [] = h ∙ tidy_before same good_row [] b.to bs y p.rest m in
        ap (λ v. spans v ++ spans (row_at y (boxes bs))) (row_at_in b.from b.to y b.what g m)
        ∙ (ap (λ v. spans mine ++ v) z ∙ (sym (spans-append mine []) ∙ (spans_row 0 b.from b.to b.what (good_tidy b.what p.fine) ∙ sym (at_in [] b bs y g m))))

pub row_is : (bs : List Rect) (y : ℕ) → banded bs ≡ true → spans (row_at y bs) ≡ at [] (bands bs) y
row_is bs y k = ap (λ v. spans (row_at y v)) (sym (boxes_bands bs)) ∙ row_bands same_row 0 (bands bs) y (and_parts _ _ k).0

-- the spans of the boxes that have row y are a row
pub row_fine : (bs vs : List Rect) (y : ℕ) → banded bs ≡ true → vs ≡ row_at y bs → Ok false 0 (spans vs)
row_fine bs vs y k e =
    subst (λ (r : Row). Ok false 0 r) (sym (ap spans e ∙ row_is bs y k)) (row_at_ok 0 (bands bs) y (and_parts (tidy same_row good_row 0 (bands bs)) (leb (reach (bands bs)) farthest) k).0)
