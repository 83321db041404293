-- A banded list is the only one of its pixels.
use Rattle.std.proofs.Common.{◌≡◌, ℕ, ◌<◌, ◌≤◌, Bool, true, false, not, ◌&&◌, ◌||◌, eqb, ltb, ◌≢◌, ◌⊎◌, List, [], ◌∷◌, ◌++◌, sym, refl, ap, ◌∙◌, subst, inl, inr, arith}
use Rattle.std.proofs.lemmas.Bool.Decides.{nat_tests}
use Rattle.std.proofs.lemmas.Bool.{cases_lt, and_parts, or_cases, not-true, leb-true, ltb-true, eqb-true, eq-eqb, both_ways, cond_both, false≢true, cases_Bool, cond-true, cond-false}
use Rattle.region_laws.specs.Runs.{Run, at, Apart, Ok, tidy, apart}
use Rattle.region_laws.specs.Bands.{covers, Row, Band, same_bit, same_row, row_boxes, boxes, stack, bands, bit, good_row, banded}
use Rattle.region_laws.specs.declared.rect.Rect.{Rect}
use Rattle.region_laws.proofs.Unique.{at_in, at_left, at_right, at_before, unique}

module _ {V : Type 0} (same : V → V → Bool) (good : V → Bool) where
  pub record Parts (low : ℕ) (r : Run V) (rs : List (Run V)) : Type 0 where
    pub start : low ≤ r.from
    pub full : r.from < r.to
    pub fine : good r.what ≡ true
    pub next : apart same r rs ≡ true
    pub rest : tidy same good r.to rs ≡ true

  pub parts : (low : ℕ) (r : Run V) (rs : List (Run V)) → tidy same good low (r ∷ rs) ≡ true → Parts low r rs
  parts low r rs k =
      let a = and_parts _ _ k in
      let b = and_parts _ _ a.1 in
      let c = and_parts _ _ b.1 in
      let d = and_parts _ _ c.1 in
      record { start = leb-true _ _ a.0; full = ltb-true _ _ b.0; fine = c.0; next = d.0; rest = d.1 }

  pub apart_ok : ((u v : V) → u ≡ v → same u v ≡ true) → (r : Run V) (rs : List (Run V)) → apart same r rs ≡ true → Apart r rs
  apart_ok eq r [] k = tt
  apart_ok eq r (s ∷ ss) k = λ p q. go p q (or_cases _ _ k)
    where
      go : r.to ≡ s.from → r.what ≡ s.what → (ltb r.to s.from ≡ true) ⊎ (not (same r.what s.what) ≡ true) → ⊥
      go p q (inl l) = let h = ltb-true _ _ l in omega arith
      go p q (inr n) = both_ways _ (not-true _ n) (eq _ _ q)

  pub tidy_ok : (none : V) → ((u v : V) → u ≡ v → same u v ≡ true) → ((v : V) → good v ≡ true → v ≢ none)
      → (low : ℕ) (rs : List (Run V)) → tidy same good low rs ≡ true → Ok none low rs
  tidy_ok none eq ne low [] k = tt
  tidy_ok none eq ne low (r ∷ rs) k =
      let p = parts low r rs k in
      (p.start, p.full, ne _ p.fine, apart_ok eq r rs p.next, tidy_ok none eq ne r.to rs p.rest)

-- nothing stands before the first of tidy runs
pub tidy_before : {V : Type 0} (same : V → V → Bool) (good : V → Bool) (none : V) (low : ℕ) (rs : List (Run V)) (x : ℕ) → tidy same good low rs ≡ true → x < low → at none rs x ≡ none
tidy_before same good none low [] x k l = refl
tidy_before same good none low (r ∷ rs) x k l =
    let p = parts same good low r rs k in
    let s = p.start in
    let f = p.full in
    at_left none r rs x (omega arith) ∙ tidy_before same good none r.to rs x p.rest (omega arith)

same_bit_refl : (b : Bool) → same_bit b b ≡ true
same_bit_refl true = refl
same_bit_refl false = refl

pub same_bit_eq : (a b : Bool) → a ≡ b → same_bit a b ≡ true
same_bit_eq a b e = subst (λ (v : Bool). same_bit a v ≡ true) e (same_bit_refl a)

pub same_bit_true : (a b : Bool) → same_bit a b ≡ true → a ≡ b
same_bit_true true b k = sym k
same_bit_true false b k = sym (not-true b k)

same_row_refl : (r : Row) → same_row r r ≡ true
same_row_refl [] = refl
same_row_refl (s ∷ ss) = simp (eq-eqb s.from s.from refl, eq-eqb s.to s.to refl, same_bit_refl s.what) (same_row_refl ss)

pub same_row_eq : (a b : Row) → a ≡ b → same_row a b ≡ true
same_row_eq a b e = subst (λ (v : Row). same_row a v ≡ true) e (same_row_refl a)

pub same_row_true : (a b : Row) → same_row a b ≡ true → a ≡ b
same_row_true [] [] k = refl
same_row_true [] (s ∷ ss) k = absurd (false≢true k)
same_row_true (r ∷ rs) [] k = absurd (false≢true k)
same_row_true (r ∷ rs) (s ∷ ss) k =
    let a = and_parts _ _ k in
    let b = and_parts _ _ a.1 in
    let c = and_parts _ _ b.1 in
    let p = eqb-true _ _ a.0 in
    let q = eqb-true _ _ b.0 in
    let e = same_bit_true _ _ c.0 in
    let t = same_row_true rs ss c.1 in
    λ i. record { from = p i; to = q i; what = e i } ∷ t i

-- a good row is tidy, and not empty
pub good_tidy : (r : Row) → good_row r ≡ true → tidy same_bit bit 0 r ≡ true
good_tidy [] k = refl
good_tidy (s ∷ ss) k = (and_parts _ _ k).0

good_some : (r : Row) → good_row r ≡ true → r ≢ []
good_some r k e = false≢true (subst (λ (v : Row). good_row v ≡ true) e k)

bit_some : (b : Bool) → bit b ≡ true → b ≢ false
bit_some b k e = both_ways b e k

pub row_ok : (low : ℕ) (r : Row) → tidy same_bit bit low r ≡ true → Ok false low r
row_ok = tidy_ok same_bit bit false same_bit_eq bit_some

pub bands_ok : (low : ℕ) (bs : List Band) → tidy same_row good_row low bs ≡ true → Ok [] low bs
bands_ok = tidy_ok same_row good_row [] same_row_eq good_some

-- each row of tidy bands is a tidy row
pub row_at_ok : (low : ℕ) (bs : List Band) (y : ℕ) → tidy same_row good_row low bs ≡ true → Ok false 0 (at [] bs y)
row_at_ok low [] y k = tt
row_at_ok low (b ∷ bs) y k =
    let p = parts same_row good_row low b bs k in
    cond_both _ _ _ (λ v. Ok false 0 v) (λ _. row_ok 0 b.what (good_tidy b.what p.fine)) (λ _. row_at_ok b.to bs y p.rest)

or_false : (b : Bool) → (b || false) ≡ b
or_false true = refl
or_false false = refl

pub covers-append : (xs ys : List Rect) (x y : ℕ) → covers (xs ++ ys) x y ≡ (covers xs x y || covers ys x y)
covers-append [] ys x y = refl
covers-append (b ∷ bs) ys x y = let h = covers-append bs ys x y in grind (arith, h)

covers_row_out : (t b : ℕ) (r : Row) (x y : ℕ) → (y < t) ⊎ (b ≤ y) → covers (row_boxes t b r) x y ≡ false
covers_row_out t b [] x y k = refl
covers_row_out t b (s ∷ ss) x y k = let h = covers_row_out t b ss x y k in grind (arith, nat_tests, h)

covers_row_in : (low t b : ℕ) (r : Row) (x y : ℕ) → tidy same_bit bit low r ≡ true → t ≤ y → y < b → covers (row_boxes t b r) x y ≡ at false r x
covers_row_in low t b [] x y k l u = refl
covers_row_in low t b (s ∷ ss) x y k l u =
    let p = parts same_bit bit low s ss k in
    let h = covers_row_in s.to t b ss x y p.rest l u in
    let e : s.what ≡ true = p.fine in
    grind (arith, nat_tests, h, e)

-- the pixels of the boxes of bands are those of the bands' rows
pub covers_bands : (low : ℕ) (bs : List Band) (x y : ℕ) → tidy same_row good_row low bs ≡ true → covers (boxes bs) x y ≡ at false (at [] bs y) x
covers_bands low [] x y k = refl
covers_bands low (b ∷ bs) x y k =
    let p = parts same_row good_row low b bs k in
    covers-append (row_boxes b.from b.to b.what) (boxes bs) x y ∙ go p (covers_bands b.to bs x y p.rest) (cases_lt y b.from) (cases_lt y b.to)
  where
    here : Bool
    here = covers (row_boxes b.from b.to b.what) x y

    go : Parts same_row good_row low b bs → covers (boxes bs) x y ≡ at false (at [] bs y) x → (y < b.from) ⊎ (b.from ≤ y) → (y < b.to) ⊎ (b.to ≤ y)
        → (here || covers (boxes bs) x y) ≡ at false (at [] (b ∷ bs) y) x
    go p h (inl l) m = ap (λ v. v || covers (boxes bs) x y) (covers_row_out b.from b.to b.what x y (inl l)) ∙ (h ∙ ap (λ v. at false v x) (sym (at_left [] b bs y l)))
    go p h (inr g) (inr m) = ap (λ v. v || covers (boxes bs) x y) (covers_row_out b.from b.to b.what x y (inr m)) ∙ (h ∙ ap (λ v. at false v x) (sym (at_right [] b bs y m)))
    go p h (inr g) (inl m) =
        let none : covers (boxes bs) x y ≡ false = h ∙ ap (λ v. at false v x) (at_before [] b.to bs y (bands_ok b.to bs p.rest) m) in
        let e : here ≡ at false b.what x = covers_row_in 0 b.from b.to b.what x y (good_tidy b.what p.fine) g m in
        let f : at [] (b ∷ bs) y ≡ b.what = at_in [] b bs y g m in
        ap (λ v. here || v) none ∙ (or_false here ∙ (e ∙ ap (λ v. at false v x) (sym f)))

-- grouping boxes into bands loses nothing
boxes_stack : (b : Rect) (bs : List Band) → boxes (stack b bs) ≡ b ∷ boxes bs
boxes_stack b [] = refl
boxes_stack b (c ∷ cs) = go (cases_Bool (eqb b.top c.from && eqb b.bottom c.to))
  where
    go : ((eqb b.top c.from && eqb b.bottom c.to) ≡ true) ⊎ ((eqb b.top c.from && eqb b.bottom c.to) ≡ false) → boxes (stack b (c ∷ cs)) ≡ b ∷ boxes (c ∷ cs)
    go (inl t) =
        let a = and_parts _ _ t in
        let p = eqb-true _ _ a.0 in
        let q = eqb-true _ _ a.1 in
        ap boxes (cond-true _ _ _ t) ∙ (λ i. b ∷ (row_boxes (p i) (q i) c.what ++ boxes cs))
    go (inr f) = ap boxes (cond-false _ _ _ f)

pub boxes_bands : (bs : List Rect) → boxes (bands bs) ≡ bs
boxes_bands [] = refl
boxes_bands (b ∷ bs) = boxes_stack b (bands bs) ∙ ap (λ v. b ∷ v) (boxes_bands bs)

pub covers_tidy : (bs : List Rect) (x y : ℕ) → banded bs ≡ true → covers bs x y ≡ at false (at [] (bands bs) y) x
covers_tidy bs x y k = ap (λ v. covers v x y) (sym (boxes_bands bs)) ∙ covers_bands 0 (bands bs) x y (and_parts _ _ k).0

-- a list and its pixels determine each other
pub same_set : (xs ys : List Rect) → banded xs ≡ true → banded ys ≡ true → ((x y : ℕ) → covers xs x y ≡ covers ys x y) → xs ≡ ys
same_set xs ys k m e =
    let k' = (and_parts _ _ k).0 in
    let m' = (and_parts _ _ m).0 in
    let rows : (y : ℕ) → at [] (bands xs) y ≡ at [] (bands ys) y = λ y. unique false 0 (at [] (bands xs) y) (at [] (bands ys) y) (row_at_ok 0 (bands xs) y k') (row_at_ok 0 (bands ys) y m') (λ x. sym (covers_tidy xs x y k) ∙ (e x y ∙ covers_tidy ys x y m)) in
    let all : bands xs ≡ bands ys = unique [] 0 (bands xs) (bands ys) (bands_ok 0 (bands xs) k') (bands_ok 0 (bands ys) m') rows in
    sym (boxes_bands xs) ∙ (ap boxes all ∙ boxes_bands ys)
