-- Sums of a weight over a region's boxes are sums over its pixels.
use Rattle.std.proofs.Common.{◌≡◌, ℕ, zero, suc, ◌+◌, ◌-◌, ◌*◌, ◌<◌, ◌≤◌, min, max, Bool, true, false, cond, ◌&&◌, ◌||◌, ltb, leb, ◌⊎◌, List, [], ◌∷◌, ◌++◌, length, get_or, take, drop, sym, refl, ap, ◌∙◌, inl, inr, suc-mul, mul_comm, zero-add, zero-mul, mul-one, arith}
use Rattle.std.proofs.lemmas.List.{at_drop_more, take_more}
use Rattle.std.proofs.lemmas.Bool.Decides.{nat_tests}
use Rattle.std.proofs.lemmas.Bool.{cases_lt, and_parts, cond_both, cond-true, false≢true}
use Rattle.region_laws.specs.Boxes.{no_box, inside}
use Rattle.region_laws.specs.Runs.{Run, at, Ok, tidy, reach}
use Rattle.region_laws.specs.Bands.{covers, Row, Band, same_row, same_bit, bit, good_row, banded, bands, boxes, row_boxes, farthest}
use Rattle.region_laws.specs.Listed.{wide, high}
use Rattle.region_laws.specs.Counted.{sum, box_sum, list_sum, area}
use Rattle.region_laws.specs.Laws.{FitsIn, EachOnce, Counts, StaysIn}
use Rattle.region_laws.specs.declared.rect.Rect.{Rect}
use Rattle.region_laws.proofs.Unique.{at_in, at_left, at_right, at_before}
use Rattle.region_laws.proofs.Tidy.{parts, row_at_ok, bands_ok, covers_tidy, boxes_bands, good_tidy}
use Rattle.region_laws.proofs.Push.{ok_reach}
use Rattle.region_laws.specs.Rules.{Sound}
use Rattle.region_laws.proofs.Pairs.{All, banded_all, banded_wide, banded_high}

pub sum_same : (f g : ℕ → ℕ) (a n : ℕ) → ((x : ℕ) → f x ≡ g x) → sum f a n ≡ sum g a n
sum_same f g a n e = λ i. sum (λ x. e x i) a n

pub sum_add : (f g : ℕ → ℕ) (a n : ℕ) → sum (λ x. f x + g x) a n ≡ sum f a n + sum g a n
sum_add f g a zero = refl
sum_add f g a (suc n) = let h = sum_add f g a n in omega arith

pub sum_none : (a n : ℕ) → sum (λ x. 0) a n ≡ 0
sum_none a zero = refl
sum_none a (suc n) = let h = sum_none a n in omega arith

pub sum_flat : (c a n : ℕ) → sum (λ x. c) a n ≡ n * c
sum_flat c a zero = sym (zero-mul c)
sum_flat c a (suc n) = let h = sum_flat c a n in let k = suc-mul n c in omega arith

pub sum_bound : (f : ℕ → ℕ) (c a n : ℕ) → ((x : ℕ) → f x ≤ c) → sum f a n ≤ n * c
sum_bound f c a zero k = omega arith
sum_bound f c a (suc n) k = let h = sum_bound f c a n k in let g = suc-mul n c in let u = k (a + n) in omega arith

-- over a stretch
sum_stretch : (f : ℕ → ℕ) (a b n : ℕ) → a ≤ b → sum (λ x. cond (leb a x && ltb x b) (f x) 0) 0 n ≡ sum f a (min n b - a)
sum_stretch f a b zero h = let e : min 0 b - a ≡ 0 = omega arith in ap (sum f a) (sym e)
sum_stretch f a b (suc n) h = ap (λ v. v + cond (leb a (0 + n) && ltb (0 + n) b) (f (0 + n)) 0) (sum_stretch f a b n h)
    ∙ (ap (λ m. sum f a (min n b - a) + cond (leb a m && ltb m b) (f m) 0) (zero-add n) ∙ go (cases_lt n a) (cases_lt n b))
  where
    go : (n < a) ⊎ (a ≤ n) → (n < b) ⊎ (b ≤ n) → sum f a (min n b - a) + cond (leb a n && ltb n b) (f n) 0 ≡ sum f a (min (suc n) b - a)
    go (inl p) q =
        let e : min n b - a ≡ min (suc n) b - a = omega arith in
        let z : cond (leb a n && ltb n b) (f n) 0 ≡ 0 = grind (arith, nat_tests) in
        let g = ap (sum f a) e in
        omega arith
    go (inr p) (inl q) =
        let e : min (suc n) b - a ≡ suc (n - a) = omega arith in
        let m : min n b - a ≡ n - a = omega arith in
        let z : cond (leb a n && ltb n b) (f n) 0 ≡ f n = grind (arith, nat_tests) in
        let k : f (a + (n - a)) ≡ f n = ap f (omega arith) in
        let g = ap (sum f a) e in
        let i = ap (sum f a) m in
        omega arith
    go (inr p) (inr q) =
        let e : min n b - a ≡ min (suc n) b - a = omega arith in
        let z : cond (leb a n && ltb n b) (f n) 0 ≡ 0 = grind (arith, nat_tests) in
        let g = ap (sum f a) e in
        omega arith

module _ {V : Type 0} (none : V) (g : ℕ → V → ℕ) (zer : (x : ℕ) → g x none ≡ 0) where
  -- the sum of a weight over runs
  abbrev pub weigh : List (Run V) → ℕ
  weigh [] = 0
  weigh (r ∷ rs) = sum (λ x. g x r.what) r.from (r.to - r.from) + weigh rs

  -- the sum over a function's values, by its runs
  pub sum_runs : (low : ℕ) (rs : List (Run V)) (n : ℕ) → Ok none low rs → reach rs ≤ n → sum (λ x. g x (at none rs x)) 0 n ≡ weigh rs
  sum_runs low [] n k h = sum_same (λ x. g x none) (λ x. 0) 0 n zer ∙ sum_none 0 n
  sum_runs low (r ∷ rs) n k h =
      let e = ok_reach none low r rs k in
      let ih = sum_runs r.to rs n k.4 (rest rs k.4 h) in
      let s = sum_stretch (λ x. g x r.what) r.from r.to n (omega arith) in
      let m : min n r.to - r.from ≡ r.to - r.from = omega arith in
      sum_same (λ x. g x (at none (r ∷ rs) x)) (λ x. cond (leb r.from x && ltb x r.to) (g x r.what) 0 + g x (at none rs x)) 0 n split
      ∙ (sum_add (λ x. cond (leb r.from x && ltb x r.to) (g x r.what) 0) (λ x. g x (at none rs x)) 0 n
      ∙ (λ i. (s ∙ ap (sum (λ x. g x r.what) r.from) m) i + ih i))
    where
      rest : (ss : List (Run V)) → Ok none r.to ss → reach (r ∷ ss) ≤ n → reach ss ≤ n
      rest [] k h = omega arith
      rest (s ∷ ss) k h = h

      split : (x : ℕ) → g x (at none (r ∷ rs) x) ≡ cond (leb r.from x && ltb x r.to) (g x r.what) 0 + g x (at none rs x)
      split x = go (cases_lt x r.from) (cases_lt x r.to)
        where
          go : (x < r.from) ⊎ (r.from ≤ x) → (x < r.to) ⊎ (r.to ≤ x) → g x (at none (r ∷ rs) x) ≡ cond (leb r.from x && ltb x r.to) (g x r.what) 0 + g x (at none rs x)
          go (inl p) q = let e = ap (g x) (at_left none r rs x p) in let z : cond (leb r.from x && ltb x r.to) (g x r.what) 0 ≡ 0 = grind (arith, nat_tests) in omega arith
          go (inr p) (inl q) = let e = ap (g x) (at_in none r rs x p q) in let f = ap (g x) (at_before none r.to rs x k.4 q) in let u = zer x in let z : cond (leb r.from x && ltb x r.to) (g x r.what) 0 ≡ g x r.what = grind (arith, nat_tests) in omega arith
          go (inr p) (inr q) = let e = ap (g x) (at_right none r rs x q) in let z : cond (leb r.from x && ltb x r.to) (g x r.what) 0 ≡ 0 = grind (arith, nat_tests) in omega arith

-- one row's sum
abbrev bit_sum : (ℕ → ℕ → ℕ) → ℕ → ℕ → Bool → ℕ
bit_sum f y x b = cond b (f x y) 0

abbrev row_sum : (ℕ → ℕ → ℕ) → ℕ → Row → ℕ
row_sum f y r = weigh false (bit_sum f y) (λ x. refl) r

pub list_append : (f : ℕ → ℕ → ℕ) (xs ys : List Rect) → list_sum f (xs ++ ys) ≡ list_sum f xs + list_sum f ys
list_append f [] ys = omega arith
list_append f (b ∷ bs) ys = let h = list_append f bs ys in omega arith

row_boxes_lem : (f : ℕ → ℕ → ℕ) (low t b : ℕ) (r : Row) → tidy same_bit bit low r ≡ true → list_sum f (row_boxes t b r) ≡ sum (λ y. row_sum f y r) t (b - t)
row_boxes_lem f low t b [] k = sym (sum_none t (b - t))
row_boxes_lem f low t b (s ∷ ss) k =
    let p = parts same_bit bit low s ss k in
    let h = row_boxes_lem f s.to t b ss p.rest in
    let w : s.what ≡ true = p.fine in
    let e : sum (λ y. sum (λ x. f x y) s.from (s.to - s.from)) t (b - t) ≡ sum (λ y. sum (λ x. bit_sum f y x s.what) s.from (s.to - s.from)) t (b - t)
    = λ i. sum (λ y. sum (λ x. sym (cond-true s.what (f x y) 0 w) i) s.from (s.to - s.from)) t (b - t) in
    let a = sum_add (λ y. sum (λ x. bit_sum f y x s.what) s.from (s.to - s.from)) (λ y. row_sum f y ss) t (b - t) in
    (λ i. e i + h i) ∙ sym a

band_boxes : (f : ℕ → ℕ → ℕ) (low : ℕ) (bs : List Band) → tidy same_row good_row low bs ≡ true → list_sum f (boxes bs) ≡ weigh [] (λ y r. row_sum f y r) (λ y. refl) bs
band_boxes f low [] k = refl
band_boxes f low (b ∷ bs) k =
    let p = parts same_row good_row low b bs k in
    list_append f (row_boxes b.from b.to b.what) (boxes bs)
    ∙ (λ i. row_boxes_lem f 0 b.from b.to b.what (good_tidy b.what p.fine) i + band_boxes f b.to bs p.rest i)

wide-append : (xs ys : List Rect) → wide (xs ++ ys) ≡ max (wide xs) (wide ys)
wide-append [] ys = omega arith
wide-append (x ∷ xs) ys = let h = wide-append xs ys in omega arith

high-append : (xs ys : List Rect) → high (xs ++ ys) ≡ max (high xs) (high ys)
high-append [] ys = omega arith
high-append (x ∷ xs) ys = let h = high-append xs ys in omega arith

row_wide : (t b : ℕ) (r : Row) → reach r ≤ wide (row_boxes t b r)
row_wide t b [] = omega arith
row_wide t b (s ∷ []) = omega arith
row_wide t b (s ∷ u ∷ us) = let h = row_wide t b (u ∷ us) in omega arith

at_wide : (bs : List Band) (y : ℕ) → reach (at [] bs y) ≤ wide (boxes bs)
at_wide [] y = omega arith
at_wide (b ∷ bs) y =
    let a = wide-append (row_boxes b.from b.to b.what) (boxes bs) in
    let h = at_wide bs y in
    let g = row_wide b.from b.to b.what in
    cond_both (leb b.from y && ltb y b.to) b.what (at [] bs y) (λ v. reach v ≤ wide (boxes (b ∷ bs))) (λ _. omega arith) (λ _. omega arith)

row_high : (t b : ℕ) (r : Row) → good_row r ≡ true → b ≤ high (row_boxes t b r)
row_high t b [] k = absurd (false≢true k)
row_high t b (s ∷ ss) k = omega arith

pub bands_high : (same : Row → Row → Bool) (low : ℕ) (bs : List Band) → tidy same good_row low bs ≡ true → reach bs ≤ high (boxes bs)
bands_high same low [] k = omega arith
bands_high same low (b ∷ []) k =
    let p = parts same good_row low b [] k in
    let a = high-append (row_boxes b.from b.to b.what) [] in
    let h = row_high b.from b.to b.what p.fine in
    omega arith
bands_high same low (b ∷ c ∷ cs) k =
    let p = parts same good_row low b (c ∷ cs) k in
    let a = high-append (row_boxes b.from b.to b.what) (boxes (c ∷ cs)) in
    let h = bands_high same b.to (c ∷ cs) p.rest in
    omega arith

-- a weight summed over the boxes, box by box, row by row, pixel by pixel, is summed over the set, each pixel once
pub each_once : (bs : List Rect) → banded bs ≡ true → EachOnce bs
each_once bs k w h f fit =
    let t = (and_parts (tidy same_row good_row 0 (bands bs)) (leb (reach (bands bs)) farthest) k).0 in
    let b = boxes_bands bs in
    let bw = ap wide b in
    let bh = ap high b in
    let inner : (y : ℕ) → sum (λ x. cond (covers bs x y) (f x y) 0) 0 w ≡ row_sum f y (at [] (bands bs) y) = λ y.
    sum_same (λ x. cond (covers bs x y) (f x y) 0) (λ x. bit_sum f y x (at false (at [] (bands bs) y) x)) 0 w (λ x. ap (bit_sum f y x) (covers_tidy bs x y k))
    ∙ (let u = at_wide (bands bs) y in sum_runs false (bit_sum f y) (λ x. refl) 0 (at [] (bands bs) y) w (row_at_ok 0 (bands bs) y t) (omega arith)) in
    let u = bands_high same_row 0 (bands bs) t in
    let outer = sum_runs [] (λ y r. row_sum f y r) (λ y. refl) 0 (bands bs) h (bands_ok 0 (bands bs) t) (omega arith) in
    ap (list_sum f) (sym b) ∙ (band_boxes f 0 (bands bs) t ∙ (sym outer ∙ sym (sum_same (λ y. sum (λ x. cond (covers bs x y) (f x y) 0) 0 w) (λ y. row_sum f y (at [] (bands bs) y)) 0 h inner)))

-- the area is the weight 1
pub area_sum : (bs : List Rect) → area bs ≡ list_sum (λ x y. 1) bs
area_sum [] = refl
area_sum (b ∷ bs) =
    let h = area_sum bs in
    let e : box_sum (λ x y. 1) b ≡ (b.bottom - b.top) * ((b.right - b.left) * 1) = ap (λ v. sum (λ y. v) b.top (b.bottom - b.top)) (sum_flat 1 b.left (b.right - b.left)) ∙ sum_flat ((b.right - b.left) * 1) b.top (b.bottom - b.top) in
    let o = mul-one (b.right - b.left) in
    let c = mul_comm (b.right - b.left) (b.bottom - b.top) in
    let d : (b.bottom - b.top) * ((b.right - b.left) * 1) ≡ (b.bottom - b.top) * (b.right - b.left) = ap (λ v. (b.bottom - b.top) * v) o in
    omega arith

pub counts : (bs : List Rect) → banded bs ≡ true → Counts bs
counts bs k w h fit = area_sum bs ∙ each_once bs k w h (λ x y. 1) fit

-- at most the display's pixels
pub area_within : (bs : List Rect) (w h : ℕ) → banded bs ≡ true → FitsIn w h bs → area bs ≤ h * (w * 1)
area_within bs w h k fit =
    let c = counts bs k w h fit in
    let s = sum_bound (λ y. sum (λ x. cond (covers bs x y) 1 0) 0 w) (w * 1) 0 h
    (λ y. sum_bound (λ x. cond (covers bs x y) 1 0) 1 0 w (λ x. cond_both (covers bs x y) 1 0 (λ v. v ≤ 1) (λ _. omega arith) (λ _. omega arith))) in
    omega arith

pub area_bound : (bs : List Rect) → banded bs ≡ true → area bs ≤ 1048576
area_bound bs k = area_within bs 1024 1024 k (banded_wide bs k, banded_high bs k)

-- a list whose pixels lie in a display has its boxes in it
stays : (bs : List Rect) (w h : ℕ) → All Sound bs → ((x y : ℕ) → covers bs x y ≡ true → (x < w) × (y < h)) → FitsIn w h bs
stays [] w h k f = (omega arith, omega arith)
stays (b ∷ bs) w h k f =
    let ih = stays bs w h k.1 (λ x y c. f x y (later (inside b x y) (covers bs x y) c)) in
    let wd = k.0.wide in
    let hg = k.0.high in
    let c : inside b (b.right - 1) (b.bottom - 1) ≡ true = grind (arith, nat_tests) in
    let p = f (b.right - 1) (b.bottom - 1) (ap (λ v. v || covers bs (b.right - 1) (b.bottom - 1)) c) in
    let px = p.0 in
    let py = p.1 in
    let i = ih.0 in
    let j = ih.1 in
    (omega arith, omega arith)
  where
    later : (a c : Bool) → c ≡ true → (a || c) ≡ true
    later true c e = refl
    later false c e = e

pub stays_in : (bs : List Rect) → banded bs ≡ true → StaysIn bs
stays_in bs k w h f = stays bs w h (banded_all bs k) f

-- a sum over the boxes, box by box: what is left of it
pub area_left : (bs : List Rect) (i : ℕ) → i < length bs → area (drop i bs) ≡ ((get_or bs i no_box).right - (get_or bs i no_box).left) * ((get_or bs i no_box).bottom - (get_or bs i no_box).top) + area (drop (i + 1) bs)
area_left bs i h = at_drop_more area bs i no_box h

-- a box more, as a loop over the boxes has it
pub list_more : (f : ℕ → ℕ → ℕ) (bs : List Rect) (i : ℕ) → i < length bs → list_sum f (take (i + 1) bs) ≡ list_sum f (take i bs) + box_sum f (get_or bs i no_box)
list_more f bs i h =
    let e = ap (list_sum f) (take_more bs i no_box h) in
    let a = list_append f (take i bs) (get_or bs i no_box ∷ []) in
    omega arith

-- each box of a list that lies in a display lies in it
pub box_in : (bs : List Rect) (w h i : ℕ) → FitsIn w h bs → i < length bs → ((get_or bs i no_box).right ≤ w) × ((get_or bs i no_box).bottom ≤ h)
box_in [] w h i f l = absurd (omega arith)
box_in (b ∷ bs) w h zero f l = let p = f.0 in let q = f.1 in (omega arith, omega arith)
box_in (b ∷ bs) w h (suc i) f l = let p = f.0 in let q = f.1 in box_in bs w h i (omega arith, omega arith) (omega arith)
