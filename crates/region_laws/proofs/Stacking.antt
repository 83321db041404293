-- The steps by which a row is put under the boxes so far: lowered, compared, written box by box.
use Rattle.std.proofs.Common.{◌≡◌, ℕ, suc, ◌+◌, ◌-◌, ◌<◌, ◌≤◌, Bool, true, false, ◌&&◌, eqb, leb, ◌≢◌, ◌⊎◌, List, [], ◌∷◌, ◌++◌, length, get_or, take, drop, set, replicate, sym, refl, ap, ◌∙◌, inl, inr, append_assoc, arith}
use Rattle.std.proofs.lemmas.Bool.{le-leb, cases_Bool, cond-true, cond-false, eq-eqb, ne_eqb}
use Rattle.std.proofs.lemmas.List.{take_more, take_more_set, drop_more, drop-set-lt, take_all, drop_all, drop-take, length-take, length-drop, length-append, take-take, get_or-take, drop-drop, drop-replicate}
use Rattle.std.proofs.lemmas.Slice.{take-put_mid, drop-put_mid}
use borrow.Rule.Slice.PartMut.{put_mid}
use Rattle.region_laws.specs.Bands.{Row, same_row, row_boxes}
use Rattle.region_laws.specs.Spans.{spans}
use Rattle.region_laws.specs.Boxes.{box, no_box}
use Rattle.region_laws.specs.Stacked.{lowered, ends_at, goes_on, stacked, start_of_last}
use Rattle.region_laws.specs.declared.rect.Rect.{Rect}
use Rattle.region_laws.proofs.Tidy.{same_row_true}
use Rattle.region_laws.proofs.Extend.{spans-append}

-- lower: the front is done, the back is as it was
pub record Lowering (old bs : List Rect) (u i : ℕ) : Type 0 where
  pub front : take i bs ≡ lowered u (take i old)
  pub back : drop i bs ≡ drop i old

abbrev pub low1 : ℕ → Rect → Rect
low1 u b = record { left = b.left; top = b.top; right = b.right; bottom = u }

lowered-append : (u : ℕ) (xs ys : List Rect) → lowered u (xs ++ ys) ≡ lowered u xs ++ lowered u ys
lowered-append u [] ys = refl
lowered-append u (x ∷ xs) ys = ap (λ v. low1 u x ∷ v) (lowered-append u xs ys)

pub lowering_none : (old : List Rect) (u : ℕ) → Lowering old old u 0
lowering_none old u = record { front = refl; back = refl }

pub lowering_more : (old bs : List Rect) (u i : ℕ) → i < length bs → i < length old → Lowering old bs u i → Lowering old (set bs i (low1 u (get_or bs i no_box))) u (i + 1)
lowering_more old bs u i h k w =
    let p = drop_more bs i no_box h in
    let q = drop_more old i no_box k in
    let b = w.back in
    let e : get_or bs i no_box ≡ get_or old i no_box = cc in
    let d : drop (i + 1) bs ≡ drop (i + 1) old = cc in
    record {
      front = take_more_set bs i (low1 u (get_or bs i no_box)) h
          ∙ (ap (λ v. v ++ low1 u (get_or bs i no_box) ∷ []) w.front
          ∙ (ap (λ v. lowered u (take i old) ++ low1 u v ∷ []) e
          ∙ (sym (lowered-append u (take i old) (get_or old i no_box ∷ [])) ∙ ap (lowered u) (sym (take_more old i no_box k)))));
      back = drop-set-lt (i + 1) bs i (low1 u (get_or bs i no_box)) (omega arith) ∙ d;
    }

pub lowering_all : (old bs : List Rect) (u i : ℕ) → length bs ≤ i → length old ≤ i → Lowering old bs u i → bs ≡ lowered u old
lowering_all old bs u i h k w = sym (take_all i bs h) ∙ (w.front ∙ ap (lowered u) (take_all i old k))

-- same_spans
pub same_more : (xs ys : List Rect) (i : ℕ) → i < length xs → i < length ys
    → same_row (spans (drop i xs)) (spans (drop i ys))
    ≡ (eqb (get_or xs i no_box).left (get_or ys i no_box).left && (eqb (get_or xs i no_box).right (get_or ys i no_box).right && same_row (spans (drop (i + 1) xs)) (spans (drop (i + 1) ys))))
same_more xs ys i h k = ap (λ v. same_row (spans v) (spans (drop i ys))) (drop_more xs i no_box h) ∙ ap (λ v. same_row (spans (get_or xs i no_box ∷ drop (i + 1) xs)) (spans v)) (drop_more ys i no_box k)

pub same_all : (xs ys : List Rect) (i : ℕ) → length xs ≤ i → length ys ≤ i → same_row (spans (drop i xs)) (spans (drop i ys)) ≡ true
same_all xs ys i h k = ap (λ v. same_row (spans v) (spans (drop i ys))) (drop_all i xs h) ∙ ap (λ v. same_row [] (spans v)) (drop_all i ys k)

length-spans : (xs : List Rect) → length (spans xs) ≡ length xs
length-spans [] = refl
length-spans (x ∷ xs) = ap suc (length-spans xs)

pub same_length : (xs ys : List Rect) → length xs ≢ length ys → false ≡ same_row (spans xs) (spans ys)
same_length xs ys n = go (cases_Bool (same_row (spans xs) (spans ys)))
  where
    go : (same_row (spans xs) (spans ys) ≡ true) ⊎ (same_row (spans xs) (spans ys) ≡ false) → false ≡ same_row (spans xs) (spans ys)
    go (inl t) = absurd (n (sym (length-spans xs) ∙ (ap length (same_row_true (spans xs) (spans ys) t) ∙ length-spans ys)))
    go (inr f) = sym f

-- stack
row_boxes-append : (t u : ℕ) (xs ys : Row) → row_boxes t u (xs ++ ys) ≡ row_boxes t u xs ++ row_boxes t u ys
row_boxes-append t u [] ys = refl
row_boxes-append t u (x ∷ xs) ys = ap (λ v. record { left = x.from; top = t; right = x.to; bottom = u } ∷ v) (row_boxes-append t u xs ys)

pub length-lowered : (u : ℕ) (xs : List Rect) → length (lowered u xs) ≡ length xs
length-lowered u [] = refl
length-lowered u (x ∷ xs) = ap suc (length-lowered u xs)

-- the part of a list from s up to n
pub part_is : (bs : List Rect) (s n : ℕ) → s ≤ n → drop s (take n bs) ≡ take (n - s) (drop s bs)
part_is bs s n h = let e : n ≡ s + (n - s) = omega arith in ap (λ m. drop s (take m bs)) e ∙ drop-take s (n - s) bs

pub lengthen_is : (bs new : List Rect) (s n u : ℕ) → s ≤ n → n ≤ length bs → new ≡ lowered u (take (n - s) (drop s bs))
    → take n (put_mid s (n - s) bs new) ≡ take s (take n bs) ++ lowered u (drop s (take n bs))
lengthen_is bs new s n u h k e =
    let l : length new ≡ n - s = ap length e ∙ (length-lowered u (take (n - s) (drop s bs)) ∙ simp (length-take, length-drop) (omega arith)) in
    take-put_mid s (n - s) bs new n (omega arith) (omega arith)
    ∙ (ap (λ v. v ++ new) (sym (take-take s n bs h)) ∙ ap (λ v. take s (take n bs) ++ v) (e ∙ ap (lowered u) (sym (part_is bs s n h))))

-- goes_on
pub ends_none : (bs : List Rect) (s n t : ℕ) → s ≡ n → ends_at (drop s (take n bs)) t ≡ false
ends_none bs s n t e = ap (λ v. ends_at v t) (drop_all s (take n bs) (simp length-take (omega arith)))

pub ends_is : (bs : List Rect) (s n t : ℕ) → s < n → n ≤ length bs → ends_at (drop s (take n bs)) t ≡ eqb (get_or bs s no_box).bottom t
ends_is bs s n t h k =
    let l : s < length (take n bs) = simp length-take (omega arith) in
    ap (λ v. ends_at v t) (drop_more (take n bs) s no_box l) ∙ ap (λ b. eqb b.bottom t) (get_or-take n bs s no_box h)

pub goes_is : (bs row : List Rect) (s n m t : ℕ) (r : Bool) → s < n → n ≤ length bs → (get_or bs s no_box).bottom ≡ t
    → r ≡ same_row (spans (take (n - s) (drop s bs))) (spans (take (m - 0) row))
    → r ≡ (ends_at (drop s (take n bs)) t && same_row (spans (drop s (take n bs))) (spans (take m row)))
goes_is bs row s n m t r h k b e =
    let z : m - 0 ≡ m = omega arith in
    let f : ends_at (drop s (take n bs)) t ≡ true = ends_is bs s n t h k ∙ eq-eqb (get_or bs s no_box).bottom t b in
    e ∙ (ap (λ v. same_row (spans v) (spans (take (m - 0) row))) (sym (part_is bs s n (omega arith))) ∙ (ap (λ v. same_row (spans (drop s (take n bs))) (spans (take v row))) z ∙ ap (λ v. v && same_row (spans (drop s (take n bs))) (spans (take m row))) (sym f)))

pub goes_not : (bs : List Rect) (row : Row) (s n t : ℕ) → s < n → n ≤ length bs → ((get_or bs s no_box).bottom ≡ t → ⊥) → false ≡ (ends_at (drop s (take n bs)) t && same_row (spans (drop s (take n bs))) row)
goes_not bs row s n t h k b = ap (λ v. v && same_row (spans (drop s (take n bs))) row) (sym (ends_is bs s n t h k ∙ ne_eqb (get_or bs s no_box).bottom t b))

-- the unused boxes stay (0, 0, 0, 0): after a box is put behind the others, and after a part of them is written
pub rest_set : (bs : List Rect) (n : ℕ) (b : Rect) → drop n bs ≡ replicate (32 - n) no_box → drop (n + 1) (set bs n b) ≡ replicate (32 - (n + 1)) no_box
rest_set bs n b e =
    let f : 32 - n - 1 ≡ 32 - (n + 1) = omega arith in
    drop-set-lt (n + 1) bs n b (omega arith) ∙ (sym (drop-drop 1 n bs) ∙ (ap (drop 1) e ∙ (drop-replicate 1 (32 - n) no_box ∙ ap (λ m. replicate m no_box) f)))

pub rest_part : (bs new : List Rect) (s n u : ℕ) → s ≤ n → n ≤ length bs → new ≡ lowered u (take (n - s) (drop s bs)) → drop n (put_mid s (n - s) bs new) ≡ drop n bs
rest_part bs new s n u h k e =
    let l : length new ≡ n - s = ap length e ∙ (length-lowered u (take (n - s) (drop s bs)) ∙ simp (length-take, length-drop) (omega arith)) in
    drop-put_mid s (n - s) bs new n (omega arith) (omega arith) l

-- a band is written box by box
pub band_more : (old now row : List Rect) (k t u : ℕ) → k < length row → now ≡ old ++ row_boxes t u (spans (take k row))
    → now ++ box (get_or row k no_box).left t (get_or row k no_box).right u ∷ [] ≡ old ++ row_boxes t u (spans (take (k + 1) row))
band_more old now row k t u i e =
    let new : Rect = box (get_or row k no_box).left t (get_or row k no_box).right u in
    ap (λ v. v ++ new ∷ []) e
    ∙ (append_assoc old (row_boxes t u (spans (take k row))) (new ∷ [])
    ∙ ap (λ v. old ++ v) (sym (ap (λ v. row_boxes t u (spans v)) (take_more row k no_box i) ∙ (ap (row_boxes t u) (spans-append (take k row) (get_or row k no_box ∷ [])) ∙ row_boxes-append t u (spans (take k row)) (spans (get_or row k no_box ∷ []))))))

-- how many boxes there then are
pub length-row_boxes : (t u : ℕ) (r : Row) → length (row_boxes t u r) ≡ length r
length-row_boxes t u [] = refl
length-row_boxes t u (s ∷ ss) = ap suc (length-row_boxes t u ss)

-- one more row that is not empty
pub stacked_on : (bs : List Rect) (s : ℕ) (row : Row) (t u : ℕ) → row ≢ [] → goes_on bs s row t ≡ true → (stacked bs s row t u ≡ take s bs ++ lowered u (drop s bs)) × (start_of_last bs s row t ≡ s)
stacked_on bs s [] t u n g = absurd (n refl)
stacked_on bs s (r ∷ rs) t u n g = (cond-true _ _ _ g, cond-true _ _ _ g)

pub stacked_under : (bs : List Rect) (s : ℕ) (row : Row) (t u : ℕ) → row ≢ [] → goes_on bs s row t ≡ false → (stacked bs s row t u ≡ bs ++ row_boxes t u row) × (start_of_last bs s row t ≡ length bs)
stacked_under bs s [] t u n g = absurd (n refl)
stacked_under bs s (r ∷ rs) t u n g = (cond-false _ _ _ g, cond-false _ _ _ g)

-- whether it fits
pub fits_none : (bs : List Rect) (s : ℕ) (row : Row) (t u : ℕ) → length bs ≤ 32 → row ≡ [] → (true ≡ leb (length (stacked bs s row t u)) 32) × (bs ≡ stacked bs s row t u) × (s ≡ start_of_last bs s row t)
fits_none bs s [] t u h e = (sym (le-leb (length bs) 32 h), refl, refl)
fits_none bs s (r ∷ rs) t u h e = let z : ◌≡◌ {A = ℕ} 0 1 = cc in absurd (omega arith)

pub fits_on : (bs : List Rect) (s : ℕ) (row : Row) (t u : ℕ) → row ≢ [] → goes_on bs s row t ≡ true → length bs ≤ 32 → true ≡ leb (length (stacked bs s row t u)) 32
fits_on bs s row t u n g h =
    let e = ap length (stacked_on bs s row t u n g).0 in
    let a = length-append (take s bs) (lowered u (drop s bs)) in
    let b = length-lowered u (drop s bs) in
    let c = length-take s bs in
    let d = length-drop s bs in
    sym (le-leb (length (stacked bs s row t u)) 32 (omega arith))

pub fits_under : (bs : List Rect) (s : ℕ) (row : Row) (t u : ℕ) → row ≢ [] → goes_on bs s row t ≡ false → leb (length bs + length row) 32 ≡ leb (length (stacked bs s row t u)) 32
fits_under bs s row t u n g =
    let e = ap length (stacked_under bs s row t u n g).0 in
    let a = length-append bs (row_boxes t u row) in
    let b = length-row_boxes t u row in
    let f : length bs + length row ≡ length (stacked bs s row t u) = omega arith in
    ap (λ m. leb m 32) f

pub length_front : (bs : List Rect) (n : ℕ) → n ≤ length bs → length (take n bs) ≡ n
length_front bs n h = let e = length-take n bs in omega arith

pub length-span : (bs : List Rect) (n : ℕ) → n ≤ length bs → length (spans (take n bs)) ≡ n
length-span bs n h = length-spans (take n bs) ∙ length_front bs n h

-- a strip's row is empty just where it has no box
pub strip_none : (bs : List Rect) (n : ℕ) → n ≡ 0 → spans (take n bs) ≡ []
strip_none bs n e = ap (λ m. spans (take m bs)) e

pub strip_some : (bs : List Rect) (n : ℕ) → n ≤ length bs → (n ≡ 0 → ⊥) → spans (take n bs) ≢ []
strip_some bs n h z e = let f = length-span bs n h in let g = ap length e in absurd (z (omega arith))
