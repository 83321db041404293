-- Going along the rows of two pages.
use Rattle.std.proofs.Common.{◌≡◌, ℕ, zero, suc, ◌+◌, ◌*◌, ◌<◌, true, false, not, Bool, List, [], ◌∷◌, Some, length, get_or, take, drop, sym, refl, ap, ◌∙◌, zero-add, arith}
use Rattle.std.specs.List.{slice_get, zip, enumerate_from}
use Rattle.std.proofs.lemmas.List.FromFn.{length-enumerate_from, get_or-enumerate_from}
use Rattle.std.proofs.lemmas.Slice.Zip.{length-zip, get_or-zip}
use Rattle.std.proofs.lemmas.Option.{slice_get_read}
use Rattle.region_laws.specs.declared.rect.Rect.{Rect}
use Rattle.region_laws.specs.Boxes.{Places}
use Rattle.surface.specs.Hull.{grown, across, hull}
use Rattle.surface.proofs.Hulls.{across_more, across_skip, hull_more}
use Rattle.sheet.specs.Pages.{nth_page, alike, differs, row_differs}

front : {P : Type 0} (n x : ℕ) (ps : List P) → x < n → slice_get (take n ps) x ≡ slice_get ps x
front zero x ps h = absurd (omega arith)
front (suc n) x [] h = refl
front (suc n) zero (p ∷ ps) h = refl
front (suc n) (suc x) (p ∷ ps) h = front n x ps (omega arith)

behind : {P : Type 0} (k x : ℕ) (ps : List P) → slice_get (drop k ps) x ≡ slice_get ps (k + x)
behind zero x ps = ap (slice_get ps) (sym (zero-add x))
behind (suc k) x [] = refl
behind (suc k) x (p ∷ ps) = let e : suc (k + x) ≡ suc k + x = omega arith in behind k x ps ∙ ap (slice_get (p ∷ ps)) e

-- pixel x of row y
row_at : {P : Type 0} (page : List P) (w x y : ℕ) → x < w → slice_get (nth_page page w y) x ≡ slice_get page (y * w + x)
row_at page w x y h = front w x (drop (y * w) page) h ∙ behind (y * w) x page

-- places that agree along a row grow a box alike
across_same : (p q : Places) (y n : ℕ) (b : Rect) → ((x : ℕ) → x < n → p x y ≡ q x y) → across p y n b ≡ across q y n b
across_same p q y zero b h = refl
across_same p q y (suc n) b h =
    let e = h n (omega arith) in
    let r = across_same p q y n b (λ x i. h x (omega arith)) in
    simp (e, r)

-- one row more
pub page_more : {P : Type 0} (equal : P → P → Bool) (old new r s : List P) (w v y : ℕ) (f g : Rect) → r ≡ nth_page old w y → s ≡ nth_page new v y → length r ≡ w → v ≡ w
    → f ≡ hull (differs equal w old new) w y → g ≡ across (row_differs equal r s) y (length r) f → g ≡ hull (differs equal w old new) w (y + 1)
page_more equal old new r s w v y f g a b l same i j =
    let c : s ≡ nth_page new w y = b ∙ ap (λ m. nth_page new m y) same in
    hull_more (differs equal w old new) w y f g i (j ∙ ap (λ n. across (row_differs equal r s) y n f) l
    ∙ across_same (row_differs equal r s) (differs equal w old new) y w f
    (λ x h. ap (λ v. not (alike equal v (slice_get s x))) (ap (λ v. slice_get v x) a ∙ row_at old w x y h)
    ∙ ap (λ v. not (alike equal (slice_get old (y * w + x)) v)) (ap (λ v. slice_get v x) c ∙ row_at new w x y h)))

-- one turn along two rows of one length: the pixels a and b at place k
pub record Turn {P : Type 0} (old new : List P) (k x : ℕ) (a b : P) : Type 0 where
  pub number : x ≡ k
  pub left : slice_get old k ≡ Some a
  pub right : slice_get new k ≡ Some b

pub row_turn : {P : Type 0} (old new : List P) (k x : ℕ) (a b : P) → length new ≡ length old → k < length (enumerate_from 0 (zip old new))
    → (x, (a, b)) ≡ get_or (enumerate_from 0 (zip old new)) k (x, (a, b)) → Turn old new k x a b
row_turn {P} old new k x a b same few is =
    let n : k < length old = omega (arith, length-enumerate_from 0 (zip old new), length-zip old new) in
    let m : k < length new = omega arith in
    let z : k < length (zip old new) = omega (arith, length-zip old new) in
    let d : ℕ × (P × P) = (x, (a, b)) in
    let one : get_or (enumerate_from 0 (zip old new)) k d ≡ (0 + k, get_or (zip old new) k (a, b)) = get_or-enumerate_from 0 (zip old new) k d z in
    let two : get_or (zip old new) k (a, b) ≡ (get_or old k a, get_or new k b) = get_or-zip old new k (a, b) n m in
    let e : d ≡ (k, (get_or old k a, get_or new k b)) = cc (zero-add k, is, one, two) in
    record {
      number = ap (λ v. v.0) e;
      left = slice_get_read old _ k a refl n (ap (λ v. v.1.0) e);
      right = slice_get_read new _ k b refl m (ap (λ v. v.1.1) e);
    }

module _ {P : Type 0} (equal : P → P → Bool) (old new : List P) (y k n x : ℕ) (a b : P) (found reach : Rect) (t : Turn old new k x a b) (next : n ≡ k + 1) (so : reach ≡ across (row_differs equal old new) y k found) where
  here : row_differs equal old new k y ≡ not (equal a b)
  here = ap (λ v. not (alike equal v (slice_get new k))) t.left ∙ ap (λ v. not (alike equal (Some a) v)) t.right

  further : (r : Rect) → r ≡ across (row_differs equal old new) y (k + 1) found → r ≡ across (row_differs equal old new) y n found
  further r e = e ∙ ap (λ m. across (row_differs equal old new) y m found) (sym next)

  pub row_more : (wide : Rect) → equal a b ≡ false → wide ≡ grown reach x y → wide ≡ across (row_differs equal old new) y n found
  row_more wide e g = further wide (across_more (row_differs equal old new) y k found reach wide so (here ∙ ap not e) (g ∙ ap (λ m. grown reach m y) t.number))

  pub row_skip : equal a b ≡ true → reach ≡ across (row_differs equal old new) y n found
  row_skip e = further reach (across_skip (row_differs equal old new) y k found reach so (here ∙ ap not e))
