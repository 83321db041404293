-- One more span behind the others of a row, and what it does to the row that a list of boxes holds.
use Rattle.std.proofs.Common.{◌≡◌, ℕ, ◌+◌, ◌-◌, ◌<◌, ◌≤◌, max, Bool, true, false, cond, ◌&&◌, ◌||◌, ltb, leb, ◌≢◌, ◌⊎◌, List, [], ◌∷◌, ◌++◌, length, get_or, take, set, sym, refl, ap, ◌∙◌, subst, inl, inr, append_assoc, arith}
use Rattle.std.proofs.lemmas.Bool.Decides.{nat_tests}
use Rattle.std.proofs.lemmas.Bool.{cond-true, cond-false, lt-ltb, le-ltb, cond_both, ltb-true, ltb-false, true≢false}
use Rattle.std.proofs.lemmas.List.{take_more, take_more_set}
use Rattle.region_laws.specs.Runs.{Run, run, at, Ok, Apart}
use Rattle.region_laws.specs.Bands.{Row}
use Rattle.region_laws.specs.Spans.{spans, extend}
use Rattle.region_laws.specs.declared.rect.Rect.{Rect}

pub spans-append : (xs ys : List Rect) → spans (xs ++ ys) ≡ spans xs ++ spans ys
spans-append [] ys = refl
spans-append (x ∷ xs) ys = ap (λ v. run x.left x.right true ∷ v) (spans-append xs ys)

pub extend_snoc : (rs : Row) (s : Run Bool) (l r : ℕ) → extend (rs ++ s ∷ []) l r ≡ rs ++ extend (s ∷ []) l r
extend_snoc [] s l r = refl
extend_snoc (p ∷ []) s l r = refl
extend_snoc (p ∷ q ∷ rs) s l r = ap (λ v. p ∷ v) (extend_snoc (q ∷ rs) s l r)

abbrev pub span_of : Rect → Run Bool
span_of b = run b.left b.right true

pub take_last : (bs : List Rect) (n : ℕ) (d : Rect) → 0 < n → n ≤ length bs → take n bs ≡ take (n - 1) bs ++ get_or bs (n - 1) d ∷ []
take_last bs n d p q = let e : n - 1 + 1 ≡ n = omega arith in let h : n - 1 < length bs = omega arith in ap (λ k. take k bs) (sym e) ∙ take_more bs (n - 1) d h

pub take_last_set : (bs : List Rect) (n : ℕ) (b : Rect) → 0 < n → n ≤ length bs → take n (set bs (n - 1) b) ≡ take (n - 1) bs ++ b ∷ []
take_last_set bs n b p q = let e : n - 1 + 1 ≡ n = omega arith in let h : n - 1 < length bs = omega arith in ap (λ k. take k (set bs (n - 1) b)) (sym e) ∙ take_more_set bs (n - 1) b h

-- what extend does to the row of a list, by its last box
pub extend_last : (bs : List Rect) (n : ℕ) (d : Rect) (l r : ℕ) → 0 < n → n ≤ length bs
    → extend (spans (take n bs)) l r ≡ spans (take (n - 1) bs) ++ extend (span_of (get_or bs (n - 1) d) ∷ []) l r
extend_last bs n d l r p q =
    ap (λ v. extend (spans v) l r) (take_last bs n d p q) ∙ (ap (λ v. extend v l r) (spans-append (take (n - 1) bs) (get_or bs (n - 1) d ∷ [])) ∙ extend_snoc (spans (take (n - 1) bs)) (span_of (get_or bs (n - 1) d)) l r)

pub add_behind : (bs : List Rect) (n : ℕ) (d : Rect) (l r t b : ℕ) → n < length bs → ((n ≡ 0) ⊎ ((0 < n) × ((get_or bs (n - 1) d).right < l)))
    → spans (take (n + 1) (set bs n record { left = l; top = t; right = r; bottom = b })) ≡ extend (spans (take n bs)) l r
add_behind bs n d l r t b q k = ap spans (take_more_set bs n record { left = l; top = t; right = r; bottom = b } q) ∙ (spans-append (take n bs) (record { left = l; top = t; right = r; bottom = b } ∷ []) ∙ go k)
  where
    go : ((n ≡ 0) ⊎ ((0 < n) × ((get_or bs (n - 1) d).right < l))) → spans (take n bs) ++ run l r true ∷ [] ≡ extend (spans (take n bs)) l r
    go (inl e) = subst (λ (m : ℕ). spans (take m bs) ++ run l r true ∷ [] ≡ extend (spans (take m bs)) l r) (sym e) refl
    go (inr h) =
        let front = spans (take (n - 1) bs) in
        let e : spans (take n bs) ≡ front ++ span_of (get_or bs (n - 1) d) ∷ [] = ap spans (take_last bs n d h.0 (omega arith)) ∙ spans-append (take (n - 1) bs) (get_or bs (n - 1) d ∷ []) in
        let f : extend (span_of (get_or bs (n - 1) d) ∷ []) l r ≡ span_of (get_or bs (n - 1) d) ∷ run l r true ∷ [] = cond-true _ _ _ (lt-ltb _ _ h.1) in
        ap (λ v. v ++ run l r true ∷ []) e ∙ (append_assoc front (span_of (get_or bs (n - 1) d) ∷ []) (run l r true ∷ []) ∙ (ap (λ v. front ++ v) (sym f) ∙ sym (extend_last bs n d l r h.0 (omega arith))))

pub add_longer : (bs : List Rect) (n : ℕ) (d : Rect) (l r t b : ℕ) → 0 < n → n ≤ length bs → l ≤ (get_or bs (n - 1) d).right → (get_or bs (n - 1) d).right < r
    → spans (take n (set bs (n - 1) record { left = (get_or bs (n - 1) d).left; top = t; right = r; bottom = b })) ≡ extend (spans (take n bs)) l r
add_longer bs n d l r t b p q g h =
    let new : Rect = record { left = (get_or bs (n - 1) d).left; top = t; right = r; bottom = b } in
    let f : extend (span_of (get_or bs (n - 1) d) ∷ []) l r ≡ run (get_or bs (n - 1) d).left (max (get_or bs (n - 1) d).right r) true ∷ [] = cond-false _ _ _ (le-ltb _ _ g) in
    let m : max (get_or bs (n - 1) d).right r ≡ r = omega arith in
    ap spans (take_last_set bs n new p q) ∙ (spans-append (take (n - 1) bs) (new ∷ []) ∙ (ap (λ v. spans (take (n - 1) bs) ++ run (get_or bs (n - 1) d).left v true ∷ []) (sym m) ∙ (ap (λ v. spans (take (n - 1) bs) ++ v) (sym f) ∙ sym (extend_last bs n d l r p q))))

pub add_held : (bs : List Rect) (n : ℕ) (d : Rect) (l r : ℕ) → 0 < n → n ≤ length bs → l ≤ (get_or bs (n - 1) d).right → r ≤ (get_or bs (n - 1) d).right
    → spans (take n bs) ≡ extend (spans (take n bs)) l r
add_held bs n d l r p q g h =
    let f : extend (span_of (get_or bs (n - 1) d) ∷ []) l r ≡ run (get_or bs (n - 1) d).left (max (get_or bs (n - 1) d).right r) true ∷ [] = cond-false _ _ _ (le-ltb _ _ g) in
    let m : max (get_or bs (n - 1) d).right r ≡ (get_or bs (n - 1) d).right = omega arith in
    ap spans (take_last bs n d p q) ∙ (spans-append (take (n - 1) bs) (get_or bs (n - 1) d ∷ []) ∙ (ap (λ v. spans (take (n - 1) bs) ++ run (get_or bs (n - 1) d).left v true ∷ []) (sym m) ∙ (ap (λ v. spans (take (n - 1) bs) ++ v) (sym f) ∙ sym (extend_last bs n d l r p q))))

-- what extend means
abbrev pub last_from : Row → ℕ
last_from [] = 0
last_from (s ∷ []) = s.from
last_from (s ∷ t ∷ ts) = last_from (t ∷ ts)

from_le_last : (low : ℕ) (s : Run Bool) (ss : Row) → Ok false low (s ∷ ss) → s.from ≤ last_from (s ∷ ss)
from_le_last low s [] k = omega arith
from_le_last low s (t ∷ ts) k = let h = from_le_last s.to t ts k.4 in omega arith

to_le_last : (low : ℕ) (s t : Run Bool) (ss : Row) → Ok false low (s ∷ t ∷ ss) → s.to ≤ last_from (t ∷ ss)
to_le_last low s t ss k = let h = from_le_last s.to t ss k.4 in omega arith

not_false_true : (b : Bool) → b ≢ false → b ≡ true
not_false_true true k = refl
not_false_true false k = absurd (k refl)

pub extend_at : (low : ℕ) (row : Row) (l r x : ℕ) → Ok false low row → last_from row ≤ l → l < r → at false (extend row l r) x ≡ (at false row x || (leb l x && ltb x r))
extend_at low [] l r x k g h = grind (arith, nat_tests)
extend_at low (s ∷ []) l r x k g h =
    let e : s.what ≡ true = not_false_true _ k.2 in
    let u : s.from < s.to = k.1 in
    cond_both (ltb s.to l) (s ∷ run l r true ∷ []) (run s.from (max s.to r) true ∷ []) (λ v. at false v x ≡ (at false (s ∷ []) x || (leb l x && ltb x r)))
    (λ t. let w = ltb-true _ _ t in grind (arith, nat_tests))
    (λ t. let w = ltb-false _ _ t in grind (arith, nat_tests))
extend_at low (s ∷ t ∷ ts) l r x k g h =
    let ih = extend_at s.to (t ∷ ts) l r x k.4 g h in
    let e : s.what ≡ true = not_false_true _ k.2 in
    let u = to_le_last low s t ts k in
    ap (λ v. cond (leb s.from x && ltb x s.to) s.what v) ih ∙ grind (arith, nat_tests)

pub extend_ok : (low : ℕ) (row : Row) (l r : ℕ) → Ok false low row → low ≤ l → last_from row ≤ l → l < r → Ok false low (extend row l r)
extend_ok low [] l r k p g h = (p, h, true≢false, tt, tt)
extend_ok low (s ∷ []) l r k p g h =
    let u : s.from < s.to = k.1 in
    cond_both (ltb s.to l) (s ∷ run l r true ∷ []) (run s.from (max s.to r) true ∷ []) (λ v. Ok false low v)
    (λ t. let w = ltb-true _ _ t in (k.0, k.1, k.2, (λ e _. omega arith), (omega arith, h, true≢false, tt, tt)))
    (λ t. (k.0, omega arith, true≢false, tt, tt))
extend_ok low (s ∷ t ∷ []) l r k p g h =
    let u = to_le_last low s t [] k in (
      k.0,
      k.1,
      k.2,
      cond_both (ltb t.to l) (t ∷ run l r true ∷ []) (run t.from (max t.to r) true ∷ []) (λ v. Apart s v) (λ _. k.3) (λ _ e _. k.3 e (not_false_true _ k.2 ∙ sym (not_false_true _ k.4.2))),
      extend_ok s.to (t ∷ []) l r k.4 (omega arith) g h,
    )
extend_ok low (s ∷ t ∷ v ∷ ts) l r k p g h =
    let u = to_le_last low s t (v ∷ ts) k in
    (k.0, k.1, k.2, k.3, extend_ok s.to (t ∷ v ∷ ts) l r k.4 (omega arith) g h)

pub add_first : (bs : List Rect) (n : ℕ) (l r t b : ℕ) → 0 < length bs → n ≡ 0 → spans (take 1 (set bs 0 record { left = l; top = t; right = r; bottom = b })) ≡ extend (spans (take n bs)) l r
add_first [] n l r t b q e = absurd (omega arith)
add_first (x ∷ bs) n l r t b q e = subst (λ (m : ℕ). run l r true ∷ [] ≡ extend (spans (take m (x ∷ bs))) l r) (sym e) refl
