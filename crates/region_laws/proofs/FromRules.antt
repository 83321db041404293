-- A flat list that keeps the four rules is banded.
use Rattle.std.proofs.Common.{◌≡◌, ℕ, suc, ◌<◌, ◌≤◌, Bool, true, false, not, ◌&&◌, eqb, ltb, leb, ◌≢◌, ◌⊎◌, List, [], ◌∷◌, ◌++◌, length, sym, refl, ap, ◌∙◌, subst, inl, inr, arith}
use Rattle.std.proofs.lemmas.Bool.Decides.{nat_tests}
use Rattle.std.proofs.lemmas.Bool.{cases_lt, cases_Bool, and_parts, and_from, and_left, or_left, or_right, le-leb, lt-ltb, eq-eqb, ne_eqb, cond-true, cond-false, not_from_false, false≢true}
use Rattle.region_laws.specs.Runs.{run, at, tidy, reach, apart}
use Rattle.region_laws.specs.Bands.{Row, Band, boxes, bands, banded, stack, same_row, same_bit, bit, good_row, row_boxes, farthest}
use Rattle.region_laws.specs.Listed.{high}
use Rattle.region_laws.specs.Spans.{spans, row_at}
use Rattle.region_laws.specs.Rules.{Sound, nth, Rules, Banding}
use Rattle.region_laws.specs.declared.rect.Rect.{Rect}
use Rattle.region_laws.proofs.Unique.{at_in, at_right}
use Rattle.region_laws.proofs.Tidy.{Parts, parts, same_row_true, boxes_bands}
use Rattle.region_laws.proofs.Exists.{tidy_from}
use Rattle.region_laws.proofs.Rows.{row_bands}
use Rattle.region_laws.proofs.Pairs.{All, all_both, OfBands, bands_all, Before, Pairs, all_high}
use Rattle.region_laws.proofs.Counts.{bands_high}
use Rattle.region_laws.proofs.FourRules.{rules_from}

-- first all but the fourth rule: no two rows count as the same
abbrev never : Row → Row → Bool
never u v = false

apart_never : (r : Band) (rs : List Band) → apart never r rs ≡ true
apart_never r [] = refl
apart_never r (s ∷ ss) = or_right (ltb r.to s.from) true refl

record Shape (d : Rect) (bs : List Band) : Type 0 where
  more : Row
  rest : List Band
  is : bs ≡ run d.top d.bottom (run d.left d.right true ∷ more) ∷ rest

-- the first band begins with the first box
shape : (d : Rect) (cs : List Band) → Shape d (stack d cs)
shape d [] = record { more = []; rest = []; is = refl }
shape d (c ∷ cs) = go (cases_Bool (eqb d.top c.from && eqb d.bottom c.to))
  where
    go : ((eqb d.top c.from && eqb d.bottom c.to) ≡ true) ⊎ ((eqb d.top c.from && eqb d.bottom c.to) ≡ false) → Shape d (stack d (c ∷ cs))
    go (inl t) = record { more = c.what; rest = cs; is = cond-true _ _ _ t }
    go (inr f) = record { more = []; rest = c ∷ cs; is = cond-false _ _ _ f }

good_one : (b : Rect) → Sound b → good_row (run b.left b.right true ∷ []) ≡ true
good_one b s = let w = s.wide in let r = s.right in grind (arith, nat_tests)

on_top : (b d : Rect) (more : Row) (rest : List Band) → Sound b → Before b d → tidy never good_row 0 (run d.top d.bottom (run d.left d.right true ∷ more) ∷ rest) ≡ true
    → tidy never good_row 0 (stack b (run d.top d.bottom (run d.left d.right true ∷ more) ∷ rest)) ≡ true
on_top b d more rest s (inl q) k =
    let p = parts never good_row 0 (run d.top d.bottom (run d.left d.right true ∷ more)) rest k in
    let g = and_parts (tidy same_bit bit 0 (run d.left d.right true ∷ more)) (leb (reach (run d.left d.right true ∷ more)) farthest) p.fine in
    let r = parts same_bit bit 0 (run d.left d.right true) more g.0 in
    let gap : b.right < d.left = q.2 in
    let inner : tidy same_bit bit b.right (run d.left d.right true ∷ more) ≡ true
    = tidy_from same_bit bit b.right (run d.left d.right true) more (record { start = omega arith; full = r.full; fine = refl; next = r.next; rest = r.rest }) in
    let row : tidy same_bit bit 0 (run b.left b.right true ∷ run d.left d.right true ∷ more) ≡ true
    = tidy_from same_bit bit 0 (run b.left b.right true) (run d.left d.right true ∷ more)
    (record { start = omega arith; full = s.wide; fine = refl; next = or_left (ltb b.right d.left) (not true) (lt-ltb _ _ gap); rest = inner }) in
    let all : tidy never good_row 0 (run b.top b.bottom (run b.left b.right true ∷ run d.left d.right true ∷ more) ∷ rest) ≡ true
    = tidy_from never good_row 0 (run b.top b.bottom (run b.left b.right true ∷ run d.left d.right true ∷ more)) rest
    (record { start = omega arith; full = s.high; fine = and_from _ _ row g.1; next = apart_never (run b.top b.bottom (run b.left b.right true ∷ run d.left d.right true ∷ more)) rest; rest = subst (λ (n : ℕ). tidy never good_row n rest ≡ true) (sym q.1) p.rest }) in
    subst (λ (v : List Band). tidy never good_row 0 v ≡ true) (sym (cond-true (eqb b.top d.top && eqb b.bottom d.bottom) _ _ (and_from _ _ (eq-eqb _ _ q.0) (eq-eqb _ _ q.1)))) all
on_top b d more rest s (inr q) k =
    let p = parts never good_row 0 (run d.top d.bottom (run d.left d.right true ∷ more)) rest k in
    let h = s.high in
    let below = tidy_from never good_row b.bottom (run d.top d.bottom (run d.left d.right true ∷ more)) rest (record { start = q; full = p.full; fine = p.fine; next = p.next; rest = p.rest }) in
    let all = tidy_from never good_row 0 (run b.top b.bottom (run b.left b.right true ∷ [])) (run d.top d.bottom (run d.left d.right true ∷ more) ∷ rest)
    (record { start = omega arith; full = s.high; fine = good_one b s; next = apart_never (run b.top b.bottom (run b.left b.right true ∷ [])) (run d.top d.bottom (run d.left d.right true ∷ more) ∷ rest); rest = below }) in
    subst (λ (v : List Band). tidy never good_row 0 v ≡ true)
    (sym (cond-false (eqb b.top d.top && eqb b.bottom d.bottom) _ _ (and_left _ _ (ne_eqb b.top d.top (λ e. omega arith))))) all

loose : (bs : List Rect) → All Sound bs → Pairs bs → tidy never good_row 0 (bands bs) ≡ true
loose [] k p = refl
loose (b ∷ []) k p = tidy_from never good_row 0 (run b.top b.bottom (run b.left b.right true ∷ [])) [] (record { start = omega arith; full = k.0.high; fine = good_one b k.0; next = refl; rest = refl })
loose (b ∷ d ∷ ds) k p =
    let s = shape d (bands ds) in
    let ih : tidy never good_row 0 (run d.top d.bottom (run d.left d.right true ∷ s.more) ∷ s.rest) ≡ true
    = subst (λ (v : List Band). tidy never good_row 0 v ≡ true) s.is (loose (d ∷ ds) k.1 p.1) in
    subst (λ (v : List Band). tidy never good_row 0 (stack b v) ≡ true) (sym s.is) (on_top b d s.more s.rest k.0 p.0.0 ih)

-- then the fourth
abbrev Differs : List Band → Type 0
Differs [] = Unit {0}
Differs (r ∷ []) = Unit {0}
Differs (r ∷ s ∷ rs) = (r.to ≡ s.from → r.what ≢ s.what) × Differs (s ∷ rs)

strict : (low : ℕ) (bs : List Band) → tidy never good_row low bs ≡ true → Differs bs → tidy same_row good_row low bs ≡ true
strict low [] k d = refl
strict low (r ∷ []) k d = let p = parts never good_row low r [] k in tidy_from same_row good_row low r [] (record { start = p.start; full = p.full; fine = p.fine; next = refl; rest = refl })
strict low (r ∷ s ∷ rs) k d =
    let p = parts never good_row low r (s ∷ rs) k in
    let q = parts never good_row r.to s rs p.rest in
    tidy_from same_row good_row low r (s ∷ rs) (record { start = p.start; full = p.full; fine = p.fine; next = go q.start (cases_lt r.to s.from) (cases_Bool (same_row r.what s.what)); rest = strict r.to (s ∷ rs) p.rest d.1 })
  where
    go : r.to ≤ s.from → (r.to < s.from) ⊎ (s.from ≤ r.to) → (same_row r.what s.what ≡ true) ⊎ (same_row r.what s.what ≡ false) → apart same_row r (s ∷ rs) ≡ true
    go l (inl g) c = or_left (ltb r.to s.from) (not (same_row r.what s.what)) (lt-ltb _ _ g)
    go l (inr g) (inl t) = absurd (d.0 (omega arith) (same_row_true r.what s.what t))
    go l (inr g) (inr f) = or_right (ltb r.to s.from) (not (same_row r.what s.what)) (not_from_false (same_row r.what s.what) f)

-- two boxes of bands that touch lie in rows that differ
abbrev Other : List Band → Rect → Rect → Type 0
Other bs c d = c.bottom ≡ d.top → at [] bs c.top ≢ at [] bs d.top

record Top (t b : ℕ) (P : Rect → Type 0) : Type 0 where
  one : Rect
  top : one.top ≡ t
  bottom : one.bottom ≡ b
  holds : P one

first : (P : Rect → Type 0) (t b : ℕ) (row : Row) (zs : List Rect) → good_row row ≡ true → All P (row_boxes t b row ++ zs) → Top t b P
first P t b [] zs g k = absurd (false≢true g)
first P t b (s ∷ ss) zs g k = record { one = record { left = s.from; top = t; right = s.to; bottom = b }; top = refl; bottom = refl; holds = k.0 }

all_drop : (P : Rect → Type 0) (xs ys : List Rect) → All P (xs ++ ys) → All P ys
all_drop P [] ys k = k
all_drop P (x ∷ xs) ys k = all_drop P xs ys k.1

differs : (low : ℕ) (bs : List Band) → tidy never good_row low bs ≡ true → reach bs ≤ farthest → All (λ c. All (Other bs c) (boxes bs)) (boxes bs) → Differs bs
differs low [] k h a = tt
differs low (r ∷ []) k h a = tt
differs low (r ∷ s ∷ rs) k h a =
    let p = parts never good_row low r (s ∷ rs) k in
    let q = parts never good_row r.to s rs p.rest in
    let below = bands_all never r.to farthest (s ∷ rs) p.rest h (omega arith) in
    let rest = all_drop (λ c. All (Other (r ∷ s ∷ rs) c) (boxes (r ∷ s ∷ rs))) (row_boxes r.from r.to r.what) (boxes (s ∷ rs)) a in (
      (λ e w. here p q (first (λ c. All (Other (r ∷ s ∷ rs) c) (boxes (r ∷ s ∷ rs))) r.from r.to r.what (boxes (s ∷ rs)) p.fine a) e w),
      differs r.to (s ∷ rs) p.rest h
          (all_both (OfBands r.to farthest) (λ c. All (Other (r ∷ s ∷ rs) c) (boxes (r ∷ s ∷ rs))) (λ c. All (Other (s ∷ rs) c) (boxes (s ∷ rs)))
          (λ c o g. all_both (OfBands r.to farthest) (Other (r ∷ s ∷ rs) c) (Other (s ∷ rs) c) (λ d u v. tail c d o.top u.top v) (boxes (s ∷ rs)) below
          (all_drop (Other (r ∷ s ∷ rs) c) (row_boxes r.from r.to r.what) (boxes (s ∷ rs)) g))
          (boxes (s ∷ rs)) below rest),
    )
  where
    tail : (c d : Rect) → r.to ≤ c.top → r.to ≤ d.top → Other (r ∷ s ∷ rs) c d → Other (s ∷ rs) c d
    tail c d i j v e f = v e (at_right [] r (s ∷ rs) c.top i ∙ (f ∙ sym (at_right [] r (s ∷ rs) d.top j)))

    here : Parts never good_row low r (s ∷ rs) → Parts never good_row r.to s rs → Top r.from r.to (λ c. All (Other (r ∷ s ∷ rs) c) (boxes (r ∷ s ∷ rs))) → r.to ≡ s.from → r.what ≢ s.what
    here p q c e w =
        let d = first (Other (r ∷ s ∷ rs) c.one) s.from s.to s.what (boxes rs) q.fine (all_drop (Other (r ∷ s ∷ rs) c.one) (row_boxes r.from r.to r.what) (boxes (s ∷ rs)) c.holds) in
        let u : at [] (r ∷ s ∷ rs) c.one.top ≡ r.what = ap (at [] (r ∷ s ∷ rs)) c.top ∙ at_in [] r (s ∷ rs) r.from (omega arith) p.full in
        let v : at [] (r ∷ s ∷ rs) d.one.top ≡ s.what = ap (at [] (r ∷ s ∷ rs)) d.top ∙ (at_right [] r (s ∷ rs) s.from q.start ∙ at_in [] s rs s.from (omega arith) q.full) in
        d.holds (c.bottom ∙ (e ∙ sym d.top)) (u ∙ (w ∙ sym v))

-- facts of each box by its place
all_from : (P : Rect → Type 0) (bs : List Rect) → ((i : ℕ) → i < length bs → P (nth bs i)) → All P bs
all_from P [] f = tt
all_from P (b ∷ bs) f = (f 0 (omega arith), all_from P bs (λ i h. f (suc i) (omega arith)))

pairs_from : (bs : List Rect) → ((i j : ℕ) → i < j → j < length bs → Before (nth bs i) (nth bs j)) → Pairs bs
pairs_from [] f = tt
pairs_from (b ∷ bs) f = (all_from (Before b) bs (λ j h. f 0 (suc j) (omega arith) (omega arith)), pairs_from bs (λ i j l h. f (suc i) (suc j) (omega arith) (omega arith)))

before : (bs : List Rect) → Rules bs → (i j : ℕ) → i < j → j < length bs → Before (nth bs i) (nth bs j)
before bs r i j l h = go (r.in_bands i j l h) (r.ordered i j l h) (r.sound j h).high
  where
    go : (((nth bs i).top ≡ (nth bs j).top) × ((nth bs i).bottom ≡ (nth bs j).bottom)) ⊎ (((nth bs i).bottom ≤ (nth bs j).top) ⊎ ((nth bs j).bottom ≤ (nth bs i).top))
        → ((nth bs i).top < (nth bs j).top) ⊎ (((nth bs i).top ≡ (nth bs j).top) × ((nth bs i).left < (nth bs j).left)) → (nth bs j).top < (nth bs j).bottom → Before (nth bs i) (nth bs j)
    go (inl p) o s = inl (p.0, p.1, r.apart i j l h p.0)
    go (inr (inl p)) o s = inr p
    go (inr (inr p)) (inl o) s = absurd (omega arith)
    go (inr (inr p)) (inr o) s = let e = o.0 in absurd (omega arith)

pub banded_from : (bs : List Rect) → Rules bs → banded bs ≡ true
banded_from bs r =
    let k = all_from Sound bs r.sound in
    let t = loose bs k (pairs_from bs (before bs r)) in
    let b = boxes_bands bs in
    let far : reach (bands bs) ≤ farthest = let u = bands_high never 0 (bands bs) t in let v = all_high bs k in let w = ap high b in omega arith in
    let row : (y : ℕ) → spans (row_at y bs) ≡ at [] (bands bs) y = λ y. ap (λ v. spans (row_at y v)) (sym b) ∙ row_bands never 0 (bands bs) y t in
    let others : All (λ c. All (Other (bands bs) c) bs) bs
    = all_from (λ c. All (Other (bands bs) c) bs) bs (λ i h. all_from (Other (bands bs) (nth bs i)) bs (λ j g e f. r.differ i j h g e (row (nth bs i).top ∙ (f ∙ sym (row (nth bs j).top))))) in
    let d = differs 0 (bands bs) t far (subst (λ (v : List Rect). All (λ c. All (Other (bands bs) c) v) v) (sym b) others) in
    and_from (tidy same_row good_row 0 (bands bs)) (leb (reach (bands bs)) farthest) (strict 0 (bands bs) t d) (le-leb _ _ far)

-- both ways
pub banding : Banding
banding bs = (rules_from bs, banded_from bs)
