-- The sweep of a join: the boxes so far are the boxes of the runs of the union's rows so far.
use Rattle.std.proofs.Common.{◌≡◌, ℕ, zero, suc, ◌+◌, ◌<◌, ◌≤◌, max, true, false, cond, ◌&&◌, ◌||◌, eqb, ltb, ◌≢◌, ◌⊎◌, List, [], ◌∷◌, length, take, drop, sym, refl, ap, ◌∙◌, subst, inl, inr, arith}
use Rattle.std.proofs.lemmas.Bool.{cases_lt, cases_Bool, cond-true, cond-false, cond_both, lt-ltb, le-ltb}
use Rattle.std.proofs.lemmas.List.{length-append, length-take, length-drop}
use Rattle.region_laws.specs.Runs.{run, at, Ok, push, runs, tidy}
use Rattle.region_laws.specs.Bands.{Row, Band, covers, boxes, banded, same_row, same_bit, good_row, row_boxes}
use Rattle.region_laws.specs.Listed.{row_of, wide, high}
use Rattle.region_laws.specs.Joined.{either, union}
use Rattle.region_laws.specs.Spans.{spans, row_at, Plain}
use Rattle.region_laws.specs.Stacked.{lowered, goes_on, stacked, start_of_last}
use Rattle.region_laws.specs.declared.rect.Rect.{Rect}
use Rattle.region_laws.proofs.Unique.{unique}
use Rattle.region_laws.proofs.Tidy.{same_row_true, same_row_eq, same_bit_true, same_bit_eq, covers_tidy}
use Rattle.region_laws.proofs.Push.{runs_made, made_push, made_skip, made_runs}
use Rattle.region_laws.proofs.Exists.{runs_tidy, row_good}
use Rattle.region_laws.proofs.Flat.{start_of, goes, push_on, push_under, goes_same}
use Rattle.region_laws.proofs.Rows.{row_is}
use Rattle.region_laws.proofs.Stacking.{length-lowered, stacked_on, stacked_under}
use Rattle.region_laws.proofs.Pairs.{banded_wide}
use Rattle.region_laws.proofs.Union.{covers_right}
use Rattle.region_laws.proofs.Strips.{plain_covers}

-- row y of the union, and the bands of its rows above y
abbrev pub union_row : List Rect → List Rect → ℕ → Row
union_row xs ys y = row_of (max (wide xs) (wide ys)) (λ x. either xs ys x y)

abbrev pub union_bands : List Rect → List Rect → ℕ → List Band
union_bands xs ys y = runs same_row [] (union_row xs ys) y

pub record Swept (xs ys : List Rect) (y : ℕ) (out : List Rect) (start : ℕ) : Type 0 where
  pub list : out ≡ boxes (union_bands xs ys y)
  pub start_is : start ≡ start_of (union_bands xs ys y)

pub swept_none : (xs ys : List Rect) → Swept xs ys 0 [] 0
swept_none xs ys = record { list = refl; start_is = refl }

pub swept_all : (xs ys : List Rect) (y : ℕ) (out : List Rect) (s : ℕ) → Swept xs ys y out s → y ≡ max (high xs) (high ys) → out ≡ union xs ys
swept_all xs ys y out s w e = w.list ∙ ap (λ n. boxes (union_bands xs ys n)) e

-- the merged spans are the union's row
pub merged_row : (xs ys : List Rect) (y : ℕ) (row : Row) → banded xs ≡ true → banded ys ≡ true → Ok false 0 row
    → ((x : ℕ) → at false row x ≡ (at false (spans (row_at y xs)) x || at false (spans (row_at y ys)) x)) → row ≡ union_row xs ys y
merged_row xs ys y row k m o e =
    let made = runs_made same_bit false same_bit_true same_bit_eq (λ x. either xs ys x y) (max (wide xs) (wide ys)) in
    unique false 0 row (union_row xs ys y) o made.0 (λ x. e x ∙ (here x ∙ (past x (cases_lt x (max (wide xs) (wide ys))) ∙ sym (made.2 x))))
  where
    one : (zs : List Rect) → banded zs ≡ true → (x : ℕ) → at false (spans (row_at y zs)) x ≡ covers zs x y
    one zs b x = ap (λ r. at false r x) (row_is zs y b) ∙ sym (covers_tidy zs x y b)

    here : (x : ℕ) → (at false (spans (row_at y xs)) x || at false (spans (row_at y ys)) x) ≡ either xs ys x y
    here x = λ i. one xs k x i || one ys m x i

    past : (x : ℕ) → (x < max (wide xs) (wide ys)) ⊎ (max (wide xs) (wide ys) ≤ x) → either xs ys x y ≡ cond (ltb x (max (wide xs) (wide ys))) (either xs ys x y) false
    past x (inl l) = sym (cond-true _ _ _ (lt-ltb _ _ l))
    past x (inr g) = (λ i. covers_right xs x y (omega arith) i || covers_right ys x y (omega arith) i) ∙ sym (cond-false _ (either xs ys x y) false (le-ltb _ _ g))

row_stays : (xs ys : List Rect) (y e z : ℕ) → Plain xs y e → Plain ys y e → y ≤ z → z < e → union_row xs ys z ≡ union_row xs ys y
row_stays xs ys y e z p q l u = λ i. row_of (max (wide xs) (wide ys)) (λ x. plain_covers xs y e z x p l u i || plain_covers ys y e z x q l u i)

bands_skip : (xs ys : List Rect) (y e : ℕ) → Plain xs y e → Plain ys y e → y < e → union_row xs ys y ≡ [] → union_bands xs ys e ≡ union_bands xs ys y
bands_skip xs ys y e p q l n =
    let made = runs_made same_row [] same_row_true same_row_eq (union_row xs ys) y in
    sym (made_runs same_row [] same_row_true same_row_eq (union_row xs ys) e (union_bands xs ys y)
    (made_skip same_row [] same_row_true (union_row xs ys) y e (union_bands xs ys y) made (omega arith) (λ z g h. row_stays xs ys y e z p q g h ∙ n)))

bands_push : (xs ys : List Rect) (y e : ℕ) → Plain xs y e → Plain ys y e → y < e → union_row xs ys y ≢ []
    → union_bands xs ys e ≡ push same_row (union_bands xs ys y) y e (union_row xs ys y)
bands_push xs ys y e p q l n =
    let made = runs_made same_row [] same_row_true same_row_eq (union_row xs ys) y in
    sym (made_runs same_row [] same_row_true same_row_eq (union_row xs ys) e (push same_row (union_bands xs ys y) y e (union_row xs ys y))
    (made_push same_row [] same_row_true same_row_eq (union_row xs ys) y e (union_bands xs ys y) (union_row xs ys y) made l n (λ z g h. row_stays xs ys y e z p q g h)))

-- an empty row adds nothing
swept_skip : (xs ys : List Rect) (y e : ℕ) (out : List Rect) (s : ℕ) (row : Row) → Plain xs y e → Plain ys y e → y < e → row ≡ union_row xs ys y → row ≡ []
    → Swept xs ys y out s → Swept xs ys e out s
swept_skip xs ys y e out s row p q l r n w =
    let b = bands_skip xs ys y e p q l (sym r ∙ n) in
    record { list = w.list ∙ ap boxes (sym b); start_is = w.start_is ∙ ap start_of (sym b) }

start_on : (bs : List Band) (row : Row) (t u : ℕ) → goes bs row t ≡ true → start_of (push same_row bs t u row) ≡ start_of bs
start_on [] row t u k = refl
start_on (b ∷ []) row t u k = ap start_of (cond-true (eqb b.to t && same_row b.what row) (run b.from u b.what ∷ []) (b ∷ run t u row ∷ []) k)
start_on (b ∷ c ∷ []) row t u k = ap (λ v. start_of (b ∷ v)) (cond-true (eqb c.to t && same_row c.what row) (run c.from u c.what ∷ []) (c ∷ run t u row ∷ []) k)
start_on (b ∷ c ∷ d ∷ bs) row t u k = ap (λ v. length (row_boxes b.from b.to b.what) + v) (start_on (c ∷ d ∷ bs) row t u k)

start_under : (bs : List Band) (row : Row) (t u : ℕ) → goes bs row t ≡ false → start_of (push same_row bs t u row) ≡ length (boxes bs)
start_under [] row t u k = refl
start_under (b ∷ []) row t u k =
    let e = length-append (row_boxes b.from b.to b.what) [] in
    ap start_of (cond-false (eqb b.to t && same_row b.what row) (run b.from u b.what ∷ []) (b ∷ run t u row ∷ []) k) ∙ sym e
start_under (b ∷ c ∷ []) row t u k =
    let e = length-append (row_boxes b.from b.to b.what) (boxes (c ∷ [])) in
    let f = length-append (row_boxes c.from c.to c.what) [] in
    ap (λ v. start_of (b ∷ v)) (cond-false (eqb c.to t && same_row c.what row) (run c.from u c.what ∷ []) (c ∷ run t u row ∷ []) k) ∙ (ap (λ v. length (row_boxes b.from b.to b.what) + v) (sym f) ∙ sym e)
start_under (b ∷ c ∷ d ∷ bs) row t u k =
    ap (λ v. length (row_boxes b.from b.to b.what) + v) (start_under (c ∷ d ∷ bs) row t u k) ∙ sym (length-append (row_boxes b.from b.to b.what) (boxes (c ∷ d ∷ bs)))

-- the union's bands so far are tidy
bands_tidy : (xs ys : List Rect) (y : ℕ) → banded xs ≡ true → banded ys ≡ true → tidy same_row good_row 0 (union_bands xs ys y) ≡ true
bands_tidy xs ys y k m =
    let a = banded_wide xs k in
    let b = banded_wide ys m in
    (runs_tidy same_row good_row [] (union_row xs ys) (λ z. row_good (max (wide xs) (wide ys)) (λ x. either xs ys x z) (omega arith)) y).0

-- what putting a row under the boxes does is what putting a run under the bands does
push_stacked : (bs : List Band) (row : Row) (t u : ℕ) → row ≢ [] → tidy same_row good_row 0 bs ≡ true
    → (stacked (boxes bs) (start_of bs) row t u ≡ boxes (push same_row bs t u row)) × (start_of_last (boxes bs) (start_of bs) row t ≡ start_of (push same_row bs t u row))
push_stacked bs row t u n k = go (cases_Bool (goes bs row t))
  where
    same : goes_on (boxes bs) (start_of bs) row t ≡ goes bs row t
    same = goes_same 0 bs row t k

    go : (goes bs row t ≡ true) ⊎ (goes bs row t ≡ false)
        → (stacked (boxes bs) (start_of bs) row t u ≡ boxes (push same_row bs t u row)) × (start_of_last (boxes bs) (start_of bs) row t ≡ start_of (push same_row bs t u row))
    go (inl g) = let e = stacked_on (boxes bs) (start_of bs) row t u n (same ∙ g) in (e.0 ∙ sym (push_on bs row t u g), e.1 ∙ sym (start_on bs row t u g))
    go (inr g) = let e = stacked_under (boxes bs) (start_of bs) row t u n (same ∙ g) in (e.0 ∙ sym (push_under bs row t u g), e.1 ∙ sym (start_under bs row t u g))

swept_more : (xs ys : List Rect) (y e : ℕ) (out : List Rect) (s : ℕ) (row : Row) → banded xs ≡ true → banded ys ≡ true → Plain xs y e → Plain ys y e → y < e
    → row ≡ union_row xs ys y → row ≢ [] → Swept xs ys y out s → Swept xs ys e (stacked out s row y e) (start_of_last out s row y)
swept_more xs ys y e out s row k m p q l r n w =
    let b = bands_push xs ys y e p q l (λ z. n (r ∙ z)) in
    let c = push_stacked (union_bands xs ys y) (union_row xs ys y) y e (λ z. n (r ∙ z)) (bands_tidy xs ys y k m) in
    record {
      list = (λ i. stacked (w.list i) (w.start_is i) (r i) y e) ∙ (c.0 ∙ ap boxes (sym b));
      start_is = (λ i. start_of_last (w.list i) (w.start_is i) (r i) y) ∙ (c.1 ∙ ap start_of (sym b));
    }

-- a row more
pub swept_row : (xs ys : List Rect) (y e : ℕ) (out : List Rect) (s : ℕ) (row : Row) → banded xs ≡ true → banded ys ≡ true → Plain xs y e → Plain ys y e → y < e
    → row ≡ union_row xs ys y → Swept xs ys y out s → Swept xs ys e (stacked out s row y e) (start_of_last out s row y)
swept_row xs ys y e out s [] k m p q l r w = swept_skip xs ys y e out s [] p q l r refl w
swept_row xs ys y e out s (v ∷ vs) k m p q l r w = swept_more xs ys y e out s (v ∷ vs) k m p q l r (λ z. some z) w
  where
    some : v ∷ vs ≡ [] → ⊥
    some z = let c : ◌≡◌ {A = ℕ} 0 1 = cc in omega arith

-- the turn of the sweep: vs and ws are the boxes at row y, `row` is their union, and `new` is what was then written
pub swept_turn : (xs ys vs ws : List Rect) (y e : ℕ) (out : List Rect) (s : ℕ) (row : Row) → banded xs ≡ true → banded ys ≡ true → Plain xs y e → Plain ys y e → y < e
    → vs ≡ row_at y xs → ws ≡ row_at y ys → Ok false 0 row → ((x : ℕ) → at false row x ≡ (at false (spans vs) x || at false (spans ws) x))
    → Swept xs ys y out s → Swept xs ys e (stacked out s row y e) (start_of_last out s row y)
swept_turn xs ys vs ws y e out s row k m p q l a b o f w =
    let r = merged_row xs ys y row k m o (λ x. f x ∙ (λ i. at false (spans (a i)) x || at false (spans (b i)) x)) in
    swept_row xs ys y e out s row k m p q l r w

pub swept_at : (xs ys : List Rect) (y : ℕ) (out new : List Rect) (s t : ℕ) → Swept xs ys y out s → new ≡ out → t ≡ s → Swept xs ys y new t
swept_at xs ys y out new s t w e f = record { list = e ∙ w.list; start_is = f ∙ w.start_is }

-- the boxes never become fewer
push_grows : (bs : List Band) (row : Row) (t u : ℕ) → length (boxes bs) ≤ length (boxes (push same_row bs t u row))
push_grows bs row t u = go (cases_Bool (goes bs row t))
  where
    go : (goes bs row t ≡ true) ⊎ (goes bs row t ≡ false) → length (boxes bs) ≤ length (boxes (push same_row bs t u row))
    go (inl g) =
        let e = ap length (push_on bs row t u g) in
        let a = length-append (take (start_of bs) (boxes bs)) (lowered u (drop (start_of bs) (boxes bs))) in
        let b = length-lowered u (drop (start_of bs) (boxes bs)) in
        let c = length-take (start_of bs) (boxes bs) in
        let d = length-drop (start_of bs) (boxes bs) in
        omega arith
    go (inr g) = let e = ap length (push_under bs row t u g) in let a = length-append (boxes bs) (row_boxes t u row) in omega arith

step_grows : (f : ℕ → Row) (n : ℕ) → length (boxes (runs same_row [] f n)) ≤ length (boxes (runs same_row [] f (suc n)))
step_grows f n = cond_both (same_row [] (f n)) (runs same_row [] f n) (push same_row (runs same_row [] f n) n (suc n) (f n)) (λ v. length (boxes (runs same_row [] f n)) ≤ length (boxes v))
    (λ _. omega arith) (λ _. push_grows (runs same_row [] f n) (f n) n (suc n))

runs_grow : (f : ℕ → Row) (y h : ℕ) → y ≤ h → length (boxes (runs same_row [] f y)) ≤ length (boxes (runs same_row [] f h))
runs_grow f y zero l = let e : y ≡ 0 = omega arith in subst (λ (n : ℕ). length (boxes (runs same_row [] f n)) ≤ 0) (sym e) (omega arith)
runs_grow f y (suc h) l = go (cases_lt y (suc h)) (λ g. runs_grow f y h g)
  where
    go : (y < suc h) ⊎ (suc h ≤ y) → (y ≤ h → length (boxes (runs same_row [] f y)) ≤ length (boxes (runs same_row [] f h))) → length (boxes (runs same_row [] f y)) ≤ length (boxes (runs same_row [] f (suc h)))
    go (inl g) ih = let a = ih (omega arith) in let b = step_grows f h in omega arith
    go (inr g) ih = let e : suc h ≡ y = omega arith in subst (λ (n : ℕ). length (boxes (runs same_row [] f y)) ≤ length (boxes (runs same_row [] f n))) (sym e) (omega arith)

-- where the boxes so far are too many, so are the union's
pub swept_full : (xs ys : List Rect) (y : ℕ) (out : List Rect) (s n : ℕ) → Swept xs ys y out s → y ≤ max (high xs) (high ys) → n < length out → n < length (union xs ys)
swept_full xs ys y out s n w l h = let g = runs_grow (union_row xs ys) y (max (high xs) (high ys)) l in let e = ap length w.list in omega arith
