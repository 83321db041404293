-- Every set of pixels of a display has a banded list.
use Rattle.std.proofs.Common.{◌≡◌, ℕ, zero, suc, ◌<◌, ◌≤◌, Bool, true, false, cond, not, ◌&&◌, eqb, ltb, leb, ◌⊎◌, List, [], ◌∷◌, ◌++◌, sym, refl, ap, ◌∙◌, subst, inl, inr, arith}
use Rattle.std.proofs.lemmas.Bool.{cases_lt, cases_Bool, cond-true, cond-false, and_from, le-leb, lt-ltb, not_from_false, or_left, or_right, eq-eqb, both_ways, ne_eqb, and_left, false≢true}
use Rattle.region_laws.specs.Runs.{Run, run, at, tidy, apart, push, runs, reach}
use Rattle.region_laws.specs.Bands.{Row, Band, boxes, bands, banded, stack, same_row, same_bit, bit, good_row, row_boxes, covers, farthest}
use Rattle.region_laws.specs.Listed.{row_of, listed}
use Rattle.region_laws.specs.declared.rect.Rect.{Rect}
use Rattle.region_laws.proofs.Tidy.{Parts, parts, good_tidy, same_row_eq, same_row_true, same_bit_eq, same_bit_true, covers_bands}
use Rattle.region_laws.proofs.Push.{push_last, push_reach, runs_made}

module _ {V : Type 0} (same : V → V → Bool) (good : V → Bool) where
  pub tidy_from : (low : ℕ) (r : Run V) (rs : List (Run V)) → Parts same good low r rs → tidy same good low (r ∷ rs) ≡ true
  tidy_from low r rs p = and_from _ _ (le-leb _ _ p.start) (and_from _ _ (lt-ltb _ _ p.full) (and_from _ _ p.fine (and_from _ _ p.next p.rest)))

  pub tidy_reach : (low : ℕ) (r : Run V) (rs : List (Run V)) → tidy same good low (r ∷ rs) ≡ true → r.to ≤ reach (r ∷ rs)
  tidy_reach low r [] k = omega arith
  tidy_reach low r (s ∷ ss) k = let p = parts same good low r (s ∷ ss) k in let q = parts same good r.to s ss p.rest in let h = tidy_reach r.to s ss p.rest in let u = q.start in let w = q.full in omega arith

  apart_new : (r : Run V) (a b : ℕ) (v : V) → r.to ≤ a → (eqb r.to a && same r.what v) ≡ false → apart same r (run a b v ∷ []) ≡ true
  apart_new r a b v l f = go (cases_lt r.to a)
    where
      go : (r.to < a) ⊎ (a ≤ r.to) → apart same r (run a b v ∷ []) ≡ true
      go (inl g) = or_left _ _ (lt-ltb _ _ g)
      go (inr g) = let e : eqb r.to a ≡ true = eq-eqb r.to a (omega arith) in or_right (ltb r.to a) (not (same r.what v)) (not_from_false (same r.what v) (ap (λ w. w && same r.what v) (sym e) ∙ f))

  pub push_tidy : (low : ℕ) (rs : List (Run V)) (a b : ℕ) (v : V) → tidy same good low rs ≡ true → low ≤ a → reach rs ≤ a → a < b → good v ≡ true → tidy same good low (push same rs a b v) ≡ true
  push_tidy low [] a b v k g l m n = tidy_from low (run a b v) [] (record { start = g; full = m; fine = n; next = refl; rest = refl })
  push_tidy low (r ∷ []) a b v k g l m n =
      let p = parts same good low r [] k in
      push_last same r a b v (λ rs. tidy same good low rs ≡ true)
      (λ t. let u = p.full in tidy_from low (run r.from b r.what) [] (record { start = p.start; full = omega arith; fine = p.fine; next = refl; rest = refl }))
      (λ f. tidy_from low r (run a b v ∷ []) (record { start = p.start; full = p.full; fine = p.fine; next = apart_new r a b v l f; rest = tidy_from r.to (run a b v) [] (record { start = l; full = m; fine = n; next = refl; rest = refl }) }))
  push_tidy low (r ∷ s ∷ []) a b v k g l m n =
      let p = parts same good low r (s ∷ []) k in
      let e = tidy_reach low r (s ∷ []) k in
      tidy_from low r (push same (s ∷ []) a b v) (record { start = p.start; full = p.full; fine = p.fine; next = push_last same s a b v (λ rs. apart same r rs ≡ true) (λ _. p.next) (λ _. p.next); rest = push_tidy r.to (s ∷ []) a b v p.rest (omega arith) l m n })
  push_tidy low (r ∷ s ∷ t ∷ rs) a b v k g l m n =
      let p = parts same good low r (s ∷ t ∷ rs) k in
      let e = tidy_reach low r (s ∷ t ∷ rs) k in
      tidy_from low r (s ∷ push same (t ∷ rs) a b v) (record { start = p.start; full = p.full; fine = p.fine; next = p.next; rest = push_tidy r.to (s ∷ t ∷ rs) a b v p.rest (omega arith) l m n })

  -- the runs of a function whose values are none or good are tidy
  pub runs_tidy : (none : V) (f : ℕ → V) → ((x : ℕ) → (same none (f x) ≡ true) ⊎ (good (f x) ≡ true)) → (n : ℕ) → (tidy same good 0 (runs same none f n) ≡ true) × (reach (runs same none f n) ≤ n)
  runs_tidy none f ok zero = (refl, omega arith)
  runs_tidy none f ok (suc n) = go (runs_tidy none f ok n) (ok n) (cases_Bool (same none (f n)))
    where
      before : List (Run V)
      before = runs same none f n

      P : List (Run V) → Type 0
      P rs = (tidy same good 0 rs ≡ true) × (reach rs ≤ suc n)

      go : (tidy same good 0 (runs same none f n) ≡ true) × (reach (runs same none f n) ≤ n) → (same none (f n) ≡ true) ⊎ (good (f n) ≡ true) → (same none (f n) ≡ true) ⊎ (same none (f n) ≡ false) → P (runs same none f (suc n))
      go h o (inl t) = subst (λ (rs : List (Run V)). P rs) (sym (cond-true _ _ _ t)) (h.0, omega arith)
      go h (inl t) (inr u) = absurd (both_ways _ u t)
      go h (inr g) (inr u) = subst (λ (rs : List (Run V)). P rs) (sym (cond-false _ _ _ u)) (push_tidy 0 (runs same none f n) n (suc n) (f n) h.0 (omega arith) h.1 (omega arith) g, (let e = push_reach same (runs same none f n) n (suc n) (f n) in omega arith))

-- each row is empty or good
pub row_good : (w : ℕ) (p : ℕ → Bool) → w ≤ farthest → (same_row [] (row_of w p) ≡ true) ⊎ (good_row (row_of w p) ≡ true)
row_good w p h = go (row_of w p) (runs_tidy same_bit bit false p bits w)
  where
    bits : (x : ℕ) → (same_bit false (p x) ≡ true) ⊎ (bit (p x) ≡ true)
    bits x = or_not (p x)
      where
        or_not : (b : Bool) → (same_bit false b ≡ true) ⊎ (bit b ≡ true)
        or_not true = inr refl
        or_not false = inl refl

    go : (r : Row) → (tidy same_bit bit 0 r ≡ true) × (reach r ≤ w) → (same_row [] r ≡ true) ⊎ (good_row r ≡ true)
    go [] k = inl refl
    go (s ∷ ss) k = inr (and_from (tidy same_bit bit 0 (s ∷ ss)) (leb (reach (s ∷ ss)) farthest) k.0 (le-leb (reach (s ∷ ss)) farthest (let e = k.1 in omega arith)))

at_cond : (c : Bool) (r : Row) (x : ℕ) → at false (cond c r []) x ≡ cond c (at false r x) false
at_cond true r x = refl
at_cond false r x = refl

-- the list of a set covers the set's pixels with x < w and y < h, and no others
pub listed_covers : (w h : ℕ) (p : ℕ → ℕ → Bool) (x y : ℕ) → w ≤ farthest → h ≤ farthest → covers (listed w h p) x y ≡ cond (ltb y h) (cond (ltb x w) (p x y) false) false
listed_covers w h p x y i j =
    let f : ℕ → Row = λ y. row_of w (λ x. p x y) in
    let t = runs_tidy same_row good_row [] f (λ y. row_good w (λ x. p x y) i) h in
    let a = (runs_made same_row [] same_row_true same_row_eq f h).2 y in
    let b = (runs_made same_bit false same_bit_true same_bit_eq (λ x. p x y) w).2 x in
    covers_bands 0 (runs same_row [] f h) x y t.0
    ∙ (ap (λ r. at false r x) a ∙ (at_cond (ltb y h) (f y) x ∙ ap (λ v. cond (ltb y h) v false) b))

stack_new : (b : Rect) (cs : List Band) → b.top < b.bottom → tidy same_row good_row b.bottom cs ≡ true
    → stack b cs ≡ run b.top b.bottom (run b.left b.right true ∷ []) ∷ cs
stack_new b [] l k = refl
stack_new b (c ∷ cs) l k =
    let p = parts same_row good_row b.bottom c cs k in
    let s = p.start in
    cond-false (eqb b.top c.from && eqb b.bottom c.to) _ _ (and_left (eqb b.top c.from) (eqb b.bottom c.to) (ne_eqb b.top c.from (λ e. omega arith)))

-- a band's boxes are grouped into the band again
regroup_row : (low t b : ℕ) (s : Run Bool) (ss : Row) (cs : List Band) → t < b → tidy same_bit bit low (s ∷ ss) ≡ true → tidy same_row good_row b cs ≡ true → bands (boxes cs) ≡ cs
    → bands (row_boxes t b (s ∷ ss) ++ boxes cs) ≡ run t b (s ∷ ss) ∷ cs
regroup_row low t b s [] cs l k m e =
    let p = parts same_bit bit low s [] k in
    let w : true ≡ s.what = sym p.fine in
    ap (stack record { left = s.from; top = t; right = s.to; bottom = b }) e ∙ (stack_new record { left = s.from; top = t; right = s.to; bottom = b } cs l m ∙ (λ i. run t b (run s.from s.to (w i) ∷ []) ∷ cs))
regroup_row low t b s (u ∷ us) cs l k m e =
    let p = parts same_bit bit low s (u ∷ us) k in
    let w : true ≡ s.what = sym p.fine in
    let h = regroup_row s.to t b u us cs l p.rest m e in
    ap (stack record { left = s.from; top = t; right = s.to; bottom = b }) h
    ∙ (cond-true (eqb t t && eqb b b) _ _ (and_from (eqb t t) (eqb b b) (eq-eqb t t refl) (eq-eqb b b refl)) ∙ (λ i. run t b (run s.from s.to (w i) ∷ u ∷ us) ∷ cs))

pub regroup : (low : ℕ) (bs : List Band) → tidy same_row good_row low bs ≡ true → bands (boxes bs) ≡ bs
regroup low [] k = refl
regroup low (b ∷ bs) k =
    let p = parts same_row good_row low b bs k in go b.what refl p (regroup b.to bs p.rest)
  where
    go : (r : Row) → b.what ≡ r → Parts same_row good_row low b bs → bands (boxes bs) ≡ bs → bands (boxes (b ∷ bs)) ≡ b ∷ bs
    go [] e p h = absurd (false≢true (subst (λ (v : Row). good_row v ≡ true) e p.fine))
    go (s ∷ ss) e p h =
        let g : good_row (s ∷ ss) ≡ true = subst (λ (v : Row). good_row v ≡ true) e p.fine in
        ap (λ v. bands (row_boxes b.from b.to v ++ boxes bs)) e ∙ (regroup_row 0 b.from b.to s ss bs p.full (good_tidy (s ∷ ss) g) p.rest h ∙ ap (λ v. run b.from b.to v ∷ bs) (sym e))

-- the list of a set is banded
pub listed_banded : (w h : ℕ) (p : ℕ → ℕ → Bool) → w ≤ farthest → h ≤ farthest → banded (listed w h p) ≡ true
listed_banded w h p i j =
    let f : ℕ → Row = λ y. row_of w (λ x. p x y) in
    let t = runs_tidy same_row good_row [] f (λ y. row_good w (λ x. p x y) i) h in
    let e = regroup 0 (runs same_row [] f h) t.0 in
    subst (λ (bs : List Band). (tidy same_row good_row 0 bs && leb (reach bs) farthest) ≡ true) (sym e)
    (and_from (tidy same_row good_row 0 (runs same_row [] f h)) (leb (reach (runs same_row [] f h)) farthest) t.0 (le-leb (reach (runs same_row [] f h)) farthest (let r = t.1 in omega arith)))
