-- The union's list is banded and covers just what either covers; hence the laws of the union.
use Rattle.std.proofs.Common.{◌≡◌, ℕ, ◌<◌, ◌≤◌, max, Bool, true, false, cond, ◌||◌, ltb, ◌⊎◌, List, [], ◌∷◌, refl, ◌∙◌, inl, inr, arith}
use Rattle.std.proofs.lemmas.Bool.Decides.{nat_tests}
use Rattle.std.proofs.lemmas.Bool.{cases_lt, cond-true, cond-false, lt-ltb, le-ltb}
use Rattle.region_laws.specs.Bands.{covers, banded}
use Rattle.region_laws.specs.Listed.{listed, wide, high}
use Rattle.region_laws.specs.Joined.{either, union}
use Rattle.region_laws.specs.declared.rect.Rect.{Rect}
use Rattle.region_laws.proofs.Tidy.{same_set}
use Rattle.region_laws.proofs.Exists.{listed_covers, listed_banded}
use Rattle.region_laws.proofs.Pairs.{banded_wide, banded_high}

-- past its right and its bottom a list covers nothing
pub covers_right : (bs : List Rect) (x y : ℕ) → wide bs ≤ x → covers bs x y ≡ false
covers_right [] x y h = refl
covers_right (b ∷ bs) x y h = let e = covers_right bs x y (omega arith) in let r : b.right ≤ x = omega arith in grind (arith, nat_tests, e)

pub covers_below : (bs : List Rect) (x y : ℕ) → high bs ≤ y → covers bs x y ≡ false
covers_below [] x y h = refl
covers_below (b ∷ bs) x y h = let e = covers_below bs x y (omega arith) in let r : b.bottom ≤ y = omega arith in grind (arith, nat_tests, e)

or_none : (a b : Bool) → a ≡ false → b ≡ false → false ≡ (a || b)
or_none a b p q = grind (arith, p, q)

pub union_banded : (xs ys : List Rect) → banded xs ≡ true → banded ys ≡ true → banded (union xs ys) ≡ true
union_banded xs ys k m =
    let a = banded_wide xs k in let b = banded_wide ys m in let c = banded_high xs k in let d = banded_high ys m in
    listed_banded (max (wide xs) (wide ys)) (max (high xs) (high ys)) (either xs ys) (omega arith) (omega arith)

pub union_covers : (xs ys : List Rect) → banded xs ≡ true → banded ys ≡ true → (x y : ℕ) → covers (union xs ys) x y ≡ either xs ys x y
union_covers xs ys k m x y =
    let a = banded_wide xs k in let b = banded_wide ys m in let c = banded_high xs k in let d = banded_high ys m in
    listed_covers w h (either xs ys) x y (omega arith) (omega arith) ∙ go (cases_lt y h) (cases_lt x w)
  where
    w : ℕ
    w = max (wide xs) (wide ys)

    h : ℕ
    h = max (high xs) (high ys)

    go : (y < max (high xs) (high ys)) ⊎ (max (high xs) (high ys) ≤ y) → (x < max (wide xs) (wide ys)) ⊎ (max (wide xs) (wide ys) ≤ x)
        → cond (ltb y (max (high xs) (high ys))) (cond (ltb x (max (wide xs) (wide ys))) (either xs ys x y) false) false ≡ either xs ys x y
    go (inr q) p = cond-false _ _ _ (le-ltb _ _ q) ∙ or_none _ _ (covers_below xs x y (omega arith)) (covers_below ys x y (omega arith))
    go (inl q) (inr p) = cond-true _ _ _ (lt-ltb _ _ q) ∙ (cond-false _ _ _ (le-ltb _ _ p) ∙ or_none _ _ (covers_right xs x y (omega arith)) (covers_right ys x y (omega arith)))
    go (inl q) (inl p) = cond-true _ _ _ (lt-ltb _ _ q) ∙ cond-true _ _ _ (lt-ltb _ _ p)

pub or_swap : (a b : Bool) → (a || b) ≡ (b || a)
or_swap true true = refl
or_swap true false = refl
or_swap false true = refl
or_swap false false = refl

or_same : (a : Bool) → (a || a) ≡ a
or_same true = refl
or_same false = refl

or_false : (a : Bool) → (a || false) ≡ a
or_false true = refl
or_false false = refl

pub union_swap : (xs ys : List Rect) → union xs ys ≡ union ys xs
union_swap xs ys =
    let p : max (wide xs) (wide ys) ≡ max (wide ys) (wide xs) = omega arith in
    let q : max (high xs) (high ys) ≡ max (high ys) (high xs) = omega arith in
    λ i. listed (p i) (q i) (λ x y. or_swap (covers xs x y) (covers ys x y) i)

pub union_same : (xs : List Rect) → banded xs ≡ true → union xs xs ≡ xs
union_same xs k = same_set (union xs xs) xs (union_banded xs xs k k) k (λ x y. union_covers xs xs k k x y ∙ or_same (covers xs x y))

pub union_none : (xs : List Rect) → banded xs ≡ true → union xs [] ≡ xs
union_none xs k = same_set (union xs []) xs (union_banded xs [] k refl) k (λ x y. union_covers xs [] k refl x y ∙ or_false (covers xs x y))
