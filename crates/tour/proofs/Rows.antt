-- A row laid over another, one pixel more at a time.
use Rattle.std.proofs.Common.{◌≡◌, ℕ, zero, suc, ◌+◌, ◌<◌, ◌≤◌, min, List, [], ◌∷◌, length, get_or, take, set, refl, ap, ◌∙◌, add-one, arith}
use Rattle.tour.specs.Rows.{laid_row}

module _ {P : Type 0} (lay : P → P → P) where
  more : (ss ds : List P) (i : ℕ) (s d : P) → i < length ss → i < length ds → s ≡ get_or ss i s → d ≡ get_or (laid_row lay (take i ss) ds) i d
      → set (laid_row lay (take i ss) ds) i (lay s d) ≡ laid_row lay (take (suc i) ss) ds
  more [] ds i s d h k e f = absurd (omega arith)
  more (x ∷ xs) [] i s d h k e f = absurd (omega arith)
  more (x ∷ xs) (y ∷ ys) zero s d h k e f = cc
  more (x ∷ xs) (y ∷ ys) (suc i) s d h k e f = ap (λ v. lay x y ∷ v) (more xs ys i s d (omega arith) (omega arith) e f)

  pub laid_more : (ss ds row : List P) (i : ℕ) (s d p : P) → i < length ss → i < length ds → row ≡ laid_row lay (take i ss) ds
      → s ≡ get_or ss i s → d ≡ get_or row i d → p ≡ lay s d → set row i p ≡ laid_row lay (take (i + 1) ss) ds
  laid_more ss ds row i s d p h k r e f l =
      rw (l, r, add-one) (more ss ds i s d h k e (f ∙ ap (λ v. get_or v i d) r))

  pub laid_all : (ss ds : List P) (n : ℕ) → min (length ds) (length ss) ≤ n → laid_row lay (take n ss) ds ≡ laid_row lay ss ds
  laid_all [] ds zero h = refl
  laid_all [] ds (suc n) h = refl
  laid_all (x ∷ xs) [] zero h = refl
  laid_all (x ∷ xs) [] (suc n) h = refl
  laid_all (x ∷ xs) (y ∷ ys) zero h = absurd (omega arith)
  laid_all (x ∷ xs) (y ∷ ys) (suc n) h = ap (λ v. lay x y ∷ v) (laid_all xs ys n (omega arith))
