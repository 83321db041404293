-- Walks over a list, box by box, as the definitions of regions say them.
use Rattle.std.proofs.Common.{Bool, arith, ◌&&◌, eqb, length, ◌≡◌, ℕ, ◌||◌, List, [], ◌∷◌, ◌++◌, refl, ap}
use Rattle.std.specs.List.{list_any, list_all, zip}
use Rattle.region_laws.specs.Boxes.{inside}
use Rattle.region_laws.specs.Bands.{covers, same_row}
use Rattle.region_laws.specs.Spans.{spans}
use Rattle.region_laws.specs.Joined.{widen, cover_from}
use Rattle.region_laws.specs.declared.rect.Rect.{Rect}

pub cover_push : (c : Rect) (bs : List Rect) (b : Rect) → cover_from c (bs ++ b ∷ []) ≡ widen (cover_from c bs) b
cover_push c [] b = refl
cover_push c (d ∷ bs) b = cover_push (widen c d) bs b

pub some_inside : (bs : List Rect) (x y : ℕ) → list_any (λ b. inside b x y) bs ≡ covers bs x y
some_inside [] x y = refl
some_inside (b ∷ bs) x y = ap (λ v. inside b x y || v) (some_inside bs x y)

-- rows compared box by box
abbrev pub same_span : Rect × Rect → Bool
same_span p = eqb p.0.left p.1.left && eqb p.0.right p.1.right

pub same_zip : (xs ys : List Rect) → length xs ≡ length ys → list_all same_span (zip xs ys) ≡ same_row (spans xs) (spans ys)
same_zip [] [] e = refl
same_zip [] (y ∷ ys) e = absurd (omega arith)
same_zip (x ∷ xs) [] e = absurd (omega arith)
same_zip (x ∷ xs) (y ∷ ys) e = let h = same_zip xs ys (omega arith) in grind (arith, h)
