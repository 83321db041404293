-- Joins of regions whose lists are known.
use Rattle.std.proofs.Common.{◌≡◌, ℕ, zero, suc, ◌+◌, ◌*◌, List, [], ap, ◌∙◌}
use Rattle.region_laws.specs.Boxes.{box}
use Rattle.region_laws.specs.Joined.{joined, single}
use Rattle.region_laws.specs.declared.rect.Rect.{Rect}

pub join_is : (r a b xs ys : List Rect) → r ≡ joined a b → a ≡ xs → b ≡ ys → r ≡ joined xs ys
join_is r a b xs ys e f g = e ∙ ap (λ (v : List Rect). joined v b) f ∙ ap (λ (v : List Rect). joined xs v) g

-- the first n dots of row 0, one join after the other
abbrev pub joined_dots : ℕ → List Rect
joined_dots zero = []
joined_dots (suc n) = joined (joined_dots n) (single (box (2 * n) 0 (2 * n + 1) 1))
