-- Two shelves side by side.
use Rattle.std.specs.Prelude.{◌≡◌, ℕ, ◌+◌, ◌-◌, ◌<◌, min, false, cond, Option, Some, None, nat_lt}
use Rattle.surface.specs.declared.order.Order.{Order}
use Rattle.surface.specs.declared.pair.Part.{Part}
use Rattle.surface.specs.declared.pair.Part.TheVariants.{First, Second}
use Rattle.surface.specs.Told.{Told}

-- which part has surface k, and under which number, where the first has n surfaces: the first's numbers stay, the
-- second's follow, and nothing is reached from 255 on
abbrev pub part : ℕ → ℕ → Option Part
part n k = cond (nat_lt k n) (Some (First k)) (cond (nat_lt k 255) (Some (Second (k - n))) None)

-- what that part tells: f of the first, g of the second, or none of either
abbrev pub from : {X : Type 0} → Option Part → (ℕ → X) → (ℕ → X) → X → X
from None f g none = none
from (Some (First j)) f g none = f j
from (Some (Second j)) f g none = g j

-- what a pair tells
abbrev pub beside : {P : Type 0} → Told P → Told P → Told P
beside a b = record {
  count = min 255 (a.count + b.count);
  size = λ k. from (part a.count k) a.size b.size None;
  pixel = λ k x y. from (part a.count k) (λ j. a.pixel j x y) (λ j. b.pixel j x y) None;
  solid = λ k. from (part a.count k) a.solid b.solid None;
  takes = λ k o. from (part a.count k) (λ j. a.takes j o) (λ j. b.takes j o) false;
}

-- surface k of t is told of just as surface j of s
pub record Alike {P : Type 0} (s : Told P) (j : ℕ) (t : Told P) (k : ℕ) : Type 0 where
  pub size : t.size k ≡ s.size j
  pub pixel : (x y : ℕ) → t.pixel k x y ≡ s.pixel j x y
  pub solid : t.solid k ≡ s.solid j
  pub takes : (o : Order) → t.takes k o ≡ s.takes j o

-- t tells of each surface exactly what its part tells
pub record Parts {P : Type 0} (a b t : Told P) : Type 0 where
  pub first : (k : ℕ) → k < a.count → Alike a k t k
  pub second : (k : ℕ) → a.count + k < 255 → Alike b k t (a.count + k)
