-- What an order promises.
use Rattle.std.specs.Prelude.{◌≡◌, ℕ, is_ok, IfOk, Result, MatchResult}
use Rattle.region_laws.specs.declared.rect.Rect.{Rect}
use Rattle.surface.specs.declared.order.Order.{Order}
use Rattle.surface.specs.declared.order.OrderRefused.{OrderRefused}
use Rattle.surface.specs.Told.{Told}
use Rattle.surface.specs.Damaged.{Damaged}

-- what an order may make of a shelf of type S: before, surface, order, damage box, after
abbrev pub Becomes : Type 0 → Type 1
Becomes S = S → ℕ → Order → Rect → S → Type 0

-- the shelf s, given the order o to its surface k, answered r and became t
pub record Answered {P S : Type 0} (tells : S → Told P) (becomes : Becomes S) (s : S) (k : ℕ) (o : Order) (r : Result Rect OrderRefused) (t : S) : Type 0 where
  pub taken : is_ok r ≡ (tells s).takes k o
  -- a refused order alters nothing
  pub made : MatchResult r (λ b. becomes s k o b t) (λ _. t ≡ s)
  pub damaged : IfOk r (λ b. Damaged (tells s) (tells t) k b)
