-- What an order makes of a shelf leaves no choice.
use Rattle.std.specs.Prelude.{◌≡◌, ℕ}
use Rattle.region_laws.specs.declared.rect.Rect.{Rect}
use Rattle.surface.specs.declared.order.Order.{Order}
use Rattle.surface.specs.Told.{Told}
use Rattle.surface.specs.Answered.{Becomes}

pub record Same {P : Type 0} (s t : Told P) (b c : Rect) : Type 0 where
  pub told : s ≡ t
  pub box : b ≡ c

-- two outcomes of one order on one shelf tell the same and answer the same box
abbrev pub Settled : {P S : Type 0} → (S → Told P) → Becomes S → Type 0
Settled {S = S} tells becomes = (s t u : S) (k : ℕ) (o : Order) (b c : Rect) → becomes s k o b t → becomes s k o c u → Same (tells t) (tells u) b c
