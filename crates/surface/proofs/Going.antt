-- An order to a pair went to the part that has the surface.
use Rattle.std.proofs.Common.{◌≡◌, ℕ, ◌-◌, ◌<◌, ◌≤◌, arith}
use Rattle.region_laws.specs.declared.rect.Rect.{Rect}
use Rattle.surface.specs.declared.order.Order.{Order}
use Rattle.surface.specs.declared.pair.Pair.{Pair}
use Rattle.surface.specs.Told.{Told}
use Rattle.surface.specs.Answered.{Becomes}
use Rattle.surface.specs.Paired.{PairBecomes, Went}
use Rattle.surface.specs.PairOwed.{by_part}

module _ {P A B : Type 0} (f : A → Told P) (m : Becomes A) (n : Becomes B) (s t : Pair A B) (k : ℕ) (o : Order) (d : Rect) where
  pub went_first : k < (f s.first).count → PairBecomes f m n s k o d t → m s.first k o d t.first × (t.second ≡ s.second)
  went_first lt =
      by_part (f s.first).count k (λ w. Went w m n s o d t → m s.first k o d t.first × (t.second ≡ s.second)) (λ i w. w) (λ i j. absurd (omega arith)) (λ i j. absurd (omega arith))

  pub went_second : (f s.first).count ≤ k → PairBecomes f m n s k o d t → n s.second (k - (f s.first).count) o d t.second × (t.first ≡ s.first)
  went_second le =
      by_part (f s.first).count k (λ w. Went w m n s o d t → n s.second (k - (f s.first).count) o d t.second × (t.first ≡ s.first)) (λ i. absurd (omega arith)) (λ i j w. w) (λ i j w. absurd w)
