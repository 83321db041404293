-- Two shelves side by side.
use Rattle.std.proofs.Common.{Option, Some, None, sym, ap, ◌∙◌}
use Rattle.region_laws.specs.declared.rect.Rect.{Rect}
use Rattle.surface.specs.declared.order.Order.{Order}
use Rattle.surface.specs.declared.pair.Pair.{Pair}
use Rattle.surface.specs.declared.pair.Part.{Part}
use Rattle.surface.specs.declared.pair.Part.TheVariants.{First, Second}
use Rattle.surface.specs.Told.{Told}
use Rattle.surface.specs.Beside.{part, beside}
use Rattle.surface.specs.Answered.{Becomes}
use Rattle.surface.specs.Paired.{paired, Went, PairBecomes}
use Rattle.surface.specs.Settled.{Settled, Same}

-- a pair leaves no choice where its parts leave none
module _ {P A B : Type 0} (f : A → Told P) (g : B → Told P) (m : Becomes A) (n : Becomes B) (sa : Settled f m) (sb : Settled g n) where
  went_settled : (w : Option Part) (s t u : Pair A B) (o : Order) (b c : Rect) → Went w m n s o b t → Went w m n s o c u → Same (paired f g t) (paired f g u) b c
  went_settled None s t u o b c p q = absurd p
  went_settled (Some (First j)) s t u o b c p q =
      let h = sa s.first t.first u.first j o b c p.0 q.0 in
      record { told = ap (λ v. beside v (g t.second)) h.told ∙ ap (λ v. beside (f u.first) (g v)) (p.1 ∙ sym q.1); box = h.box }
  went_settled (Some (Second j)) s t u o b c p q =
      let h = sb s.second t.second u.second j o b c p.0 q.0 in
      record { told = ap (λ v. beside (f t.first) v) h.told ∙ ap (λ v. beside (f v) (g u.second)) (p.1 ∙ sym q.1); box = h.box }

  pub pair_settled : Settled (paired f g) (PairBecomes f m n)
  pair_settled s t u k o b c p q = went_settled (part (f s.first).count k) s t u o b c p q
