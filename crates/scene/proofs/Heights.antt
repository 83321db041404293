-- Where the pane of a surface stands: at the first place whose pane is of that surface.
use Rattle.std.proofs.Common.{◌≡◌, ℕ, suc, ◌+◌, Bool, true, false, cond, not, ltb, eqb, List, [], ◌∷◌, length, Some, None, Option, ap, ◌∙◌, arith}
use Rattle.std.proofs.lemmas.Bool.Decides.{nat_tests}
use Rattle.std.specs.List.{position, position_or_len}
use Rattle.std.specs.Option.{option_map}
use Rattle.reference.specs.declared.pane.Pane.{Pane}
use Rattle.reference.specs.Stack.{height_of}

one_up : (n l : ℕ) → cond (ltb (1 + n) (suc l)) (Some (1 + n)) None ≡ option_map suc (cond (ltb n l) (Some n) None)
one_up n l = grind (arith, nat_tests)

further : (b : Bool) (n l : ℕ) (o : Option ℕ) → cond (ltb n l) (Some n) None ≡ o → cond (ltb (cond (not b) (1 + n) 0) (suc l)) (Some (cond (not b) (1 + n) 0)) None ≡ cond b (Some 0) (option_map suc o)
further true n l o e = grind (arith, nat_tests)
further false n l o e = one_up n l ∙ ap (option_map suc) e

pub position_is : (k : ℕ) (ps : List Pane) → position (λ p. eqb p.surface k) ps ≡ height_of k ps
position_is k [] = grind (arith, nat_tests)
position_is k (p ∷ ps) = further (eqb p.surface k) (position_or_len (λ q. eqb q.surface k) ps) (length ps) (height_of k ps) (position_is k ps)
