-- Stacks on which no surface stands twice.
use Rattle.std.proofs.Common.{◌≡◌, ℕ, zero, suc, ◌<◌, Bool, true, false, cond, eqb, List, [], ◌∷◌, ◌++◌, length, get_or, set, Some, None, Option, sym, refl, subst, arith}
use Rattle.std.specs.Option.{option_map}
use Rattle.std.specs.List.{insert, remove}
use Rattle.std.proofs.lemmas.Bool.Decides.{nat_tests}
use Rattle.std.proofs.lemmas.Bool.{eqb-true}
use Rattle.reference.specs.declared.pane.Pane.{Pane}
use Rattle.reference.specs.Stack.{no_pane, height_of, moved, lifted, Without, Once}

eqb_swap : (a b : ℕ) → eqb a b ≡ false → eqb b a ≡ false
eqb_swap a b e = grind (arith, nat_tests)

-- a surface whose height is none is not on the stack
none_more : (b : Bool) (n : Option ℕ) (k : ℕ) (p : Pane) (ps : List Pane) → eqb p.surface k ≡ b → cond b (Some 0) (option_map suc n) ≡ None → (n ≡ None → Without k ps) → Without k (p ∷ ps)
none_more true n k p ps q e h = absurd (let z : ◌≡◌ {A = ℕ} 0 1 = cc in omega arith)
none_more false None k p ps q e h = (q, h refl)
none_more false (Some n) k p ps q e h = absurd (let z : ◌≡◌ {A = ℕ} 0 1 = cc in omega arith)

pub height_none : (k : ℕ) (ps : List Pane) → height_of k ps ≡ None → Without k ps
height_none k [] e = tt
height_none k (p ∷ ps) e = none_more (eqb p.surface k) (height_of k ps) k p ps refl e (height_none k ps)

-- the pane at the height of a surface is its pane
pub record At (k i : ℕ) (ps : List Pane) : Type 0 where
  pub inside : i < length ps
  pub surface : (get_or ps i no_pane).surface ≡ k

some_more : (b : Bool) (n : Option ℕ) (k i : ℕ) (p : Pane) (ps : List Pane) → eqb p.surface k ≡ b → cond b (Some 0) (option_map suc n) ≡ Some i → ((j : ℕ) → n ≡ Some j → At k j ps) → At k i (p ∷ ps)
some_more true n k i p ps q e h =
    let z : 0 ≡ i = cc in
    subst (λ m. At k m (p ∷ ps)) z (record { inside = omega arith; surface = eqb-true p.surface k q })
some_more false None k i p ps q e h = absurd (let z : ◌≡◌ {A = ℕ} 0 1 = cc in omega arith)
some_more false (Some n) k i p ps q e h =
    let r = h n refl in
    let s : suc n ≡ i = cc in
    subst (λ m. At k m (p ∷ ps)) s (record { inside = omega (arith, r.inside); surface = r.surface })

pub height_some : (k i : ℕ) (ps : List Pane) → height_of k ps ≡ Some i → At k i ps
height_some k i [] e = absurd (let z : ◌≡◌ {A = ℕ} 0 1 = cc in omega arith)
height_some k i (p ∷ ps) e = some_more (eqb p.surface k) (height_of k ps) k i p ps refl e (λ j. height_some k j ps)

without_removed : (k : ℕ) (ps : List Pane) (i : ℕ) → Without k ps → Without k (remove ps i)
without_removed k [] zero h = tt
without_removed k [] (suc i) h = tt
without_removed k (p ∷ ps) zero h = h.1
without_removed k (p ∷ ps) (suc i) h = (h.0, without_removed k ps i h.1)

without_inserted : (k : ℕ) (ps : List Pane) (n : ℕ) (q : Pane) → Without k ps → eqb q.surface k ≡ false → Without k (insert ps n q)
without_inserted k [] zero q h e = (e, tt)
without_inserted k [] (suc n) q h e = (e, tt)
without_inserted k (p ∷ ps) zero q h e = (e, h)
without_inserted k (p ∷ ps) (suc n) q h e = (h.0, without_inserted k ps n q h.1 e)

without_placed : (k : ℕ) (ps : List Pane) (q : Pane) → Without k ps → eqb q.surface k ≡ false → Without k (ps ++ q ∷ [])
without_placed k [] q h e = (e, tt)
without_placed k (p ∷ ps) q h e = (h.0, without_placed k ps q h.1 e)

without_at : (k : ℕ) (ps : List Pane) (i : ℕ) → Without k ps → i < length ps → eqb (get_or ps i no_pane).surface k ≡ false
without_at k [] i h l = absurd (omega arith)
without_at k (p ∷ ps) zero h l = h.0
without_at k (p ∷ ps) (suc i) h l = without_at k ps i h.1 (omega arith)

without_set : (k : ℕ) (ps : List Pane) (i : ℕ) (q : Pane) → Without k ps → eqb q.surface k ≡ false → Without k (set ps i q)
without_set k [] i q h e = tt
without_set k (p ∷ ps) zero q h e = (e, h.1)
without_set k (p ∷ ps) (suc i) q h e = (h.0, without_set k ps i q h.1 e)

pub once_removed : (ps : List Pane) (i : ℕ) → Once ps → Once (remove ps i)
once_removed [] zero h = tt
once_removed [] (suc i) h = tt
once_removed (p ∷ ps) zero h = h.1
once_removed (p ∷ ps) (suc i) h = (without_removed p.surface ps i h.0, once_removed ps i h.1)

once_inserted : (ps : List Pane) (n : ℕ) (q : Pane) → Once ps → Without q.surface ps → Once (insert ps n q)
once_inserted [] zero q h e = (tt, tt)
once_inserted [] (suc n) q h e = (tt, tt)
once_inserted (p ∷ ps) zero q h e = (e, h)
once_inserted (p ∷ ps) (suc n) q h e = (without_inserted p.surface ps n q h.0 (eqb_swap p.surface q.surface e.0), once_inserted ps n q h.1 e.1)

pub once_placed : (ps : List Pane) (q : Pane) → Once ps → Without q.surface ps → Once (ps ++ q ∷ [])
once_placed [] q h e = (tt, tt)
once_placed (p ∷ ps) q h e = (without_placed p.surface ps q h.0 (eqb_swap p.surface q.surface e.0), once_placed ps q h.1 e.1)

-- taken out of such a stack, a surface is off it
pub removed_without : (ps : List Pane) (i : ℕ) → Once ps → i < length ps → Without (get_or ps i no_pane).surface (remove ps i)
removed_without [] i h l = absurd (omega arith)
removed_without (p ∷ ps) zero h l = h.0
removed_without (p ∷ ps) (suc i) h l = (eqb_swap (get_or ps i no_pane).surface p.surface (without_at p.surface ps i h.0 (omega arith)), removed_without ps i h.1 (omega arith))

pub once_lifted : (ps : List Pane) (i n : ℕ) → Once ps → i < length ps → Once (lifted i n ps)
once_lifted ps i n h l = once_inserted (remove ps i) n (get_or ps i no_pane) (once_removed ps i h) (removed_without ps i h l)

pub once_moved : (ps : List Pane) (i : ℕ) (q : Pane) → Once ps → i < length ps → q.surface ≡ (get_or ps i no_pane).surface → Once (moved i q ps)
once_moved [] i q h l e = absurd (omega arith)
once_moved (p ∷ ps) zero q h l e = (subst (λ k. Without k ps) (sym e) h.0, h.1)
once_moved (p ∷ ps) (suc i) q h l e =
    (without_set p.surface ps i q h.0 (subst (λ k. eqb k p.surface ≡ false) (sym e) (without_at p.surface ps i h.0 (omega arith))), once_moved ps i q h.1 (omega arith) e)
