-- The stack of panes, bottom first.
use Rattle.std.specs.Prelude.{◌≡◌, ℕ, suc, false, cond, List, [], ◌∷◌, ◌++◌, ℤ, pos, Some, None, Option, ◌==◌, slice_index_or, slice_set}
use Rattle.std.specs.Option.{option_map}
use Rattle.std.specs.List.{insert, remove, AllByRecursion}
use Rattle.reference.specs.declared.pane.Pane.{Pane}

abbrev pub pane : ℕ → ℤ → ℤ → Pane
pane k x y = record { surface = k; x = x; y = y }

-- what stands in an unused slot
abbrev pub no_pane : Pane
no_pane = pane 0 (pos 0) (pos 0)

-- how many panes lie under that of surface k, if it is on the stack
abbrev pub height_of : ℕ → List Pane → Option ℕ
height_of k [] = None
height_of k (p ∷ ps) = cond (p.surface == k) (Some 0) (option_map suc (height_of k ps))

-- a stack with one pane more on top
abbrev pub placed : Pane → List Pane → List Pane
placed p ps = ps ++ p ∷ []

-- a stack whose pane at height i is another
abbrev pub moved : ℕ → Pane → List Pane → List Pane
moved i p ps = slice_set ps i p

-- a stack whose pane at height i was taken out and put back with n panes under it
abbrev pub lifted : ℕ → ℕ → List Pane → List Pane
lifted i n ps = insert (remove ps i) n (slice_index_or ps i no_pane)

-- no pane of surface k
abbrev pub Without : ℕ → List Pane → Type 0
Without k ps = AllByRecursion (λ p. (p.surface == k) ≡ false) ps

-- no surface twice
abbrev pub Once : List Pane → Type 0
Once [] = Unit {0}
Once (p ∷ ps) = Without p.surface ps × Once ps
