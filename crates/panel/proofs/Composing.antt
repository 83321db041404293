-- The pixel of a place, composed from the pane that hides all below it.
use Rattle.std.proofs.Common.{◌≡◌, ℕ, suc, ◌+◌, ◌<◌, Bool, true, false, cond, eqb, ◌⊎◌, List, [], ◌∷◌, length, get_or, take, drop, Some, None, fold, Option, sym, refl, ap, ◌∙◌, inl, inr, arith}
use Rattle.std.proofs.lemmas.List.{length-drop, get_or-drop, take-append-drop}
use Rattle.std.proofs.lemmas.List.Sums.{fold-append}
use Rattle.std.proofs.lemmas.Bool.Decides.{nat_tests}
use Rattle.std.proofs.lemmas.Bool.{both_ways, or_cases, eqb-true, cond-true}
use Rattle.surface.specs.Told.{Told}
use Rattle.reference.specs.Picture.{laid_over}
use Rattle.region_laws.specs.Boxes.{no_box}
use Rattle.panel.specs.declared.sight.Spot.{Spot}
use Rattle.panel.specs.declared.sight.Sight.{Sight}
use Rattle.panel.specs.Sights.{no_sight, spot_at, covered_by, sight_pixel, blocks, over, composed, Descends}

no_cover : (o : Option Spot) → covered_by o no_box ≡ false
no_cover None = refl
no_cover (Some a) = grind (arith, nat_tests)

no_block : (x y : ℕ) → blocks x y no_sight ≡ false
no_block x y = no_cover (spot_at x y no_sight)

module _ {P : Type 0} (lay : P → P → P) (t : Told P) (x y : ℕ) (base : P) where
  -- a pane is laid over what lies below it, or over the base where its solid box covers the place
  abbrev afresh : P → Sight → P
  afresh e s = laid_over lay (cond (blocks x y s) base e) (sight_pixel t x y s)

  -- where no pane of the rest hides the place, starting anew makes no difference
  fresh_rest : (d : P) (ss : List Sight) → ((j : ℕ) → j < length ss → blocks x y (get_or ss j no_sight) ≡ false)
      → fold afresh d ss ≡ over lay t x y d ss
  fresh_rest d [] h = refl
  fresh_rest d (s ∷ ss) h =
      ap (λ b. fold afresh (laid_over lay (cond b base d) (sight_pixel t x y s)) ss) (h 0 (omega arith))
      ∙ fresh_rest (laid_over lay d (sight_pixel t x y s)) ss (λ j k. h (suc j) (omega arith))

  fold_from : (d : P) (ss : List Sight) (i : ℕ) → fold afresh d ss ≡ fold afresh (fold afresh d (take i ss)) (drop i ss)
  fold_from d ss i = ap (fold afresh d) (sym (take-append-drop i ss)) ∙ fold-append afresh d (take i ss) (drop i ss)

  -- begun at the pane that hides all below it, or at the lowest
  begun : (ss : List Sight) (d : P) → ((j : ℕ) → 0 < j → j < length ss → blocks x y (get_or ss j no_sight) ≡ false) → (d ≡ base) ⊎ (blocks x y (get_or ss 0 no_sight) ≡ true)
      → fold afresh d ss ≡ over lay t x y base ss ⊎ (ss ≡ [])
  begun [] d h k = inr refl
  begun (s ∷ ss) d h k =
      inl (ap (λ e. fold afresh (laid_over lay e (sight_pixel t x y s)) ss) (start k)
      ∙ fresh_rest (laid_over lay base (sight_pixel t x y s)) ss (λ j l. h (suc j) (omega arith) (omega arith)))
    where
      start : (d ≡ base) ⊎ (blocks x y s ≡ true) → cond (blocks x y s) base d ≡ base
      start (inl e) = ap (cond (blocks x y s) base) e ∙ same (blocks x y s)
        where
          same : (b : Bool) → cond b base base ≡ base
          same true = refl
          same false = refl
      start (inr e) = cond-true (blocks x y s) base d e

  pub composed_from : (ss : List Sight) (from laid : ℕ) (p : P) → Descends ss x y from laid → p ≡ over lay t x y base (drop from ss) → p ≡ composed lay t base ss x y
  composed_from ss from laid p d e = e ∙ sym (fold_from base ss from ∙ go (begun (drop from ss) u (λ j l m. ap (blocks x y) (get_or-drop from ss j no_sight) ∙ d.above (from + j) (omega arith) (rest j m)) start))
    where
      u : P
      u = fold afresh base (take from ss)

      rest : (j : ℕ) → j < length (drop from ss) → from + j < length ss
      rest j m = let l = length-drop from ss in omega arith

      at_zero : (n : ℕ) → n ≡ 0 → fold afresh base (take n ss) ≡ base
      at_zero n z = ap (λ m. fold afresh base (take m ss)) z

      start : (fold afresh base (take from ss) ≡ base) ⊎ (blocks x y (get_or (drop from ss) 0 no_sight) ≡ true)
      start = case (or_cases (eqb from 0) (blocks x y (get_or ss from no_sight)) d.begins)
        where
          case : (eqb from 0 ≡ true) ⊎ (blocks x y (get_or ss from no_sight) ≡ true) → (fold afresh base (take from ss) ≡ base) ⊎ (blocks x y (get_or (drop from ss) 0 no_sight) ≡ true)
          case (inl z) = inl (at_zero from (eqb-true from 0 z))
          case (inr b) = inr (ap (blocks x y) (get_or-drop from ss 0 no_sight ∙ (let z : from + 0 ≡ from = omega arith in ap (λ n. get_or ss n no_sight) z)) ∙ b)

      go : (fold afresh u (drop from ss) ≡ over lay t x y base (drop from ss)) ⊎ (drop from ss ≡ [])
          → fold afresh (fold afresh base (take from ss)) (drop from ss) ≡ over lay t x y base (drop from ss)
      go (inl q) = q
      go (inr q) = ap (fold afresh u) q ∙ (empty start ∙ sym (ap (over lay t x y base) q))
        where
          empty : (fold afresh base (take from ss) ≡ base) ⊎ (blocks x y (get_or (drop from ss) 0 no_sight) ≡ true) → u ≡ base
          empty (inl z) = z
          empty (inr b) = absurd (both_ways (blocks x y no_sight) (no_block x y) (ap (λ v. blocks x y (get_or v 0 no_sight)) (sym q) ∙ b))
