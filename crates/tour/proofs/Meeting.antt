-- The ages that shows meet, as a list.
use Rattle.std.proofs.Common.{◌≡◌, ℕ, zero, suc, List, [], ◌∷◌, length, refl, ap, ◌∙◌, arith}
use Rattle.chain.specs.Screens.{Screens, back_age}
use Rattle.chains.specs.Picked.{pickings}
use Rattle.chains.specs.Met.{Met, meeting}
use Rattle.chains.specs.Ways.{turnings}
use Rattle.chains.specs.Kinds.{by_digits}
use Rattle.chains.specs.declared.picks.Picks.{Picks}
use Rattle.chains.proofs.Same.{picks}

pub met_is : {P : Type 0} (after : ℕ → Screens P) (ages : List ℕ) → Met after ages → ages ≡ meeting after (length ages)
met_is after [] m = refl
met_is after (a ∷ rest) m =
    let head : a ≡ back_age (after 0) = m 0 (omega arith) in
    let tail : rest ≡ meeting (λ i. after (suc i)) (length rest) = met_is (λ i. after (suc i)) rest (λ i h. m (suc i) (omega (arith, h))) in
    ap (λ (v : ℕ). v ∷ rest) head ∙ ap (λ (v : List ℕ). back_age (after 0) ∷ v) tail

-- the same, of a chain that tells what another does at first
pub met_from : {P : Type 0} (after : Screens P → ℕ → Screens P) (s t : Screens P) (ages : List ℕ) (n : ℕ) → length ages ≡ n → s ≡ t → Met (after s) ages → ages ≡ meeting (after t) n
met_from after s t ages n l e m =
    met_is (after s) ages m ∙ ap (λ (k : ℕ). meeting (after s) k) l ∙ ap (λ (u : Screens _). meeting (after u) n) e

-- the same of a picking chain, of a number and from a digit that are known
pub picks_from : {P : Type 0} (p : Picks) (m j : ℕ) (s t : Screens P) (ages : List ℕ) (n : ℕ) → length ages ≡ n → p.number ≡ m → p.at ≡ j → s ≡ t →
    Met (λ k. turnings by_digits k p s) ages → ages ≡ meeting (λ k. pickings m j k t) n
picks_from p m j s t ages n l e f g met =
    met_from (λ u k. pickings p.number p.at k u) s t ages n l g (λ i h. met i h ∙ ap back_age (picks p i s)) ∙ ap (λ (v : ℕ). meeting (λ k. pickings v p.at k t) n) e
    ∙ ap (λ (v : ℕ). meeting (λ k. pickings m v k t) n) f

-- chains that tell the same after the same number of swaps meet the same ages
met_alike : {P : Type 0} (f g : ℕ → Screens P) → ((k : ℕ) → f k ≡ g k) → (n : ℕ) → meeting f n ≡ meeting g n
met_alike f g e zero = refl
met_alike f g e (suc n) = ap (λ (s : Screens _). back_age s ∷ meeting (λ k. f (suc k)) n) (e 0) ∙ ap (λ (v : List ℕ). back_age (g 0) ∷ v) (met_alike (λ k. f (suc k)) (λ k. g (suc k)) (λ k. e (suc k)) n)

-- what the rule of digits meets, of a number and from a digit that are known
pub picked_is : {P : Type 0} (p : Picks) (m j : ℕ) (s : Screens P) (n : ℕ) → p.number ≡ m → p.at ≡ j →
    meeting (λ k. turnings by_digits k p s) n ≡ meeting (λ k. pickings m j k s) n
picked_is p m j s n e f =
    met_alike _ _ (λ k. picks p k s) n ∙ ap (λ (v : ℕ). meeting (λ k. pickings v p.at k s) n) e ∙ ap (λ (v : ℕ). meeting (λ k. pickings m v k s) n) f
