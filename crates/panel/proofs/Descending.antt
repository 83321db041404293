-- Going down the stack at a place.
use Rattle.std.proofs.Common.{◌≡◌, ℕ, ◌+◌, ◌-◌, ◌<◌, ◌≤◌, Bool, true, false, cond, eqb, ◌⊎◌, List, length, get_or, take, is_some, Some, None, Option, sym, refl, ap, ◌∙◌, subst, inl, inr, arith, take_all}
use Rattle.std.proofs.lemmas.List.{get_or-take, length-take, take-take}
use Rattle.std.proofs.lemmas.List.Sums.{fold_more}
use Rattle.std.proofs.lemmas.Bool.{cases_lt, or_right}
use Rattle.panel.specs.declared.sight.Spot.{Spot}
use Rattle.panel.specs.declared.sight.Sight.{Sight}
use Rattle.panel.specs.Sights.{no_sight, spot_at, covered_by, meets, blocks, stacked, Descends}

-- before the pane at height i - 1 is looked at
pub record Going (ss : List Sight) (x y i laid : ℕ) : Type 0 where
  pub few : laid + i ≤ length ss
  pub sum : laid + stacked (take i ss) x y ≡ stacked ss x y
  pub clear : (j : ℕ) → i ≤ j → j < length ss → blocks x y (get_or ss j no_sight) ≡ false

module _ (ss : List Sight) (x y : ℕ) where
  pub going_begins : (n : ℕ) → n ≡ length ss → Going ss x y n 0
  going_begins n e = record {
    few = omega arith;
    sum = (let z = ap (λ v. stacked v x y) (take_all n ss (omega arith)) in omega arith);
    clear = λ j h k. absurd (omega arith);
  }

  more : (n : ℕ) (s : Sight) → ℕ
  more n s = cond (meets x y s) 1 0 + cond (blocks x y s) 0 n

  down : (i : ℕ) → 0 < i → i ≤ length ss → stacked (take i ss) x y ≡ cond (meets x y (get_or ss (i - 1) no_sight)) 1 0 + cond (blocks x y (get_or ss (i - 1) no_sight)) 0 (stacked (take (i - 1) ss) x y)
  down i low high =
      let lt : i - 1 < length ss = omega arith in
      let same : i ≡ i - 1 + 1 = omega arith in
      ap (λ k. stacked (take k ss) x y) same ∙ fold_more (λ n s. cond (meets x y s) 1 0 + cond (blocks x y s) 0 n) 0 ss (i - 1) no_sight lt

  further : (i : ℕ) (b : Bool) → ((j : ℕ) → i ≤ j → j < length ss → blocks x y (get_or ss j no_sight) ≡ false) → blocks x y (get_or ss (i - 1) no_sight) ≡ false → 0 < i → (j : ℕ) → i - 1 ≤ j → j < length ss → blocks x y (get_or ss j no_sight) ≡ false
  further i b f e p j h k = go (cases_lt j i)
    where
      go : (j < i) ⊎ (i ≤ j) → blocks x y (get_or ss j no_sight) ≡ false
      go (inl q) = let z : j ≡ i - 1 = omega arith in ap (λ n. blocks x y (get_or ss n no_sight)) z ∙ e
      go (inr q) = f j q k

  -- the pane does not cover the place
  pub going_past : (i laid : ℕ) → 0 < i → i ≤ length ss → spot_at x y (get_or ss (i - 1) no_sight) ≡ None → Going ss x y i laid → Going ss x y (i - 1) laid
  going_past i laid low high e g =
      let b : blocks x y (get_or ss (i - 1) no_sight) ≡ false = ap (λ o. covered_by o (get_or ss (i - 1) no_sight).solid) e in
      let m : meets x y (get_or ss (i - 1) no_sight) ≡ false = ap is_some e in
      let d = down i low high ∙ (ap (λ v. cond v 1 0 + cond (blocks x y (get_or ss (i - 1) no_sight)) 0 (stacked (take (i - 1) ss) x y)) m ∙ ap (λ v. 0 + cond v 0 (stacked (take (i - 1) ss) x y)) b) in
      let s = g.sum in
      let f = g.few in
      record { few = omega arith; sum = omega arith; clear = further i true g.clear b low }

  -- it covers the place, and its solid box does not
  pub going_met : (i laid : ℕ) (a : Spot) → 0 < i → i ≤ length ss → spot_at x y (get_or ss (i - 1) no_sight) ≡ Some a → covered_by (Some a) (get_or ss (i - 1) no_sight).solid ≡ false → Going ss x y i laid → Going ss x y (i - 1) (laid + 1)
  going_met i laid a low high e c g =
      let b : blocks x y (get_or ss (i - 1) no_sight) ≡ false = ap (λ o. covered_by o (get_or ss (i - 1) no_sight).solid) e ∙ c in
      let m : meets x y (get_or ss (i - 1) no_sight) ≡ true = ap is_some e in
      let d = down i low high ∙ (ap (λ v. cond v 1 0 + cond (blocks x y (get_or ss (i - 1) no_sight)) 0 (stacked (take (i - 1) ss) x y)) m ∙ ap (λ v. 1 + cond v 0 (stacked (take (i - 1) ss) x y)) b) in
      let s = g.sum in
      let f = g.few in
      record { few = omega arith; sum = omega arith; clear = further i true g.clear b low }

  -- its solid box covers the place
  pub going_shut : (i laid : ℕ) (a : Spot) → 0 < i → i ≤ length ss → length ss ≤ 16 → spot_at x y (get_or ss (i - 1) no_sight) ≡ Some a → covered_by (Some a) (get_or ss (i - 1) no_sight).solid ≡ true → Going ss x y i laid → Descends ss x y (i - 1) (laid + 1)
  going_shut i laid a low high few e c g =
      let b : blocks x y (get_or ss (i - 1) no_sight) ≡ true = ap (λ o. covered_by o (get_or ss (i - 1) no_sight).solid) e ∙ c in
      let m : meets x y (get_or ss (i - 1) no_sight) ≡ true = ap is_some e in
      let d = down i low high ∙ (ap (λ v. cond v 1 0 + cond (blocks x y (get_or ss (i - 1) no_sight)) 0 (stacked (take (i - 1) ss) x y)) m ∙ ap (λ v. 1 + cond v 0 (stacked (take (i - 1) ss) x y)) b) in
      let s = g.sum in
      let f = g.few in
      record {
        within = omega arith;
        begins = or_right (eqb (i - 1) 0) (blocks x y (get_or ss (i - 1) no_sight)) b;
        above = λ j h k. g.clear j (omega arith) k;
        counted = omega arith;
        few = omega arith;
      }

  -- none is left
  pub going_ends : (laid : ℕ) → length ss ≤ 16 → Going ss x y 0 laid → Descends ss x y 0 laid
  going_ends laid few g =
      let s = g.sum in
      let f = g.few in
      record { within = omega arith; begins = refl; above = λ j h k. g.clear j (omega arith) k; counted = omega arith; few = omega arith }

-- the same, over the list of those that are left
pub record Left (ss : List Sight) (x y : ℕ) (rest : List Sight) (laid : ℕ) : Type 0 where
  pub lower : rest ≡ take (length rest) ss
  pub going : Going ss x y (length rest) laid

pub left_all : (ss : List Sight) (x y : ℕ) → Left ss x y ss 0
left_all ss x y = record { lower = sym (take_all (length ss) ss (omega arith)); going = going_begins ss x y (length ss) refl }

module _ (ss rest : List Sight) (x y laid : ℕ) (g : Left ss x y rest laid) (low : 1 ≤ length rest) where
  within : length rest ≤ length ss
  within = let f = g.going.few in omega arith

  shorter : length (take (length rest - 1) rest) ≡ length rest - 1
  shorter = simp length-take (omega arith)

  top : get_or ss (length rest - 1) no_sight ≡ get_or rest (length rest - 1) no_sight
  top = sym (ap (λ r. get_or r (length rest - 1) no_sight) g.lower ∙ get_or-take (length rest) ss (length rest - 1) no_sight (omega arith))

  fewer : (m : ℕ) → Going ss x y (length rest - 1) m → Left ss x y (take (length rest - 1) rest) m
  fewer m h = record {
    lower = ap (take (length rest - 1)) g.lower ∙ take-take (length rest - 1) (length rest) ss (omega arith) ∙ ap (λ k. take k ss) (sym shorter);
    going = subst (λ k. Going ss x y k m) (sym shorter) h;
  }

  pub left_past : (o : Option Spot) → o ≡ spot_at x y (get_or rest (length rest - 1) no_sight) → o ≡ None → Left ss x y (take (length rest - 1) rest) laid
  left_past o e f = fewer laid (going_past ss x y (length rest) laid low within (ap (spot_at x y) top ∙ sym e ∙ f) g.going)

  module _ (o : Option Spot) (a : Spot) (c : Bool) (e : o ≡ spot_at x y (get_or rest (length rest - 1) no_sight)) (f : o ≡ Some a) (h : c ≡ covered_by (Some a) (get_or rest (length rest - 1) no_sight).solid) where
    pub left_met : c ≡ false → Left ss x y (take (length rest - 1) rest) (laid + 1)
    left_met k = fewer (laid + 1) (going_met ss x y (length rest) laid a low within (ap (spot_at x y) top ∙ sym e ∙ f) (ap (λ s. covered_by (Some a) s.solid) top ∙ sym h ∙ k) g.going)

    pub left_shut : length ss ≤ 16 → c ≡ true → Descends ss x y (length (take (length rest - 1) rest)) (laid + 1)
    left_shut few k =
        subst (λ n. Descends ss x y n (laid + 1)) (sym shorter)
        (going_shut ss x y (length rest) laid a low within few (ap (spot_at x y) top ∙ sym e ∙ f) (ap (λ s. covered_by (Some a) s.solid) top ∙ sym h ∙ k) g.going)

pub left_none : (ss rest : List Sight) (x y laid : ℕ) → length ss ≤ 16 → length rest < 1 → Left ss x y rest laid → Descends ss x y 0 laid
left_none ss rest x y laid few none g = going_ends ss x y laid few (subst (λ n. Going ss x y n laid) (omega arith) g.going)
