-- The regions that the reference keeps and states.
use Rattle.std.proofs.Common.{◌≡◌, ℕ, zero, suc, ◌-◌, ◌≤◌, Bool, true, false, ◌||◌, ltb, ◌⊎◌, List, [], ◌∷◌, take, ℤ, pos, negsuc, fold, sym, refl, ap, ◌∙◌, subst, inl, inr, ⊎_elim, arith}
use Rattle.std.specs.List.{AllByRecursion}
use Rattle.std.proofs.lemmas.Bool.Decides.{nat_tests}
use Rattle.std.proofs.lemmas.Bool.{cases_Bool, or_parts, or_from, cond-true, cond-false, and_parts, ltb-true}
use Rattle.region_laws.specs.Boxes.{box, inside, full}
use Rattle.region_laws.specs.Bands.{covers}
use Rattle.region_laws.specs.Joined.{joined, single}
use Rattle.region_laws.specs.declared.rect.Rect.{Rect}
use Rattle.region_laws.proofs.Join.{single_banded, joined_banded, joined_covers, joined_least}
use Rattle.region.specs.Clipped.{held, held_box}
use Rattle.region.specs.declared.signed_rect.SignedRect.{SignedRect}
use Rattle.chain.specs.Screens as screens
use Rattle.reference.specs.Damage.{State, whole, usable, stated, OnDisplay}
use Rattle.reference.specs.Freshness.{among, due}

-- a place that a join does not cover is in neither region
pub joined_off : (w h : ℕ) (a b : List Rect) (x y : ℕ) → OnDisplay w h a → OnDisplay w h b → covers (joined a b) x y ≡ false → (covers a x y ≡ false) × (covers b x y ≡ false)
joined_off w h a b x y p q e = or_parts (covers a x y) (covers b x y) (not_in (covers a x y || covers b x y) (covers (joined a b) x y) (joined_covers a b p.listed q.listed x y) e)
  where
    not_in : (u v : Bool) → (u ≡ true → v ≡ true) → v ≡ false → u ≡ false
    not_in true v f g = sym (f refl) ∙ g
    not_in false v f g = refl

pub joined_on : (w h : ℕ) (a b : List Rect) → OnDisplay w h a → OnDisplay w h b → OnDisplay w h (joined a b)
joined_on w h a b p q = record { listed = joined_banded a b p.listed q.listed; within = joined_least a b p.listed q.listed (box 0 0 w h) p.within q.within }

pub empty_on : (w h : ℕ) → OnDisplay w h []
empty_on w h = record { listed = refl; within = λ x y e. absurd (let z : ◌≡◌ {A = ℕ} 0 1 = cc in omega arith) }

or_false : (v : Bool) → (v || false) ≡ v
or_false true = refl
or_false false = refl

-- one box that covers a pixel and lies on the display
pub single_on : (w h : ℕ) (b : Rect) → w ≤ 1024 → h ≤ 1024 → full b ≡ true → b.right ≤ w → b.bottom ≤ h → OnDisplay w h (b ∷ [])
single_on w h b i j f r o =
    let q = and_parts (ltb b.left b.right) (ltb b.top b.bottom) f in
    let u = ltb-true b.left b.right q.0 in
    let v = ltb-true b.top b.bottom q.1 in
    record {
      listed = single_banded b (record { wide = u; high = v; right = omega arith; bottom = omega arith });
      within = λ x y e. in_display x y (sym (or_false (inside b x y)) ∙ e);
    }
  where
    in_display : (x y : ℕ) → inside b x y ≡ true → inside (box 0 0 w h) x y ≡ true
    in_display x y e = grind (arith, nat_tests)

pub whole_on : (w h : ℕ) → 1 ≤ w → w ≤ 1024 → 1 ≤ h → h ≤ 1024 → OnDisplay w h (whole w h)
whole_on w h a b c d = single_on w h (box 0 0 w h) b d (grind (arith, nat_tests)) (omega arith) (omega arith)

pub whole_covers : (w h x y : ℕ) → screens.inside w h x y ≡ true → covers (whole w h) x y ≡ true
whole_covers w h x y g = grind (arith, nat_tests)

held_le : (v : ℤ) (m : ℕ) → held v m ≤ m
held_le (pos n) m = omega arith
held_le (negsuc n) m = omega arith

-- a clipped box is a region of the display
pub clipped_on : (w h : ℕ) (b : SignedRect) → w ≤ 1024 → h ≤ 1024 → OnDisplay w h (single (held_box w h b))
clipped_on w h b i j = go (cases_Bool (full (held_box w h b)))
  where
    go : (full (held_box w h b) ≡ true) ⊎ (full (held_box w h b) ≡ false) → OnDisplay w h (single (held_box w h b))
    go (inl e) = subst (OnDisplay w h) (sym (cond-true (full (held_box w h b)) (held_box w h b ∷ []) [] e)) (single_on w h (held_box w h b) i j e (held_le b.right w) (held_le b.bottom h))
    go (inr e) = subst (OnDisplay w h) (sym (cond-false (full (held_box w h b)) (held_box w h b ∷ []) [] e)) (empty_on w h)

-- the stated region is one of the display
pub folded_on : (w h : ℕ) (n : ℕ) (r : List Rect) (rs : List (List Rect)) → OnDisplay w h r → AllByRecursion (OnDisplay w h) rs → OnDisplay w h (fold joined r (take n rs))
folded_on w h zero r rs p q = p
folded_on w h (suc n) r [] p q = p
folded_on w h (suc n) r (s ∷ ss) p q = folded_on w h n (joined r s) ss (joined_on w h r s p q.0) q.1

-- and covers whatever is pending or among the newest past damages
folded_off : (w h : ℕ) (n : ℕ) (r : List Rect) (rs : List (List Rect)) (x y : ℕ) → OnDisplay w h r → AllByRecursion (OnDisplay w h) rs → covers (fold joined r (take n rs)) x y ≡ false → (covers r x y || among n rs x y) ≡ false
folded_off w h zero r rs x y p q e = or_from (covers r x y) false e refl
folded_off w h (suc n) r [] x y p q e = or_from (covers r x y) false e refl
folded_off w h (suc n) r (s ∷ ss) x y p q e =
    let i = or_parts (covers (joined r s) x y) (among n ss x y) (folded_off w h n (joined r s) ss x y (joined_on w h r s p q.0) q.1 e) in
    let j = joined_off w h r s x y p q.0 i.0 in
    or_from (covers r x y) (covers s x y || among n ss x y) j.0 (or_from (covers s x y) (among n ss x y) j.1 i.1)

module _ (w h : ℕ) (a : 1 ≤ w) (b : w ≤ 1024) (c : 1 ≤ h) (d : h ≤ 1024) (st : State) (p : OnDisplay w h st.pending) (q : AllByRecursion (OnDisplay w h) st.past) where
  pub stated_on : (n : ℕ) → OnDisplay w h (stated w h n st)
  stated_on n =
      ⊎_elim
      (λ (u : usable n ≡ true). subst (OnDisplay w h) (sym (cond-true (usable n) (fold joined st.pending (take (n - 1) st.past)) (whole w h) u)) (folded_on w h (n - 1) st.pending st.past p q))
      (λ (u : usable n ≡ false). subst (OnDisplay w h) (sym (cond-false (usable n) (fold joined st.pending (take (n - 1) st.past)) (whole w h) u)) (whole_on w h a b c d))
      (cases_Bool (usable n))

  -- outside the stated region nothing can have changed
  pub stated_enough : (n x y : ℕ) → screens.inside w h x y ≡ true → covers (stated w h n st) x y ≡ false → due n st x y ≡ false
  stated_enough n x y g e =
      ⊎_elim
      (λ (u : usable n ≡ true). cond-true (usable n) (covers st.pending x y || among (n - 1) st.past x y) true u
      ∙ folded_off w h (n - 1) st.pending st.past x y p q (ap (λ r. covers r x y) (sym (cond-true (usable n) (fold joined st.pending (take (n - 1) st.past)) (whole w h) u)) ∙ e))
      (λ (u : usable n ≡ false). absurd (never (sym (whole_covers w h x y g) ∙ (ap (λ r. covers r x y) (sym (cond-false (usable n) (fold joined st.pending (take (n - 1) st.past)) (whole w h) u)) ∙ e))))
      (cases_Bool (usable n))
    where
      never : true ≡ false → ⊥
      never z = let o : ◌≡◌ {A = ℕ} 0 1 = cc in omega arith

pub past_on : (w h : ℕ) (n : ℕ) (rs : List (List Rect)) → AllByRecursion (OnDisplay w h) rs → AllByRecursion (OnDisplay w h) (take n rs)
past_on w h zero rs q = tt
past_on w h (suc n) [] q = tt
past_on w h (suc n) (r ∷ rs) q = (q.0, past_on w h n rs q.1)
