-- The proof, which a pair carries in its meaning, that two shelves side by side keep what every shelf owes. It says
-- nothing more than the type of `beside_sound`.
use Rattle.std.specs.Prelude.{◌≡◌, ℕ, ◌+◌, ◌-◌, ◌<◌, ◌≤◌, min, Bool, true, false, is_some, Some, None, Option, nat_lt, refl}
use Rattle.std.proofs.Common.{arith, sym, ◌∙◌, ⊎_elim}
use Rattle.std.proofs.lemmas.Bool.{ltb-true, ltb-false, lt-ltb, le-ltb, cases_lt, cond_both, both_ways}
use Rattle.surface.specs.declared.pair.Part.{Part}
use Rattle.surface.specs.declared.pair.Part.TheVariants.{First, Second}
use Rattle.surface.specs.Told.{Told, on, opened, fair, has, passes}
use Rattle.surface.specs.Sound.{Sound, boxed}
use Rattle.surface.specs.Beside.{part, from, beside}

-- a fact of the part that has surface k, by its three cases
pub by_part : (n k : ℕ) (Q : Option Part → Type 0) → (k < n → Q (Some (First k))) → (n ≤ k → k < 255 → Q (Some (Second (k - n)))) → (n ≤ k → 255 ≤ k → Q None) → Q (part n k)
by_part n k Q f g h = cond_both (nat_lt k n) _ _ Q
    (λ e. f (ltb-true k n e))
    (λ e. cond_both (nat_lt k 255) _ _ Q (λ i. g (ltb-false k n e) (ltb-true k 255 i)) (λ i. h (ltb-false k n e) (ltb-false k 255 i)))

same_test : (i m j n : ℕ) → (i < m → j < n) → (m ≤ i → n ≤ j) → nat_lt i m ≡ nat_lt j n
same_test i m j n f g = ⊎_elim (λ h. lt-ltb i m h ∙ sym (lt-ltb j n (f h))) (λ h. le-ltb i m h ∙ sym (le-ltb j n (g h))) (cases_lt i m)

module _ {P : Type 0} (hard : P → Bool) (a b : Told P) (s : Sound hard a) (t : Sound hard b) where
  there : {X : Type 0} (f g : ℕ → Option X) → ((k : ℕ) → is_some (f k) ≡ nat_lt k a.count) → ((k : ℕ) → is_some (g k) ≡ nat_lt k b.count)
      → (k : ℕ) → is_some (from (part a.count k) f g None) ≡ nat_lt k (min 255 (a.count + b.count))
  there f g p q k =
      let n = a.count in
      let m = b.count in
      let few = s.few in
      let some = t.some in
      by_part n k (λ w. is_some (from w f g None) ≡ nat_lt k (min 255 (n + m)))
      (λ h. p k ∙ same_test k n k (min 255 (n + m)) (λ i. omega arith) (λ i. omega arith))
      (λ h i. q (k - n) ∙ same_test (k - n) m k (min 255 (n + m)) (λ j. omega arith) (λ j. omega arith))
      (λ h i. sym (le-ltb k (min 255 (n + m)) (omega arith)))

  pub beside_sound : Sound hard (beside a b)
  beside_sound =
      let n = a.count in
      let c = beside a b in
      let few = s.few in
      let some = s.some in
      record {
        some = let more = t.some in omega arith;
        few = omega arith;
        sized = there a.size b.size s.sized t.sized;
        solids = there a.solid b.solid s.solids t.solids;
        sides = λ k. by_part n k (λ w. fair (from w a.size b.size None) ≡ true) (λ h. s.sides k) (λ h i. t.sides (k - n)) (λ h i. refl);
        pictures = λ k x y. by_part n k (λ w. is_some (from w (λ j. a.pixel j x y) (λ j. b.pixel j x y) None) ≡ on (from w a.size b.size None) x y)
            (λ h. s.pictures k x y) (λ h i. t.pictures (k - n) x y) (λ h i. refl);
        boxes = λ k. by_part n k (λ w. boxed (from w a.size b.size None) (from w a.solid b.solid None) ≡ true) (λ h. s.boxes k) (λ h i. t.boxes (k - n)) (λ h i. refl);
        hides = λ k x y. by_part n k (λ w. has (from w a.solid b.solid None) x y ≡ true → passes hard (from w (λ j. a.pixel j x y) (λ j. b.pixel j x y) None) ≡ true)
            (λ h. s.hides k x y) (λ h i. t.hides (k - n) x y) (λ h i e. absurd (both_ways false refl e));
        closed = λ k o. by_part n k (λ w. opened (from w a.size b.size None) ≡ false → from w (λ j. a.takes j o) (λ j. b.takes j o) false ≡ false)
            (λ h. s.closed k o) (λ h i. t.closed (k - n) o) (λ h i e. refl);
      }
