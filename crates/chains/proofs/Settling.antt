-- A rotating chain settles to the age that is its number of buffers.
use Rattle.std.proofs.Common.{◌≡◌, ℕ, zero, suc, ◌+◌, ◌-◌, ◌<◌, ◌≤◌, cond, eqb, sym, refl, ap, ◌∙◌, subst, ⊎_elim, add-zero, add-suc, add-one, arith}
use Rattle.std.proofs.lemmas.Bool.{cases_lt}
use Rattle.std.proofs.lemmas.Bool.Decides.{nat_tests}
use Rattle.chain.specs.Screens.{Screens, back_age}
use Rattle.chain.specs.Ages.{older}
use Rattle.chain.specs.Told.{screens}
use Rattle.chain.specs.declared.buffers.Buffers.{Buffers}
use Rattle.chain.proofs.Steps.{turn_is_function}
use Rattle.chains.specs.Digits.{following}
use Rattle.chains.specs.Rotation.{Rotated, rotated, rotations, Settles}

count_same : {P : Type 0} (k : ℕ) (s : Screens P) → (rotations k s).count ≡ s.count
count_same zero s = refl
count_same (suc k) s = count_same k s

back_below : {P : Type 0} (k : ℕ) (s : Screens P) → s.back < s.count → (rotations k s).back < s.count
back_below zero s lt = lt
back_below (suc k) s lt = let c = count_same k s in let b = back_below k s lt in grind (arith, nat_tests)

-- where the back is i swaps later: i further on, and round once at most
record Round (back count i now age : ℕ) : Type 0 where
  near : back + i < count → now ≡ back + i
  far : count ≤ back + i → now + count ≡ back + i
  aged : age ≡ i

-- one swap more, short of a whole round
round_step : (back count i now age : ℕ) → back < count → count ≤ 254 → 1 ≤ i → i < count → Round back count i now age →
    Round back count (suc i) (following now count) (cond (eqb back now) 1 (older age))
round_step back count i now age lt few low high r =
    ⊎_elim
    (λ in'. let e = r.near in' in record { near = λ h. grind (arith, nat_tests); far = λ h. grind (arith, nat_tests); aged = let a = r.aged in grind (arith, nat_tests) })
    (λ out. let e = r.far out in record { near = λ h. absurd (omega arith); far = λ h. grind (arith, nat_tests); aged = let a = r.aged in grind (arith, nat_tests) })
    (cases_lt (back + i) count)

-- what a round leaves of the buffer that was the back when it began
round : {P : Type 0} (s : Screens P) (i : ℕ) → s.back < s.count → s.count ≤ 254 → suc i ≤ s.count →
    Round s.back s.count (suc i) (rotations (suc i) s).back ((rotations (suc i) s).age s.back)
round s zero lt few high = record { near = λ h. grind (arith, nat_tests); far = λ h. grind (arith, nat_tests); aged = grind (arith, nat_tests) }
round s (suc i) lt few high =
    let r = round s i lt few (omega arith) in
    let t = rotations (suc i) s in
    let d = round_step s.back s.count (suc i) t.back (t.age s.back) lt few (omega arith) (omega arith) r in
    let c : t.count ≡ s.count = count_same (suc i) s in
    subst (λ (n : ℕ). Round s.back s.count (suc (suc i)) (following t.back n) (cond (eqb s.back t.back) 1 (older (t.age s.back)))) (sym c) d

-- after a whole round the back is where it was, and its age is the number of buffers
whole_round : {P : Type 0} (s : Screens P) (n : ℕ) → n ≡ s.count → s.back < s.count → s.count ≤ 254 → back_age (rotations n s) ≡ s.count
whole_round s zero e lt few = absurd (omega arith)
whole_round s (suc i) e lt few =
    let r = round s i lt few (omega arith) in
    let f = r.far (omega arith) in
    let b : (rotations (suc i) s).back ≡ s.back = omega arith in
    ap (λ (k : ℕ). (rotations (suc i) s).age k) b ∙ r.aged ∙ e

-- k swaps, and then j more
rotations_after : {P : Type 0} (j k : ℕ) (s : Screens P) → rotations (k + j) s ≡ rotations j (rotations k s)
rotations_after zero k s = ap (λ (n : ℕ). rotations n s) (add-zero k)
rotations_after (suc j) k s = ap (λ (n : ℕ). rotations n s) (add-suc k j) ∙ ap rotated (rotations_after j k s)

pub settles : {P : Type 0} (s t : Screens P) (k : ℕ) → s.back < s.count → s.count ≤ 254 → t ≡ rotations k s → Settles s k t
settles s t k lt few e le =
    let m = k - s.count in
    let c = count_same m s in
    let d : k ≡ m + s.count = omega arith in
    let a = back_below m s lt in
    let h = whole_round (rotations m s) s.count (sym c) (omega arith) (omega arith) in
    ap back_age (e ∙ ap (λ (n : ℕ). rotations n s) d ∙ rotations_after s.count m s) ∙ h ∙ c

pub settles_buffers : {P : Type 0} (b c : Buffers P) (k : ℕ) → screens c ≡ rotations k (screens b) → Settles (screens b) k (screens c)
settles_buffers b c k e = let few = b.state.few in settles (screens b) (screens c) k b.state.known.0 (omega arith) e

pub rotate_more : {P : Type 0} (s t v u : Screens P) (i : ℕ) → t ≡ rotations i s → v ≡ t → Rotated v u → u ≡ rotations (i + 1) s
rotate_more s t v u i e f r = turn_is_function v u _ _ r ∙ ap rotated (f ∙ e) ∙ sym (ap (λ (n : ℕ). rotations n s) (add-one i))
