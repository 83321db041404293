-- The cells of a figure, and the smallest box over those that changed.
use Rattle.std.proofs.Common.{◌≡◌, ℕ, zero, suc, ◌+◌, ◌-◌, ◌*◌, ◌/◌, ◌%◌, ◌<◌, ◌≤◌, Bool, true, false, cond, ◌&&◌, ◌||◌, ltb, leb, List, [], ◌∷◌, ℤ, Option, Some, None, IfSome, sym, refl, ap, ◌∙◌, ⊎_elim, mul_assoc, mul_comm, add-mul, arith}
use Rattle.std.specs.List.{find, list_all}
use Rattle.std.proofs.lemmas.Nat.{mul-le, div-add-mod', mod_below, div_below, div-mul-add, mod-mul-add}
use Rattle.std.proofs.lemmas.Bool.{cases_lt, cases_Bool, both_ways, lt-ltb, le-ltb, ltb-true, leb-true, le-leb, and_parts, and_from, cond_both, or_cases, or_left, or_right, not_from_false, eqb-true}
use Rattle.region_laws.specs.Boxes.{box, no_box, full, Smallest}
use Rattle.surface.specs.Damaged.{Damaged}
use Rattle.surface.specs.Hull.{cut}
use Rattle.surface.proofs.Hulls.{in_from, from_in, hulls, one_smallest, none_smallest}
use Rattle.surface.proofs.Singles.{single_damaged}
use Rattle.figure.specs.declared.character.Character.{Character}
use Rattle.figure.specs.declared.character.Character.TheVariants.{Digit, Minus, Blank}
use Rattle.figure.specs.Characters.{in_cell}
use Rattle.figure.specs.Glyphs.{ink}
use Rattle.figure.specs.Figures.{accepts, inked, picture, Drawn, figure, same, cell, unlike, hit, touched, damage}

pub same_true : (a b : Character) → same a b ≡ true → a ≡ b
same_true (Digit d) (Digit e) h = ap Digit (eqb-true d e h)
same_true (Digit d) Minus h = absurd (both_ways false refl h)
same_true (Digit d) Blank h = absurd (both_ways false refl h)
same_true Minus (Digit e) h = absurd (both_ways false refl h)
same_true Minus Minus h = refl
same_true Minus Blank h = absurd (both_ways false refl h)
same_true Blank (Digit e) h = absurd (both_ways false refl h)
same_true Blank Minus h = absurd (both_ways false refl h)
same_true Blank Blank h = refl

-- one of four
pick : (f : ℕ → Bool) (i : ℕ) → i < 4 → f i ≡ true → ((f 0 || f 1) || (f 2 || f 3)) ≡ true
pick f zero h e = or_left _ _ (or_left _ _ e)
pick f (suc zero) h e = or_left _ _ (or_right (f 0) (f 1) e)
pick f (suc (suc zero)) h e = or_right (f 0 || f 1) _ (or_left _ _ e)
pick f (suc (suc (suc zero))) h e = or_right (f 0 || f 1) _ (or_right (f 2) (f 3) e)
pick f (suc (suc (suc (suc i)))) h e = absurd (omega arith)

record Picked (f : ℕ → Bool) : Type 0 where
  at : ℕ
  few : at < 4
  yes : f at ≡ true

picked : (f : ℕ → Bool) → ((f 0 || f 1) || (f 2 || f 3)) ≡ true → Picked f
picked f e = ⊎_elim
    (λ u. ⊎_elim (λ v. record { at = 0; few = omega arith; yes = v }) (λ v. record { at = 1; few = omega arith; yes = v }) (or_cases (f 0) (f 1) u))
    (λ u. ⊎_elim (λ v. record { at = 2; few = omega arith; yes = v }) (λ v. record { at = 3; few = omega arith; yes = v }) (or_cases (f 2) (f 3) u))
    (or_cases (f 0 || f 1) (f 2 || f 3) e)

-- what the search of the four cells, from the left or from the right, finds
found : (f : ℕ → Bool) (xs : List ℕ) (a : ℕ) → find f xs ≡ Some a → f a ≡ true
found f [] a s = let z : ◌≡◌ {A = ℕ} 0 1 = cc in absurd (omega arith)
found f (x ∷ xs) a s = cond_both (f x) _ _ (λ v. v ≡ Some a → f a ≡ true) (λ e t. let z : x ≡ a = cc in sym (ap f z) ∙ e) (λ e t. found f xs a t) s

-- one of cells that are all inside
within : (f : ℕ → Bool) (xs : List ℕ) (a : ℕ) → list_all (λ i. ltb i 4) xs ≡ true → find f xs ≡ Some a → a < 4
within f [] a h s = let z : ◌≡◌ {A = ℕ} 0 1 = cc in absurd (omega arith)
within f (x ∷ xs) a h s = cond_both (f x) _ _ (λ v. v ≡ Some a → a < 4) (λ e t. let z : x ≡ a = cc in let i = ltb-true x 4 (and_parts (ltb x 4) _ h).0 in omega arith) (λ e t. within f xs a (and_parts (ltb x 4) _ h).1 t) s

pub few : (f : ℕ → Bool) (xs : List ℕ) (r : Option ℕ) → list_all (λ i. ltb i 4) xs ≡ true → r ≡ find f xs → IfSome r (λ i. i < 4)
few f xs None h e = tt
few f xs (Some a) h e = within f xs a h (sym e)

from_left : (f : ℕ → Bool) (a i : ℕ) → find f (0 ∷ 1 ∷ 2 ∷ 3 ∷ []) ≡ Some a → i < 4 → f i ≡ true → a ≤ i
from_left f a zero s h t = grind arith
from_left f a (suc zero) s h t = grind arith
from_left f a (suc (suc zero)) s h t = grind arith
from_left f a (suc (suc (suc zero))) s h t = grind arith
from_left f a (suc (suc (suc (suc i)))) s h t = absurd (omega arith)

from_right : (f : ℕ → Bool) (a i : ℕ) → find f (3 ∷ 2 ∷ 1 ∷ 0 ∷ []) ≡ Some a → i < 4 → f i ≡ true → i ≤ a
from_right f a zero s h t = grind arith
from_right f a (suc zero) s h t = grind arith
from_right f a (suc (suc zero)) s h t = grind arith
from_right f a (suc (suc (suc zero))) s h t = grind arith
from_right f a (suc (suc (suc (suc i)))) s h t = absurd (omega arith)

one_right : (f : ℕ → Bool) (a : ℕ) → find f (0 ∷ 1 ∷ 2 ∷ 3 ∷ []) ≡ Some a → find f (3 ∷ 2 ∷ 1 ∷ 0 ∷ []) ≡ None → ⊥
one_right f a s n = grind arith

from_none : (f : ℕ → Bool) (i : ℕ) → find f (0 ∷ 1 ∷ 2 ∷ 3 ∷ []) ≡ None → i < 4 → f i ≡ false
from_none f zero s h = grind arith
from_none f (suc zero) s h = grind arith
from_none f (suc (suc zero)) s h = grind arith
from_none f (suc (suc (suc zero))) s h = grind arith
from_none f (suc (suc (suc (suc i)))) s h = absurd (omega arith)

module _ (old new : ℤ) (z : ℕ) where
  -- x lies in a cell whose character changed
  record Hit (x : ℕ) : Type 0 where
    at : ℕ
    few : at < 4
    left : 4 * z * at ≤ x
    right : x < 4 * z * at + 3 * z
    changed : unlike old new at ≡ true

  hit_from : (x y : ℕ) → touched old new z x y ≡ true → Hit x
  hit_from x y e =
      let p = picked (hit old new z x) e in
      let q = and_parts (cell z p.at x) (unlike old new p.at) p.yes in
      let r = and_parts (leb (4 * z * p.at) x) (ltb x (4 * z * p.at + 3 * z)) q.0 in
      record { at = p.at; few = p.few; left = leb-true _ _ r.0; right = ltb-true _ _ r.1; changed = q.1 }

  from_hit : (x y : ℕ) → Hit x → touched old new z x y ≡ true
  from_hit x y h = pick (hit old new z x) h.at h.few
      (and_from (cell z h.at x) _ (and_from _ _ (le-leb _ _ h.left) (lt-ltb _ _ h.right)) h.changed)

  on_cut : (x y : ℕ) → x < 15 * z → y < 5 * z → Hit x → cut (touched old new z) (15 * z) (5 * z) x y ≡ true
  on_cut x y i j h = and_from _ _ (and_from _ _ (lt-ltb _ _ i) (lt-ltb _ _ j)) (from_hit x y h)

  record Cut (x y : ℕ) : Type 0 where
    right : x < 15 * z
    bottom : y < 5 * z
    here : Hit x

  cut_from : (x y : ℕ) → cut (touched old new z) (15 * z) (5 * z) x y ≡ true → Cut x y
  cut_from x y e =
      let p = and_parts (ltb x (15 * z) && ltb y (5 * z)) (touched old new z x y) e in
      let q = and_parts (ltb x (15 * z)) (ltb y (5 * z)) p.0 in
      record { right = ltb-true _ _ q.0; bottom = ltb-true _ _ q.1; here = hit_from x y p.1 }

  -- from the first to the last cell that changed
  module _ (first last : ℕ) (pos : 0 < z) (f : find (unlike old new) (0 ∷ 1 ∷ 2 ∷ 3 ∷ []) ≡ Some first) (l : find (unlike old new) (3 ∷ 2 ∷ 1 ∷ 0 ∷ []) ≡ Some last) where
    ends_smallest : Smallest (cut (touched old new z) (15 * z) (5 * z)) (box (4 * z * first) 0 (4 * z * last + 3 * z) (5 * z))
    ends_smallest =
        let b = box (4 * z * first) 0 (4 * z * last + 3 * z) (5 * z) in
        let cf = found (unlike old new) (0 ∷ 1 ∷ 2 ∷ 3 ∷ []) first f in
        let cl = found (unlike old new) (3 ∷ 2 ∷ 1 ∷ 0 ∷ []) last l in
        let f4 : first < 4 = within (unlike old new) (0 ∷ 1 ∷ 2 ∷ 3 ∷ []) first refl f in
        let l4 : last < 4 = within (unlike old new) (3 ∷ 2 ∷ 1 ∷ 0 ∷ []) last refl l in
        let ordered : first ≤ last = (from_left (unlike old new) first last f l4 cl) in
        let span : 4 * z * first ≤ 4 * z * last = mul-le (4 * z) first (4 * z) last (omega arith) ordered in
        let most : 4 * z * last ≤ 4 * z * 3 = mul-le (4 * z) last (4 * z) 3 (omega arith) (omega arith) in
        record {
          covers = λ x y e.
              let t = cut_from x y e in
              let h = t.here in
              let i = h.at in
              let lo : first ≤ h.at = (from_left (unlike old new) first h.at f h.few h.changed) in
              let hi : h.at ≤ last = (from_right (unlike old new) last h.at l h.few h.changed) in
              let l : 4 * z * first ≤ 4 * z * h.at = mul-le (4 * z) first (4 * z) h.at (omega arith) lo in
              let r : 4 * z * h.at ≤ 4 * z * last = mul-le (4 * z) h.at (4 * z) last (omega arith) hi in
              from_in b x y (record { left = omega (arith, h.left); right = omega (arith, h.right); top = omega arith; bottom = t.bottom });
          least = λ c h x y e.
              let low = in_from c _ _ (h (4 * z * first) 0 (on_cut (4 * z * first) 0 (omega arith) (omega arith) (record { at = first; few = f4; left = omega arith; right = omega arith; changed = cf }))) in
              let high = in_from c _ _ (h (4 * z * last + 3 * z - 1) (5 * z - 1) (on_cut (4 * z * last + 3 * z - 1) (5 * z - 1) (omega arith) (omega arith)
              (record { at = last; few = l4; left = omega arith; right = omega arith; changed = cl }))) in
              let i = in_from b x y e in
              let i1 : 4 * z * first ≤ x = i.left in
              let i2 : x < 4 * z * last + 3 * z = i.right in
              let i3 : y < 5 * z = i.bottom in
              from_in c x y (record { left = omega arith; right = omega arith; top = omega arith; bottom = omega arith });
          plain = λ e. absurd (both_ways (full b) e (and_from _ _ (lt-ltb (4 * z * first) (4 * z * last + 3 * z) (omega arith)) (lt-ltb 0 (5 * z) (omega arith))));
        }

    pub ends_damage : box (4 * z * first) 0 (4 * z * last + 3 * z) (5 * z) ≡ damage old new z
    ends_damage = one_smallest (cut (touched old new z) (15 * z) (5 * z)) _ _ ends_smallest (hulls (touched old new z) (15 * z) (5 * z))

  -- no cell changed
  pub none_damage : find (unlike old new) (0 ∷ 1 ∷ 2 ∷ 3 ∷ []) ≡ None → no_box ≡ damage old new z
  none_damage h = one_smallest (cut (touched old new z) (15 * z) (5 * z)) _ _
      (none_smallest _ (λ x y e. let t = (cut_from x y e).here in both_ways _ (from_none (unlike old new) t.at h t.few) t.changed))
      (hulls (touched old new z) (15 * z) (5 * z))

  -- which both searches find
  pub one_damage : (first : ℕ) → find (unlike old new) (0 ∷ 1 ∷ 2 ∷ 3 ∷ []) ≡ Some first → find (unlike old new) (3 ∷ 2 ∷ 1 ∷ 0 ∷ []) ≡ None → no_box ≡ damage old new z
  one_damage first f l = absurd (one_right (unlike old new) first f l)

regroup : (n p z : ℕ) → (n * 4 + p) * z ≡ 4 * z * n + p * z
regroup n p z = add-mul (n * 4) p z ∙ ap (λ m. m + p * z) (mul_assoc n 4 z ∙ mul_comm n (4 * z))

-- the cell that has a column of the picture
in_cell_lem : (z x : ℕ) → 0 < z → x / z % 4 < 3 → (4 * z * (x / z / 4) ≤ x) × (x < 4 * z * (x / z / 4) + 3 * z)
in_cell_lem z x pos part =
    let e1 : x / z * z + x % z ≡ x = div-add-mod' x z in
    let e2 : x % z < z = mod_below x z pos in
    let e3 : x / z / 4 * 4 + x / z % 4 ≡ x / z = div-add-mod' (x / z) 4 in
    let e4 : x / z % 4 * z ≤ 2 * z = mul-le (x / z % 4) z 2 z (omega arith) (omega arith) in
    let e5 : x / z * z ≡ 4 * z * (x / z / 4) + x / z % 4 * z = ap (λ n. n * z) (sym e3) ∙ regroup (x / z / 4) (x / z % 4) z in
    (omega arith, omega arith)

-- every bit is where the cells have it
pub drawn : {P : Type 0} (z : ℕ) (v : ℤ) (dark light : P) → Drawn z v dark light
drawn z v dark light i c r dx dy h hx hy =
    let x : (4 * z * i + c * z + dx) / z ≡ i * 4 + c = ap (λ n. (n + dx) / z) (sym (regroup i c z)) ∙ div-mul-add (i * 4 + c) z dx hx in
    let y : (r * z + dy) / z ≡ r = div-mul-add r z dy hy in
    let q : (i * 4 + c) / 4 ≡ i = div-mul-add i 4 c h in
    let m : (i * 4 + c) % 4 ≡ c = mod-mul-add i 4 c h in
    ap (λ n. Some (cond (inked v n ((r * z + dy) / z)) dark light)) x ∙ ap (λ n. Some (cond (inked v (i * 4 + c) n) dark light)) y
    ∙ ap (λ n. Some (cond (ltb n 3 && ink (in_cell v ((i * 4 + c) / 4)) n r) dark light)) m ∙ ap (λ n. Some (cond (ltb c 3 && ink (in_cell v n) c r) dark light)) q

-- a place in no cell that changed has the ink that it had
pub kept_ink : (old new : ℤ) (z x y : ℕ) → 0 < z → x < 15 * z → touched old new z x y ≡ false → inked new (x / z) (y / z) ≡ inked old (x / z) (y / z)
kept_ink old new z x y pos xw out = ⊎_elim
    (λ part.
    let i = x / z / 4 in
    let at = in_cell_lem z x pos part in
    let four : x / z / 4 < 4 = omega (arith, div_below x z 15 pos xw) in
    ⊎_elim
    (λ e. ap (λ c. ltb (x / z % 4) 3 && ink c (x / z % 4) (y / z)) (sym (same_true (in_cell old i) (in_cell new i) e)))
    (λ e. absurd (both_ways (touched old new z x y) out (pick (hit old new z x) i four
    (and_from (cell z i x) _ (and_from _ _ (le-leb _ _ at.0) (lt-ltb _ _ at.1)) (not_from_false _ e)))))
    (cases_Bool (same (in_cell old i) (in_cell new i))))
    (λ le. let f : ltb (x / z % 4) 3 ≡ false = le-ltb _ _ le in simp f)
    (cases_lt (x / z % 4) 3)

-- what showing another number damages
pub show_damaged : {P : Type 0} (hard : P → Bool) (z : ℕ) (old new : ℤ) (dark light : P) (k : ℕ) → k ≡ 0 → 0 < z
    → Damaged (figure hard z old dark light) (figure hard z new dark light) k (damage old new z)
show_damaged hard z old new dark light k k0 pos =
    single_damaged (15 * z) (5 * z) (picture z old dark light) (picture z new dark light) (hard dark && hard light) (hard dark && hard light) accepts (touched old new z) k k0
    (λ x y i j e. ap (λ t. Some (cond t dark light)) (kept_ink old new z x y pos i e))
