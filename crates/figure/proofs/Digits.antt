-- The characters of a number, read back.
use Rattle.std.proofs.Common.{◌≡◌, ℕ, suc, ◌+◌, ◌*◌, ◌/◌, ◌%◌, ◌<◌, ◌≤◌, true, false, eqb, leb, [], ◌∷◌, ◌⊎◌, ℤ, pos, negsuc, neg_ℤ, ◌≤ℤ◌, sym, refl, ap, ◌∙◌, inl, inr, ⊎_elim, arith}
use Rattle.std.proofs.lemmas.Int.{ints}
use Rattle.std.proofs.lemmas.Nat.{div-add-mod'}
use Rattle.std.proofs.lemmas.Bool.{cases_lt, le-leb, lt-leb, leb-true, ne_eqb, and_parts, and_from}
use Rattle.figure.specs.declared.character.Character.{Character}
use Rattle.figure.specs.Characters.{in_cell, in_range, row, read, tidy, Shows}

pub record Good (v : ℤ) : Type 0 where
  pub back : read (row v) ≡ v
  pub aligned : tidy (row v) ≡ true

-- four digits as a number
abbrev number : ℕ → ℕ → ℕ → ℕ → ℕ
number a b c d = (((0 * 10 + a) * 10 + b) * 10 + c) * 10 + d

-- how many digits a number of at most four has
sizes : (n : ℕ) → (n < 10) ⊎ (((10 ≤ n) × (n < 100)) ⊎ (((100 ≤ n) × (n < 1000)) ⊎ (1000 ≤ n)))
sizes n = ⊎_elim (λ a. inl a)
    (λ a. inr (⊎_elim (λ b. inl (a, b)) (λ b. inr (⊎_elim (λ d. inl (b, d)) (λ d. inr d) (cases_lt n 1000))) (cases_lt n 100)))
    (cases_lt n 10)

four : (n : ℕ) → n ≤ 9999 → number (n / 1000 % 10) (n / 100 % 10) (n / 10 % 10) (n / 1 % 10) ≡ n
four n h =
    let f : n / 10 / 10 ≡ n / 100 = omega arith in
    let g : n / 100 / 10 ≡ n / 1000 = omega arith in
    let a1 : n / 10 * 10 + n % 10 ≡ n = div-add-mod' n 10 in
    let a2 : n / 10 / 10 * 10 + n / 10 % 10 ≡ n / 10 = div-add-mod' (n / 10) 10 in
    let a3 : n / 100 / 10 * 10 + n / 100 % 10 ≡ n / 100 = div-add-mod' (n / 100) 10 in
    let a4 : n / 1000 % 10 ≡ n / 1000 = omega arith in
    let a5 : n / 1 % 10 ≡ n % 10 = omega arith in
    omega arith

good_pos : (n : ℕ) → n ≤ 9999 → Good (pos n)
good_pos n h = ⊎_elim
    (λ a.
    let p : leb 1000 n ≡ false = lt-leb _ _ (omega arith) in
    let q : leb 100 n ≡ false = lt-leb _ _ (omega arith) in
    let r : leb 10 n ≡ false = lt-leb _ _ (omega arith) in
    let e : number 0 0 0 (n / 1 % 10) ≡ n = omega arith in
    record { back = simp (p, q, r) (ap pos e); aligned = simp (p, q, r) })
    (⊎_elim
    (λ a.
    let p : leb 1000 n ≡ false = lt-leb _ _ (omega arith) in
    let q : leb 100 n ≡ false = lt-leb _ _ (omega arith) in
    let r : leb 10 n ≡ true = le-leb _ _ (omega arith) in
    let e : number 0 0 (n / 10 % 10) (n / 1 % 10) ≡ n = omega arith in
    let z : eqb (n / 10 % 10) 0 ≡ false = ne_eqb _ _ (λ i. omega arith) in
    record { back = simp (p, q, r) (ap pos e); aligned = simp (p, q, r, z) })
    (⊎_elim
    (λ a.
    let p : leb 1000 n ≡ false = lt-leb _ _ (omega arith) in
    let q : leb 100 n ≡ true = le-leb _ _ (omega arith) in
    let r : leb 10 n ≡ true = le-leb _ _ (omega arith) in
    let e : number 0 (n / 100 % 10) (n / 10 % 10) (n / 1 % 10) ≡ n = omega arith in
    let z : eqb (n / 100 % 10) 0 ≡ false = ne_eqb _ _ (λ i. omega arith) in
    record { back = simp (p, q, r) (ap pos e); aligned = simp (p, q, r, z) })
    (λ a.
    let p : leb 1000 n ≡ true = le-leb _ _ (omega arith) in
    let q : leb 100 n ≡ true = le-leb _ _ (omega arith) in
    let r : leb 10 n ≡ true = le-leb _ _ (omega arith) in
    let z : eqb (n / 1000 % 10) 0 ≡ false = ne_eqb _ _ (λ i. omega arith) in
    record { back = simp (p, q, r) (ap pos (four n h)); aligned = simp (p, q, r, z) })))
    (sizes n)

good_neg : (m : ℕ) → m ≤ 998 → Good (negsuc m)
good_neg m h = ⊎_elim
    (λ a.
    let p : leb 1000 (suc m) ≡ false = lt-leb _ _ (omega arith) in
    let q : leb 100 (suc m) ≡ false = lt-leb _ _ (omega arith) in
    let r : leb 10 (suc m) ≡ false = lt-leb _ _ (omega arith) in
    let e : number 0 0 0 (suc m / 1 % 10) ≡ suc m = omega arith in
    record { back = simp (p, q, r) (ap (λ k. neg_ℤ (pos k)) e); aligned = simp (p, q, r) })
    (⊎_elim
    (λ a.
    let p : leb 1000 (suc m) ≡ false = lt-leb _ _ (omega arith) in
    let q : leb 100 (suc m) ≡ false = lt-leb _ _ (omega arith) in
    let r : leb 10 (suc m) ≡ true = le-leb _ _ (omega arith) in
    let e : number 0 0 (suc m / 10 % 10) (suc m / 1 % 10) ≡ suc m = omega arith in
    let z : eqb (suc m / 10 % 10) 0 ≡ false = ne_eqb _ _ (λ i. omega arith) in
    record { back = simp (p, q, r) (ap (λ k. neg_ℤ (pos k)) e); aligned = simp (p, q, r, z) })
    (⊎_elim
    (λ a.
    let p : leb 1000 (suc m) ≡ false = lt-leb _ _ (omega arith) in
    let q : leb 100 (suc m) ≡ true = le-leb _ _ (omega arith) in
    let r : leb 10 (suc m) ≡ true = le-leb _ _ (omega arith) in
    let e : number 0 (suc m / 100 % 10) (suc m / 10 % 10) (suc m / 1 % 10) ≡ suc m = omega arith in
    let z : eqb (suc m / 100 % 10) 0 ≡ false = ne_eqb _ _ (λ i. omega arith) in
    record { back = simp (p, q, r) (ap (λ k. neg_ℤ (pos k)) e); aligned = simp (p, q, r, z) })
    (λ a. absurd (omega arith))))
    (sizes (suc m))

pub good : (v : ℤ) → in_range v ≡ true → Good v
good (pos n) e = good_pos n (leb-true n 9999 e)
good (negsuc m) e = good_neg m (leb-true m 998 (and_parts (leb m 998) true e).0)

pub in_range_lem : (v : ℤ) → negsuc 998 ≤ℤ v → v ≤ℤ pos 9999 → in_range v ≡ true
in_range_lem (pos n) a b = le-leb n 9999 (omega (arith, ints))
in_range_lem (negsuc m) a b = and_from (leb m 998) true (le-leb m 998 (omega (arith, ints))) refl

-- no two numbers share their characters
pub rows_apart : (u v : ℤ) → in_range u ≡ true → in_range v ≡ true → row u ≡ row v → u ≡ v
rows_apart u v i j e = sym (good u i).back ∙ ap read e ∙ (good v j).back

-- four characters that are those of a number in range show it
pub shows : (v : ℤ) (a b c d : Character) → negsuc 998 ≤ℤ v → v ≤ℤ pos 9999 → a ≡ in_cell v 0 → b ≡ in_cell v 1 → c ≡ in_cell v 2 → d ≡ in_cell v 3
    → Shows v (a ∷ b ∷ c ∷ d ∷ [])
shows v a b c d low high ea eb ec ed =
    let i = in_range_lem v low high in
    let e : a ∷ b ∷ c ∷ d ∷ [] ≡ row v = cc (ea, eb, ec, ed) in
    record {
      named = e;
      back = ap read e ∙ (good v i).back;
      apart = λ u j f. rows_apart u v j i (f ∙ e);
      aligned = ap tidy e ∙ (good v i).aligned;
    }
