-- Two lists of runs with the same values are one list.
use Rattle.std.proofs.Common.{◌≡◌, ℕ, ◌<◌, ◌≤◌, ◌≢◌, ◌⊎◌, List, [], ◌∷◌, sym, refl, ◌∙◌, inl, inr, arith}
use Rattle.std.proofs.lemmas.Bool.{cases_lt, cases_order}
use Rattle.std.proofs.lemmas.Bool.Decides.{nat_tests}
use Rattle.region_laws.specs.Runs.{Run, at, Apart, Ok}

module _ {V : Type 0} (none : V) where
  pub at_in : (r : Run V) (rs : List (Run V)) (x : ℕ) → r.from ≤ x → x < r.to → at none (r ∷ rs) x ≡ r.what
  at_in r rs x l u = grind (arith, nat_tests)

  pub at_left : (r : Run V) (rs : List (Run V)) (x : ℕ) → x < r.from → at none (r ∷ rs) x ≡ at none rs x
  at_left r rs x l = grind (arith, nat_tests)

  pub at_right : (r : Run V) (rs : List (Run V)) (x : ℕ) → r.to ≤ x → at none (r ∷ rs) x ≡ at none rs x
  at_right r rs x l = grind (arith, nat_tests)

  -- nothing stands before the first run
  pub at_before : (low : ℕ) (rs : List (Run V)) (x : ℕ) → Ok none low rs → x < low → at none rs x ≡ none
  at_before low [] x k l = refl
  at_before low (r ∷ rs) x k l = at_left r rs x (omega arith) ∙ at_before r.to rs x k.4 (omega arith)

  pub ok_lower : (low high : ℕ) (rs : List (Run V)) → low ≤ high → Ok none high rs → Ok none low rs
  ok_lower low high [] l k = tt
  ok_lower low high (r ∷ rs) l k = (omega arith, k.1, k.2, k.3, k.4)

  -- right behind a run its value does not go on
  pub at_end : (r : Run V) (rs : List (Run V)) → r.what ≢ none → Apart r rs → Ok none r.to rs → at none rs r.to ≢ r.what
  at_end r [] n a k e = n (sym e)
  at_end r (s ∷ ss) n a k e = go (cases_order r.to s.from)
    where
      go : (r.to ≡ s.from) ⊎ ((r.to < s.from) ⊎ (s.from < r.to)) → ⊥
      go (inl q) = a q (sym e ∙ at_in s ss r.to (omega arith) (omega arith))
      go (inr (inl l)) = n (sym e ∙ at_before s.from (s ∷ ss) r.to (omega arith, k.1, k.2, k.3, k.4) l)
      go (inr (inr g)) = omega arith

  same_run : (r s : Run V) → r.from ≡ s.from → r.to ≡ s.to → r.what ≡ s.what → r ≡ s
  same_run r s p q e = λ i. record { from = p i; to = q i; what = e i }

  abbrev Alike : List (Run V) → List (Run V) → Type 0
  Alike xs ys = (x : ℕ) → at none xs x ≡ at none ys x

  alike_back : (xs ys : List (Run V)) → Alike xs ys → Alike ys xs
  alike_back xs ys e = λ x. sym (e x)

  starts : (low : ℕ) (r s : Run V) (rs ss : List (Run V)) → Ok none low (r ∷ rs) → Ok none low (s ∷ ss) → Alike (r ∷ rs) (s ∷ ss) → s.from ≤ r.from
  starts low r s rs ss k m e = go (cases_lt r.from s.from)
    where
      go : (r.from < s.from) ⊎ (s.from ≤ r.from) → s.from ≤ r.from
      go (inl l) = absurd (k.2 (sym (at_in r rs r.from (omega arith) k.1) ∙ (e r.from ∙ at_before s.from (s ∷ ss) r.from (omega arith, m.1, m.2, m.3, m.4) l)))
      go (inr g) = g

  ends : (low : ℕ) (r s : Run V) (rs ss : List (Run V)) → Ok none low (r ∷ rs) → Ok none low (s ∷ ss) → Alike (r ∷ rs) (s ∷ ss)
      → r.from ≡ s.from → r.what ≡ s.what → s.to ≤ r.to
  ends low r s rs ss k m e p q = go (cases_lt r.to s.to)
    where
      go : (r.to < s.to) ⊎ (s.to ≤ r.to) → s.to ≤ r.to
      go (inl l) = absurd (at_end r rs k.2 k.3 k.4 (sym (at_right r rs r.to (omega arith)) ∙ (e r.to ∙ (at_in s ss r.to (omega arith) l ∙ sym q))))
      go (inr g) = g

  rests : (r s : Run V) (rs ss : List (Run V)) → Ok none r.to rs → Ok none s.to ss → r.to ≡ s.to → Alike (r ∷ rs) (s ∷ ss) → Alike rs ss
  rests r s rs ss k m t e x = go (cases_lt x r.to)
    where
      go : (x < r.to) ⊎ (r.to ≤ x) → at none rs x ≡ at none ss x
      go (inl l) = at_before r.to rs x k l ∙ sym (at_before s.to ss x m (omega arith))
      go (inr g) = sym (at_right r rs x g) ∙ (e x ∙ at_right s ss x (omega arith))

  -- two lists of runs with the same values are one list
  pub unique : (low : ℕ) (xs ys : List (Run V)) → Ok none low xs → Ok none low ys → Alike xs ys → xs ≡ ys
  unique low [] [] k m e = refl
  unique low [] (s ∷ ss) k m e = absurd (m.2 (sym (at_in s ss s.from (omega arith) m.1) ∙ sym (e s.from)))
  unique low (r ∷ rs) [] k m e = absurd (k.2 (sym (at_in r rs r.from (omega arith) k.1) ∙ e r.from))
  unique low (r ∷ rs) (s ∷ ss) k m e =
      let back = alike_back (r ∷ rs) (s ∷ ss) e in
      let p : r.from ≡ s.from = omega (arith, starts low r s rs ss k m e, starts low s r ss rs m k back) in
      let q : r.what ≡ s.what = sym (at_in r rs r.from (omega arith) k.1) ∙ (e r.from ∙ at_in s ss r.from (omega arith) (omega arith)) in
      let t : r.to ≡ s.to = omega (arith, ends low r s rs ss k m e p q, ends low s r ss rs m k back (sym p) (sym q)) in
      let rest : rs ≡ ss = unique r.to rs ss k.4 (ok_lower r.to s.to ss (omega arith) m.4) (rests r s rs ss k.4 m.4 t e) in
      λ i. same_run r s p t q i ∷ rest i
