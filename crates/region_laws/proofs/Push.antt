-- One more run behind the others.
use Rattle.std.proofs.Common.{◌≡◌, ℕ, zero, suc, ◌<◌, ◌≤◌, Bool, true, false, cond, ◌&&◌, eqb, ltb, leb, ◌≢◌, ◌⊎◌, List, [], ◌∷◌, length, sym, refl, ap, ◌∙◌, subst, inl, inr, arith}
use Rattle.std.proofs.lemmas.Bool.Decides.{nat_tests}
use Rattle.std.proofs.lemmas.Bool.{cases_lt, and_parts, eqb-true, eq-eqb, both_ways, cond_both, cases_Bool, cond-true, cond-false, and_from}
use Rattle.region_laws.specs.Runs.{Run, run, at, Apart, Ok, reach, push, runs}
use Rattle.region_laws.proofs.Unique.{at_right, unique}

module _ {V : Type 0} (none : V) where
  -- a run ends at or before the last one
  pub ok_reach : (low : ℕ) (r : Run V) (rs : List (Run V)) → Ok none low (r ∷ rs) → r.to ≤ reach (r ∷ rs)
  ok_reach low r [] k = omega arith
  ok_reach low r (s ∷ ss) k = let h = ok_reach r.to s ss k.4 in omega arith

  -- past the last run nothing stands
  pub at_past : (low : ℕ) (rs : List (Run V)) (x : ℕ) → Ok none low rs → reach rs ≤ x → at none rs x ≡ none
  at_past low [] x k l = refl
  at_past low (r ∷ []) x k l = at_right none r [] x l
  at_past low (r ∷ s ∷ ss) x k l = let h = ok_reach low r (s ∷ ss) k in at_right none r (s ∷ ss) x (omega arith) ∙ at_past r.to (s ∷ ss) x k.4 l

module _ {V : Type 0} (same : V → V → Bool) where
  abbrev pub touch : Run V → ℕ → V → Bool
  touch r a v = eqb r.to a && same r.what v

  abbrev pub grown : Run V → ℕ → List (Run V)
  grown r b = run r.from b r.what ∷ []

  abbrev pub added : Run V → ℕ → ℕ → V → List (Run V)
  added r a b v = r ∷ run a b v ∷ []

  -- the step at the last run, by cases
  pub push_last : (r : Run V) (a b : ℕ) (v : V) (P : List (Run V) → Type 0) → (touch r a v ≡ true → P (grown r b)) → (touch r a v ≡ false → P (added r a b v)) → P (push same (r ∷ []) a b v)
  push_last r a b v P f g = cond_both (touch r a v) (grown r b) (added r a b v) P f g

  pub push_reach : (rs : List (Run V)) (a b : ℕ) (v : V) → reach (push same rs a b v) ≡ b
  push_reach [] a b v = refl
  push_reach (r ∷ []) a b v = push_last r a b v (λ rs. reach rs ≡ b) (λ _. refl) (λ _. refl)
  push_reach (r ∷ s ∷ []) a b v = push_last s a b v (λ rs. reach (r ∷ rs) ≡ b) (λ _. refl) (λ _. refl)
  push_reach (r ∷ s ∷ t ∷ rs) a b v = push_reach (s ∷ t ∷ rs) a b v

  pub push_length : (rs : List (Run V)) (a b : ℕ) (v : V) → length rs ≤ length (push same rs a b v)
  push_length [] a b v = omega arith
  push_length (r ∷ []) a b v = push_last r a b v (λ rs. 1 ≤ length rs) (λ _. omega arith) (λ _. omega arith)
  push_length (r ∷ s ∷ rs) a b v = let h = push_length (s ∷ rs) a b v in omega arith

module _ {V : Type 0} (same : V → V → Bool) (none : V) (is : (u v : V) → same u v ≡ true → u ≡ v) where
  pub push_at : (low : ℕ) (rs : List (Run V)) (a b : ℕ) (v : V) (x : ℕ) → Ok none low rs → reach rs ≤ a → a < b
      → at none (push same rs a b v) x ≡ cond (leb a x && ltb x b) v (at none rs x)
  push_at low [] a b v x k l m = refl
  push_at low (r ∷ []) a b v x k l m = push_last same r a b v (λ rs. at none rs x ≡ cond (leb a x && ltb x b) v (at none (r ∷ []) x))
      (λ t. let p = and_parts _ _ t in let e = eqb-true _ _ p.0 in let w = is _ _ p.1 in let u : r.from < r.to = k.1 in grind (arith, nat_tests))
      (λ f. let u : r.from < r.to = k.1 in grind (arith, nat_tests))
  push_at low (r ∷ s ∷ rs) a b v x k l m =
      let h = push_at r.to (s ∷ rs) a b v x k.4 l m in
      let e = ok_reach none low r (s ∷ rs) k in
      ap (λ w. cond (leb r.from x && ltb x r.to) r.what w) h ∙ grind (arith, nat_tests)

  pub push_ok : ((u v : V) → u ≡ v → same u v ≡ true) → (low : ℕ) (rs : List (Run V)) (a b : ℕ) (v : V) → Ok none low rs → low ≤ a → reach rs ≤ a → a < b → v ≢ none
      → Ok none low (push same rs a b v)
  push_ok eq low [] a b v k g l m n = (g, m, n, tt, tt)
  push_ok eq low (r ∷ []) a b v k g l m n = push_last same r a b v (λ rs. Ok none low rs)
      (λ t. (k.0, omega arith, k.2, tt, tt))
      (λ f. (k.0, k.1, k.2, (λ p q. both_ways _ f (and_from _ _ (eq-eqb _ _ p) (eq _ _ q))), (l, m, n, tt, tt)))
  push_ok eq low (r ∷ s ∷ []) a b v k g l m n =
      let e = ok_reach none low r (s ∷ []) k in
      (k.0, k.1, k.2, push_last same s a b v (λ rs. Apart r rs) (λ _. k.3) (λ _. k.3), push_ok eq r.to (s ∷ []) a b v k.4 (omega arith) l m n)
  push_ok eq low (r ∷ s ∷ t ∷ rs) a b v k g l m n =
      let e = ok_reach none low r (s ∷ t ∷ rs) k in
      (k.0, k.1, k.2, k.3, push_ok eq r.to (s ∷ t ∷ rs) a b v k.4 (omega arith) l m n)

  abbrev pub Made : (ℕ → V) → ℕ → List (Run V) → Type 0
  Made f n rs = Ok none 0 rs × (reach rs ≤ n) × ((x : ℕ) → at none rs x ≡ cond (ltb x n) (f x) none)

  -- one more stretch on which the function has one value
  pub made_push : ((u v : V) → u ≡ v → same u v ≡ true) → (f : ℕ → V) (a b : ℕ) (rs : List (Run V)) (v : V) → Made f a rs → a < b → v ≢ none
      → ((x : ℕ) → a ≤ x → x < b → f x ≡ v) → Made f b (push same rs a b v)
  made_push eq f a b rs v k l n c = (
    push_ok eq 0 rs a b v k.0 (omega arith) k.1 l n,
    (let h = push_reach same rs a b v in omega arith),
    λ x. push_at 0 rs a b v x k.0 k.1 l ∙ go x (cases_lt x a) (cases_lt x b),
  )
    where
      go : (x : ℕ) → (x < a) ⊎ (a ≤ x) → (x < b) ⊎ (b ≤ x) → cond (leb a x && ltb x b) v (at none rs x) ≡ cond (ltb x b) (f x) none
      go x (inl p) q = let h = k.2 x in grind (arith, nat_tests, h)
      go x (inr p) (inl q) = let h = c x p q in grind (arith, nat_tests, h)
      go x (inr p) (inr q) = let h = k.2 x in grind (arith, nat_tests, h)

  pub made_skip : (f : ℕ → V) (a b : ℕ) (rs : List (Run V)) → Made f a rs → a ≤ b → ((x : ℕ) → a ≤ x → x < b → f x ≡ none) → Made f b rs
  made_skip f a b rs k l c = (k.0, omega arith, λ x. k.2 x ∙ go x (cases_lt x a) (cases_lt x b))
    where
      go : (x : ℕ) → (x < a) ⊎ (a ≤ x) → (x < b) ⊎ (b ≤ x) → cond (ltb x a) (f x) none ≡ cond (ltb x b) (f x) none
      go x (inl p) q = grind (arith, nat_tests)
      go x (inr p) (inl q) = let h = c x p q in grind (arith, nat_tests, h)
      go x (inr p) (inr q) = grind (arith, nat_tests)

  -- the runs of a function are tidy, and have its values
  pub runs_made : ((u v : V) → u ≡ v → same u v ≡ true) → (f : ℕ → V) (n : ℕ) → Made f n (runs same none f n)
  runs_made eq f zero = (tt, omega arith, λ x. grind (arith, nat_tests))
  runs_made eq f (suc n) = go (runs_made eq f n) (cases_Bool (same none (f n)))
    where
      here : (x : ℕ) → n ≤ x → x < suc n → f x ≡ f n
      here x l u = ap f (omega arith)

      go : Made f n (runs same none f n) → (same none (f n) ≡ true) ⊎ (same none (f n) ≡ false) → Made f (suc n) (runs same none f (suc n))
      go k (inl t) = subst (λ (rs : List (Run V)). Made f (suc n) rs) (sym (cond-true _ _ _ t)) (made_skip f n (suc n) _ k (omega arith) (λ x l u. here x l u ∙ sym (is _ _ t)))
      go k (inr t) = subst (λ (rs : List (Run V)). Made f (suc n) rs) (sym (cond-false _ _ _ t)) (made_push eq f n (suc n) _ (f n) k (omega arith) (λ e. both_ways _ t (eq _ _ (sym e))) here)

  -- what is made of a function is its runs
  pub made_runs : ((u v : V) → u ≡ v → same u v ≡ true) → (f : ℕ → V) (n : ℕ) (rs : List (Run V)) → Made f n rs → rs ≡ runs same none f n
  made_runs eq f n rs k = let m = runs_made eq f n in unique none 0 rs (runs same none f n) k.0 m.0 (λ x. k.2 x ∙ sym (m.2 x))
