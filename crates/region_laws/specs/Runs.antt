-- A function of 0, 1, 2, .. written as runs: stretches on which it has one value. Where no run stands, the value is
-- `none`. A row of pixels is such a function with the values true and false, a region one whose values are rows.
use Rattle.std.specs.Prelude.{◌≡◌, ℕ, zero, suc, ◌<◌, ◌≤◌, Bool, true, cond, not, ◌&&◌, ◌||◌, ◌≢◌, List, [], ◌∷◌, ◌==◌, nat_le, nat_lt}

-- from `from` up to and without `to` the value is `what`
pub record Run (V : Type 0) : Type 0 where
  pub from : ℕ
  pub to : ℕ
  pub what : V

abbrev pub run : {V : Type 0} → ℕ → ℕ → V → Run V
run a b v = record { from = a; to = b; what = v }

-- the value at x
abbrev pub at : {V : Type 0} → V → List (Run V) → ℕ → V
at none [] x = none
at none (r ∷ rs) x = cond (nat_le r.from x && nat_lt x r.to) r.what (at none rs x)

-- one more run behind the others, joined to the last where it touches it and has its value
abbrev pub push : {V : Type 0} → (V → V → Bool) → List (Run V) → ℕ → ℕ → V → List (Run V)
push same [] a b v = run a b v ∷ []
push same (r ∷ []) a b v = cond (r.to == a && same r.what v) (run r.from b r.what ∷ []) (r ∷ run a b v ∷ [])
push same (r ∷ s ∷ rs) a b v = r ∷ push same (s ∷ rs) a b v

-- the runs of the first n values of f
abbrev pub runs : {V : Type 0} → (V → V → Bool) → V → (ℕ → V) → ℕ → List (Run V)
runs same none f zero = []
runs same none f (suc n) =
    let before = runs same none f n in
    cond (same none (f n)) before (push same before n (suc n) (f n))

-- two runs that touch differ
abbrev pub Apart : {V : Type 0} → Run V → List (Run V) → Type 0
Apart r [] = Unit {0}
Apart r (s ∷ ss) = r.to ≡ s.from → r.what ≢ s.what

-- the runs start at `low` or later and stand in order, none is empty or says nothing, and two that touch differ
abbrev pub Ok : {V : Type 0} → V → ℕ → List (Run V) → Type 0
Ok none low [] = Unit {0}
Ok none low (r ∷ rs) = (low ≤ r.from) × (r.from < r.to) × (r.what ≢ none) × Apart r rs × Ok none r.to rs

-- the same as a test: the values are `good`, and two that touch are not `same`
abbrev pub apart : {V : Type 0} → (V → V → Bool) → Run V → List (Run V) → Bool
apart same r [] = true
apart same r (s ∷ ss) = nat_lt r.to s.from || not (same r.what s.what)

abbrev pub tidy : {V : Type 0} → (V → V → Bool) → (V → Bool) → ℕ → List (Run V) → Bool
tidy same good low [] = true
tidy same good low (r ∷ rs) = nat_le low r.from && (nat_lt r.from r.to && (good r.what && (apart same r rs && tidy same good r.to rs)))

-- where the last run ends
abbrev pub reach : {V : Type 0} → List (Run V) → ℕ
reach [] = 0
reach (r ∷ []) = r.to
reach (r ∷ s ∷ rs) = reach (s ∷ rs)
