-- The next buffer, 0 after the last.
use Rattle.std.proofs.Common.{◌≡◌, ℕ, ◌+◌, ◌%◌, ◌<◌, ap, ◌∙◌, ⊎_elim, mod-eq_of_lt, arith}
use native.Mathlib.Nat.{mod_self}
use Rattle.std.proofs.lemmas.Bool.{cases_eq}
use Rattle.std.proofs.lemmas.Bool.Decides.{nat_tests}
use Rattle.chains.specs.Digits.{following}

-- the next number is the next one modulo the count
pub next_mod : (b n : ℕ) → b < n → (b + 1) % n ≡ following b n
next_mod b n lt =
    ⊎_elim
    (λ e. let m = ap (λ (k : ℕ). k % n) e ∙ mod_self n in grind (arith, nat_tests))
    (λ ne. let h : b + 1 < n = omega arith in let m = mod-eq_of_lt h in grind (arith, nat_tests))
    (cases_eq (b + 1) n)
