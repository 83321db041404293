-- The numbers of a line, read one after another.
use Rattle.std.proofs.Common.{◌≡◌, ℕ, suc, ◌+◌, ◌-◌, ◌<◌, List, [], ◌∷◌, ◌++◌, length, take, set, ℤ, Ok, Err, Result, sym, refl, ap, ◌∙◌, append_assoc, arith}
use Rattle.std.proofs.lemmas.List.{take_more_set}
use Rattle.replies.specs.declared.refused.Refused.{Refused}
use Rattle.script.specs.Tokens.{State, token, step}
use Rattle.script.specs.Records.{then, as_number, numbers_of}

-- numbers, and those after them
abbrev pub prefixed : List ℤ → Result (List ℤ) Refused → Result (List ℤ) Refused
prefixed zs r = then r (λ ws. Ok (zs ++ ws))

one_more : (z : ℤ) (zs : List ℤ) (r : Result (List ℤ) Refused) → prefixed (zs ++ z ∷ []) r ≡ prefixed zs (then r (λ ws. Ok (z ∷ ws)))
one_more z zs (Ok ws) = ap Ok (append_assoc zs (z ∷ []) ws)
one_more z zs (Err e) = refl

-- a number that is read goes into the array
pub number_more : (n i : ℕ) (s t : State) (ns : List ℤ) (y z : ℤ) (r : Result ℤ Refused) (all : Result (List ℤ) Refused) → i < n → i < length ns → y ≡ z
    → prefixed (take i ns) (numbers_of (n - i) s) ≡ all → r ≡ as_number (token s) → r ≡ Ok z → t ≡ step s
    → prefixed (take (i + 1) (set ns i y)) (numbers_of (n - (i + 1)) t) ≡ all
number_more n i s t ns y z r all h l ey e er ez et =
    let k = n - (i + 1) in
    let m : n - i ≡ suc k = omega arith in
    ap (λ zs. prefixed zs (numbers_of k t)) (take_more_set ns i y l)
    ∙ ap (λ x. prefixed (take i ns ++ x ∷ []) (numbers_of k t)) ey
    ∙ one_more z (take i ns) (numbers_of k t)
    ∙ ap (λ u. prefixed (take i ns) (then (numbers_of k u) (λ ws. Ok (z ∷ ws)))) et
    ∙ ap (λ q. prefixed (take i ns) (then q (λ x. then (numbers_of k (step s)) (λ ws. Ok (x ∷ ws))))) (sym ez ∙ er)
    ∙ ap (λ j. prefixed (take i ns) (numbers_of j s)) (sym m)
    ∙ e

-- a field that is no number refuses the line
pub number_refused : (n i : ℕ) (s : State) (zs : List ℤ) (d : Refused) (r : Result ℤ Refused) (all : Result (List ℤ) Refused) → i < n
    → prefixed zs (numbers_of (n - i) s) ≡ all → r ≡ as_number (token s) → r ≡ Err d → Err d ≡ all
number_refused n i s zs d r all h e er ed =
    let k = n - (i + 1) in
    let m : n - i ≡ suc k = omega arith in
    ap (λ q. prefixed zs (then q (λ y. then (numbers_of k (step s)) (λ ws. Ok (y ∷ ws))))) (sym ed ∙ er)
    ∙ ap (λ j. prefixed zs (numbers_of j s)) (sym m) ∙ e
