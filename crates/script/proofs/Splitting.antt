-- The parts of a text are the part before the first byte that parts, and the parts of what comes after it.
use Rattle.std.proofs.Common.{◌≡◌, ℕ, suc, ◌+◌, ◌<◌, ◌≤◌, Bool, true, false, cond, not, eqb, ltb, List, [], ◌∷◌, length, take, drop, Some, None, Option, position, sym, refl, ap, ◌∙◌, arith}
use Rattle.std.specs.List.{onto_first, position_or_len, slice_split}
use Rattle.std.proofs.lemmas.Bool.Decides.{nat_tests}
use Rattle.std.proofs.lemmas.List.{take_all}
use Rattle.std.proofs.lemmas.List.Splits.{slice_split_first}
use Rattle.script.specs.Parting.{front_length, front, rest, parts, parts_after}
use Rattle.script.specs.Lines.{line, lines_after, lines_of}

-- a text that no byte parts is its only part
whole : (p : ℕ → Bool) (bs : List ℕ) → length bs ≤ position_or_len p bs → slice_split p bs ≡ bs ∷ []
whole p [] h = refl
whole p (b ∷ bs) h = step (p b) h (whole p bs)
  where
    step : (v : Bool) → length (b ∷ bs) ≤ cond (not v) (1 + position_or_len p bs) 0 → (length bs ≤ position_or_len p bs → slice_split p bs ≡ bs ∷ []) → cond v ([] ∷ slice_split p bs) (onto_first b (slice_split p bs)) ≡ (b ∷ bs) ∷ []
    step true h more = absurd (omega arith)
    step false h more = ap (onto_first b) (more (omega arith))

parts_first : (sep : ℕ) (bs : List ℕ) → parts sep bs ≡ front sep bs ∷ parts_after sep (rest sep bs)
parts_first sep bs = step (ltb (front_length sep bs) (length bs)) refl
  where
    step : (t : Bool) → t ≡ ltb (front_length sep bs) (length bs) → parts sep bs ≡ front sep bs ∷ parts_after sep (cond t (Some (drop (front_length sep bs + 1) bs)) None)
    step true e = slice_split_first (λ b. eqb b sep) bs 0 (grind (arith, nat_tests))
    step false e = let h : length bs ≤ front_length sep bs = grind (arith, nat_tests) in whole (λ b. eqb b sep) bs h ∙ ap (λ f. f ∷ []) (sym (take_all (front_length sep bs) bs h))

pub parted : (sep : ℕ) (bs f : List ℕ) (r : Option (List ℕ)) → f ≡ front sep bs → r ≡ rest sep bs → parts sep bs ≡ f ∷ parts_after sep r
parted sep bs f r e h = parts_first sep bs ∙ ap (λ g. g ∷ parts_after sep (rest sep bs)) (sym e) ∙ ap (λ q. f ∷ parts_after sep q) (sym h)

-- a byte that parts stands behind the first n bytes, or nowhere
pub at_some : (sep : ℕ) (bs : List ℕ) (n : ℕ) → Some n ≡ position (λ b. eqb b sep) bs → (take n bs ≡ front sep bs) × (Some (drop (n + 1) bs) ≡ rest sep bs)
at_some sep bs n e = step (front_length sep bs) (ltb (front_length sep bs) (length bs)) e
  where
    step : (k : ℕ) (t : Bool) → Some n ≡ cond t (Some k) None → (take n bs ≡ take k bs) × (Some (drop (n + 1) bs) ≡ cond t (Some (drop (k + 1) bs)) None)
    step k true e = let s : n ≡ k = cc in (ap (λ i. take i bs) s, ap (λ i. Some (drop (i + 1) bs)) s)
    step k false e = (cc, cc)

pub at_none : (sep : ℕ) (bs : List ℕ) → None ≡ position (λ b. eqb b sep) bs → (bs ≡ front sep bs) × (None ≡ rest sep bs)
at_none sep bs e = step (front_length sep bs) (ltb (front_length sep bs) (length bs)) refl e
  where
    step : (k : ℕ) (t : Bool) → t ≡ ltb k (length bs) → None ≡ cond t (Some k) None → (bs ≡ take k bs) × (None ≡ cond t (Some (drop (k + 1) bs)) None)
    step k true s e = (cc, cc)
    step k false s e = (sym (take_all k bs (grind (arith, nat_tests))), refl)

-- one byte more before the lines ls: `rest k` is what follows a first line of k bytes
one_more : (b : ℕ) (bs : List ℕ) (ls : List (List ℕ)) (rest : ℕ → List (List ℕ)) (v : Bool) (n : ℕ) → ls ≡ rest 0 → onto_first b ls ≡ (b ∷ take n bs) ∷ rest (1 + n)
    → cond v ([] ∷ ls) (onto_first b ls) ≡ take (cond (not v) (1 + n) 0) (b ∷ bs) ∷ rest (cond (not v) (1 + n) 0)
one_more b bs ls rest true n none some = ap (λ qs. [] ∷ qs) none
one_more b bs ls rest false n none some = let a : 1 + n ≡ suc n = omega arith in some ∙ ap (λ k. take k (b ∷ bs) ∷ rest (1 + n)) (sym a)

-- a script that is not empty is its first line and the lines after it
pub lines_first : (bs : List ℕ) → 0 < length bs → lines_of bs ≡ line bs ∷ lines_of (lines_after bs)
lines_first [] h = absurd (omega arith)
lines_first (b ∷ []) h = one_more b [] [] (λ k. lines_of (drop (k + 1) (b ∷ []))) (eqb b 10) 0 refl refl
lines_first (b ∷ c ∷ bs) h =
    let n = front_length 10 (c ∷ bs) in
    let next : 1 + n + 1 ≡ suc (n + 1) = omega arith in
    one_more b (c ∷ bs) (lines_of (c ∷ bs)) (λ k. lines_of (drop (k + 1) (b ∷ c ∷ bs))) (eqb b 10) n refl
    (ap (onto_first b) (lines_first (c ∷ bs) (omega arith)) ∙ ap (λ k. (b ∷ take n (c ∷ bs)) ∷ lines_of (drop k (b ∷ c ∷ bs))) (sym next))
