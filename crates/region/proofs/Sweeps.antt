-- Where a row stands in a banded list: past the boxes that end above it, before those that begin below it.
use Rattle.std.proofs.Common.{◌≡◌, ℕ, true, ◌+◌, ◌-◌, ◌<◌, ◌≤◌, List, length, get_or, take, drop, None, Some, Option, MatchOption, unwrap_or, sym, ap, ◌∙◌, subst, arith}
use Rattle.std.specs.List.{AllWithin, HoldsAt}
use Rattle.std.proofs.lemmas.List.{get_or-drop, length-drop}
use Rattle.region_laws.specs.Boxes.{no_box}
use Rattle.region_laws.specs.Bands.{banded}
use Rattle.region_laws.specs.Spans.{row_at}
use Rattle.region_laws.specs.declared.rect.Rect.{Rect}
use Rattle.region_laws.proofs.Strips.{strip_row}

-- the boxes from number i on up to and without number i + k are passed over, and that one, if it is there, is not
pub record Passed (Over Stop : Rect → Type 0) (bs : List Rect) (i k : ℕ) : Type 0 where
  pub within : i + k ≤ length bs
  pub over : (m : ℕ) → i ≤ m → m < i + k → Over (get_or bs m no_box)
  pub stop : i + k < length bs → Stop (get_or bs (i + k) no_box)

-- as a search through the boxes from number i on finds it
pub passed : (Over Stop : Rect → Type 0) (bs rest : List Rect) (i : ℕ) (r : Option ℕ) → rest ≡ drop i bs → i ≤ length bs
    → MatchOption r (AllWithin Over rest 0 (length rest)) (λ j. (j < length rest) × HoldsAt Stop rest j × AllWithin Over rest 0 j)
    → Passed Over Stop bs i (unwrap_or r (length rest))
passed Over Stop bs rest i r e w f = go r f
  where
    short : length rest ≡ length bs - i
    short = ap length e ∙ length-drop i bs

    at : (m : ℕ) → i ≤ m → get_or rest (m - i) no_box ≡ get_or bs m no_box
    at m l = let n : i + (m - i) ≡ m = omega arith in ap (λ v. get_or v (m - i) no_box) e ∙ (get_or-drop i bs (m - i) no_box ∙ ap (λ v. get_or bs v no_box) n)

    go : (o : Option ℕ) → MatchOption o (AllWithin Over rest 0 (length rest)) (λ j. (j < length rest) × HoldsAt Stop rest j × AllWithin Over rest 0 j) → Passed Over Stop bs i (unwrap_or o (length rest))
    go None h =
        let z = short in
        record {
          within = omega arith;
          over = λ m l u. subst Over (at m l) (h (m - i) no_box (omega arith) (omega arith));
          stop = λ u. absurd (omega arith);
        }
    go (Some j) h =
        let z = short in
        let a = h.0 in
        let n : i + j - i ≡ j = omega arith in
        record {
          within = omega arith;
          over = λ m l u. subst Over (at m l) (h.2 (m - i) no_box (omega arith) (omega arith));
          stop = λ u. subst Stop (ap (λ v. get_or rest v no_box) (sym n) ∙ at (i + j) (omega arith)) (h.1 no_box);
        }

-- the boxes of row y: of those that do not end above it, the ones that begin at it or above
pub row_found : (bs rest : List Rect) (y i k : ℕ) → banded bs ≡ true → rest ≡ drop i bs
    → ((m : ℕ) → m < i → (get_or bs m no_box).bottom ≤ y) → (i < length bs → y < (get_or bs i no_box).bottom)
    → Passed (λ (b : Rect). b.top ≤ y) (λ (b : Rect). y < b.top) bs i k → take k rest ≡ row_at y bs
row_found bs rest y i k b e a f p =
    let s : take (i + k - i) (drop i bs) ≡ row_at y bs = strip_row bs y i (i + k) b (record { order = omega arith; within = p.within; above = a; first = f; here = p.over; below = p.stop }) in
    let n : i + k - i ≡ k = omega arith in
    ap (λ l. take k l) e ∙ (sym (ap (λ m. take m (drop i bs)) n) ∙ s)
