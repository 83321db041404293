-- What is told of each pixel once one place of the memory is set.
use Rattle.std.proofs.Common.{◌≡◌, ℕ, ◌+◌, ◌*◌, ◌%◌, ◌^◌, ◌<◌, Bool, true, cond, ◌&&◌, eqb, ◌≢◌, List, length, get_or, set, Some, None, sym, refl, ap, ◌∙◌, ⊎_elim, arith, length-set}
use Rattle.std.specs.List.{slice_get}
use Rattle.std.proofs.lemmas.Bool.Decides.{nat_tests}
use Rattle.std.proofs.lemmas.Nat.{mul-add-lt}
use Rattle.std.proofs.lemmas.Option.{slice_get-get_or, slice_get_past, slice_get_read}
use Rattle.std.proofs.lemmas.List.{get_or-set_other, get_or-set_same}
use Rattle.std.proofs.lemmas.Bool.{cases_lt, cases_Bool, and_parts, ltb-true, true≢false}
use Rattle.chain.specs.Screens.{inside}
use Rattle.chain.specs.Writes.{hit, Puts}
use Rattle.chain.specs.Places.{spot, spot_below, spots_apart, parts, place}
use Rattle.chain.specs.Told.{pixel_in, exact, told}
use Rattle.chain.specs.declared.layout.Layout.{Layout}
use Rattle.chain.specs.declared.shape.Shape.{Shape}
use Rattle.chain.specs.declared.state.State.{State}

-- pixels of the memory lie apart
apart : (o : Layout) (w h b x y c u v : ℕ) → x < w → y < h → u < w → v < h → place o w h b x y ≡ place o w h c u v → (b ≡ c) × (x ≡ u) × (y ≡ v)
apart o w h b x y c u v p q r s e =
    let d = parts (w * h) b (spot o w h x y) c (spot o w h u v) (spot_below o w h x y p q) (spot_below o w h u v r s) e in
    let f = spots_apart o w h x y u v p q r s d.1 in
    (d.0, f.0, f.1)

nth_set_same : {P : Type 0} (l : List P) (i : ℕ) (p : P) → i < length l → slice_get (set l i p) i ≡ Some p
nth_set_same l i p lt = slice_get-get_or (set l i p) i p (simp length-set lt) ∙ ap Some (get_or-set_same l i p p lt)

nth_set_other : {P : Type 0} (l : List P) (i j : ℕ) (p : P) → j ≢ i → slice_get (set l i p) j ≡ slice_get l j
nth_set_other l i j p ne =
    ⊎_elim
    (λ lt. slice_get-get_or (set l i p) j p (simp length-set lt) ∙ ap Some (get_or-set_other l i j p p ne) ∙ sym (slice_get-get_or l j p lt))
    (λ ge. slice_get_past (set l i p) j (simp length-set ge) ∙ sym (slice_get_past l j ge))
    (cases_lt j (length l))

-- what a spot that was found says
pub record Found {P : Type 0} (s : Shape) (m : List P) (x y at : ℕ) : Type 0 where
  pub long : length m ≡ s.count * (s.width * s.height)
  pub column : x < s.width
  pub row : y < s.height
  pub is : at ≡ spot s.layout s.width s.height x y

pub found : {P : Type 0} (s : Shape) (m : List P) (x y at : ℕ) →
    Some at ≡ cond (exact s m && inside s.width s.height x y) (Some (spot s.layout s.width s.height x y)) None → Found s m x y at
found s m x y at e = record { long = grind (arith, nat_tests); column = grind (arith, nat_tests); row = grind (arith, nat_tests); is = grind (arith, nat_tests) }

-- the pixel that is read there, in buffers of n pixels
pub read_in : {P : Type 0} (s : Shape) (m : List P) (b x y n at : ℕ) (p : P) → b < s.count → n ≡ s.width * s.height → Found s m x y at →
    p ≡ get_or m (b * n + at) p → Some p ≡ pixel_in s m b x y
read_in s m b x y n at p lt size f e =
    let g = ap (λ (k : ℕ). b * k + at) size ∙ ap (λ (k : ℕ). b * (s.width * s.height) + k) f.is in
    let k = spot_below s.layout s.width s.height x y f.column f.row in
    let l : b * n + at < length m = omega (arith, mul-add-lt b (s.width * s.height) (spot s.layout s.width s.height x y) s.count lt k, g, f.long) in
    let r = slice_get_read m _ (b * n + at) p refl l e in
    let q = f.column in let w = f.row in let o = f.long in
    grind (arith, nat_tests)

set_in : {P : Type 0} (s : Shape) (m : List P) (back x y : ℕ) (p : P) → back < s.count → length m ≡ s.count * (s.width * s.height) → x < s.width → y < s.height →
    (b i j : ℕ) → pixel_in s (set m (place s.layout s.width s.height back x y) p) b i j ≡ cond (hit back x y b i j) (Some p) (pixel_in s m b i j)
set_in s m back x y p known l xw yh b i j =
    let at = place s.layout s.width s.height back x y in
    let lt : at < length m = omega (arith, mul-add-lt back (s.width * s.height) (spot s.layout s.width s.height x y) s.count known (spot_below s.layout s.width s.height x y xw yh), l) in
    let k = length-set m at p in
    ⊎_elim
    (λ same. let e = nth_set_same m at p lt in grind (arith, nat_tests))
    (λ other.
    ⊎_elim
    (λ inn. let ne : place s.layout s.width s.height b i j ≢ at =
    λ e. let t = apart s.layout s.width s.height b i j back x y (ltb-true _ _ (and_parts _ _ inn).0) (ltb-true _ _ (and_parts _ _ inn).1) xw yh e in
    let z : ◌≡◌ {A = ℕ} 0 1 = grind (arith, nat_tests) in omega arith in
    let e = nth_set_other m _ _ p ne in grind (arith, nat_tests))
    (λ out. grind (arith, nat_tests))
    (cases_Bool (inside s.width s.height i j)))
    (cases_Bool (hit back x y b i j))

-- where a write lands, at the spot that was found
stored_at : {P : Type 0} (s : Shape) (m m' : List P) (back x y n at : ℕ) (p : P) → n ≡ s.width * s.height → Found s m x y at → m' ≡ set m (back * n + at) p →
    m' ≡ set m (place s.layout s.width s.height back x y) p
stored_at s m m' back x y n at p size f e =
    e ∙ ap (λ (k : ℕ). set m k p) (ap (λ (k : ℕ). back * k + at) size ∙ ap (λ (k : ℕ). back * (s.width * s.height) + k) f.is)

-- the memory has its length still
same_exact : {P : Type 0} (s : Shape) (m m' : List P) (i : ℕ) (p : P) → m' ≡ set m i p → exact s m' ≡ exact s m
same_exact s m m' i p e = ap (λ (k : ℕ). eqb k (s.count * (s.width * s.height))) (ap length e ∙ length-set m i p)

shown_there : {P : Type 0} (s : Shape) (m : List P) (x y at : ℕ) → Found s m x y at → true ≡ inside (cond (exact s m) s.width 0) (cond (exact s m) s.height 0) x y
shown_there s m x y at f = let q = f.column in let w = f.row in let o = f.long in grind (arith, nat_tests)

-- what a write there tells
pub puts_at : {P : Type 0} (s : State) (m m' : List P) (x y n at : ℕ) (p : P) → Found s.shape m x y at → n ≡ s.shape.width * s.shape.height →
    m' ≡ set m (s.back * n + at) p → Puts (told s m) x y p true (record (told s m') { writes = (s.writes + 1) % (2 ^ 32) })
puts_at s m m' x y n at p f size e =
    let d = stored_at s.shape m m' s.back x y n at p size f e in
    let k = same_exact s.shape m m' _ p d in
    record {
      yes = shown_there s.shape m x y at f;
      done = λ _. record {
        width = ap (λ (b : Bool). cond b s.shape.width 0) k;
        height = ap (λ (b : Bool). cond b s.shape.height 0) k;
        count = refl;
        pixel = λ b i j. ap (λ (l : List _). pixel_in s.shape l b i j) d ∙ set_in s.shape m s.back x y p s.known.0 f.long f.column f.row b i j;
        age = λ b. refl;
        back = refl;
        front = refl;
        writes = refl;
      };
      not = λ no. absurd (true≢false no);
    }
