-- Painting pixel by pixel, row by row, box by box.
use Rattle.std.proofs.Common.{◌≡◌, ℕ, zero, suc, ◌+◌, ◌-◌, ◌%◌, ◌^◌, ◌<◌, ◌≤◌, max, Bool, true, false, cond, ◌&&◌, ◌||◌, eqb, ltb, List, [], ◌∷◌, length, get_or, take, Some, Option, sym, refl, ap, ◌∙◌, subst, add-zero, add_assoc, mod-eq_of_lt, zero-add, add-one, arith}
use native.Mathlib.Nat.{mod-add-mod}
use Rattle.std.proofs.lemmas.Bool.Decides.{nat_tests}
use Rattle.region_laws.specs.Boxes.{Places, box, no_box, inside}
use Rattle.region_laws.specs.Bands.{covers}
use Rattle.region_laws.specs.Counted.{sum, box_sum, list_sum}
use Rattle.region_laws.specs.declared.rect.Rect.{Rect}
use Rattle.chain.specs.Screens.{Screens, on_display}
use Rattle.chain.specs.Writes.{Puts, hit}
use Rattle.reference.specs.Painting.{Painted, one_per_place, capped, Brushed, BoxBrushed, row_box, ListBrushed}

unpainted : {P : Type 0} (v r o : Bool) (p : P) (q : Option P) → r ≡ false → q ≡ cond (v && (r && o)) (Some p) q
unpainted v r o p q e = grind (arith, nat_tests)

-- nothing is painted
painted_none : {P : Type 0} (s : Screens P) (r : Places) (pic : ℕ → ℕ → P) → s.writes < 2 ^ 32 → ((x y : ℕ) → r x y ≡ false) → Painted s r 0 pic s
painted_none s r pic few e = record {
  width = refl;
  height = refl;
  count = refl;
  age = λ b. refl;
  back = refl;
  front = refl;
  pixel = λ b x y. unpainted (eqb b s.back) (r x y) (on_display s x y) (pic x y) (s.pixel b x y) (e x y);
  writes = sym (mod-eq_of_lt few) ∙ ap (λ n. n % 2 ^ 32) (sym (add-zero s.writes));
}

twice : {P : Type 0} (v v' r q r' o o' : Bool) (p : P) (a m t : Option P) → v' ≡ v → o' ≡ o → r' ≡ (r || q) → m ≡ cond (v && (r && o)) (Some p) a → t ≡ cond (v' && (q && o')) (Some p) m → t ≡ cond (v && (r' && o)) (Some p) a
twice v v' r q r' o o' p a m t i j k c d = grind (arith, nat_tests)

-- some places, and then some more
painted_then : {P : Type 0} (s m t : Screens P) (r q r' : Places) (pic : ℕ → ℕ → P) (n k n' : ℕ) → Painted s r n pic m → Painted m q k pic t → ((x y : ℕ) → r' x y ≡ (r x y || q x y)) → n' ≡ n + k → Painted s r' n' pic t
painted_then s m t r q r' pic n k n' p w e z = record {
  width = w.width ∙ p.width;
  height = w.height ∙ p.height;
  count = w.count ∙ p.count;
  age = λ b. w.age b ∙ p.age b;
  back = w.back ∙ p.back;
  front = w.front ∙ p.front;
  pixel = λ b x y.
      twice (eqb b s.back) (eqb b m.back) (r x y) (q x y) (r' x y) (on_display s x y) (on_display m x y) (pic x y) (s.pixel b x y) (m.pixel b x y) (t.pixel b x y)
      (ap (eqb b) p.back) (ap (λ v. ltb x v && ltb y m.height) p.width ∙ ap (λ v. ltb x s.width && ltb y v) p.height) (e x y) (p.pixel b x y) (w.pixel b x y);
  writes = w.writes ∙ (ap (λ v. (v + k) % 2 ^ 32) p.writes ∙ (mod-add-mod (s.writes + n) (2 ^ 32) k ∙ ap (λ i. i % 2 ^ 32) (add_assoc s.writes n k ∙ ap (λ i. s.writes + i) (sym z))));
}

dot_on : {P : Type 0} (v o r i : Bool) (p q : P) (a t : Option P) → o ≡ true → r ≡ i → (i ≡ true → q ≡ p) → t ≡ cond (v && i) (Some p) a → t ≡ cond (v && (r && o)) (Some q) a
dot_on v o r true p q a t e f g h = let z = g refl in grind (arith, nat_tests)
dot_on v o r false p q a t e f g h = grind (arith, nat_tests)

dot_at : {P : Type 0} (pic : ℕ → ℕ → P) (x y i j : ℕ) (p : P) → p ≡ pic x y → (eqb i x && eqb j y) ≡ true → pic i j ≡ p
dot_at pic x y i j p e h =
    let a : i ≡ x = grind (arith, nat_tests) in
    let b : j ≡ y = grind (arith, nat_tests) in
    ap (λ v. pic v j) a ∙ (ap (pic x) b ∙ sym e)

dot_box : (x y i j : ℕ) → inside (box x y (x + 1) (y + 1)) i j ≡ (eqb i x && eqb j y)
dot_box x y i j = grind (arith, nat_tests)

dot_off : (w h x y i j : ℕ) → (ltb x w && ltb y h) ≡ false → (eqb i x && eqb j y) ≡ true → (ltb i w && ltb j h) ≡ false
dot_off w h x y i j e f = grind (arith, nat_tests)

off_all : {P : Type 0} (v r o : Bool) (p : P) (q : Option P) → (r ≡ true → o ≡ false) → q ≡ cond (v && (r && o)) (Some p) q
off_all true true o p q h = let e = h refl in grind (arith, nat_tests)
off_all true false o p q h = refl
off_all false r o p q h = refl

-- one pixel is painted by one write
pub painted_dot : {P : Type 0} (s t : Screens P) (pic : ℕ → ℕ → P) (x y : ℕ) (p : P) (r : Bool) → s.writes < 2 ^ 32 → Puts s x y p r t → p ≡ pic x y → Painted s (inside (box x y (x + 1) (y + 1))) (one_per_place s x y) pic t
painted_dot s t pic x y p r few w e = go (on_display s x y) refl
  where
    go : (o : Bool) → on_display s x y ≡ o → Painted s (inside (box x y (x + 1) (y + 1))) (cond o 1 0) pic t
    go true on =
        let d = w.done (w.yes ∙ on) in
        record {
          width = d.width;
          height = d.height;
          count = d.count;
          age = d.age;
          back = d.back;
          front = d.front;
          pixel = λ b i j. at_dot b i j (d.pixel b i j);
          writes = d.writes;
        }
      where
        here : (i j : ℕ) → (eqb i x && eqb j y) ≡ true → on_display s i j ≡ true
        here i j h = (let a : i ≡ x = grind (arith, nat_tests) in let b : j ≡ y = grind (arith, nat_tests) in ap (λ v. on_display s v j) a ∙ ap (on_display s x) b) ∙ on

        at_dot : (b i j : ℕ) → t.pixel b i j ≡ cond (hit s.back x y b i j) (Some p) (s.pixel b i j) → t.pixel b i j ≡ cond (eqb b s.back && (inside (box x y (x + 1) (y + 1)) i j && on_display s i j)) (Some (pic i j)) (s.pixel b i j)
        at_dot b i j q = case (eqb i x && eqb j y) refl
          where
            case : (h : Bool) → (eqb i x && eqb j y) ≡ h → t.pixel b i j ≡ cond (eqb b s.back && (inside (box x y (x + 1) (y + 1)) i j && on_display s i j)) (Some (pic i j)) (s.pixel b i j)
            case true h =
                let u = here i j h in
                dot_on (eqb b s.back) (on_display s i j) (inside (box x y (x + 1) (y + 1)) i j) (eqb i x && eqb j y) p (pic i j) (s.pixel b i j) (t.pixel b i j) u (dot_box x y i j) (dot_at pic x y i j p e) q
            case false h =
                let z = dot_box x y i j in
                let q' : t.pixel b i j ≡ cond (eqb b s.back && false) (Some p) (s.pixel b i j) = q ∙ ap (λ v. cond (eqb b s.back && v) (Some p) (s.pixel b i j)) h in
                q' ∙ none (eqb b s.back) (inside (box x y (x + 1) (y + 1)) i j) (on_display s i j) p (pic i j) (s.pixel b i j) (z ∙ h)
              where
                none : {P : Type 0} (v r o : Bool) (p q : P) (a : Option P) → r ≡ false → cond (v && false) (Some p) a ≡ cond (v && (r && o)) (Some q) a
                none v r o p q a f = grind (arith, nat_tests)
    go false off =
        let same = w.not (w.yes ∙ off) in
        subst (λ (v : Screens _). Painted s (inside (box x y (x + 1) (y + 1))) 0 pic v) (sym same)
        (record {
          width = refl;
          height = refl;
          count = refl;
          age = λ b. refl;
          back = refl;
          front = refl;
          pixel = λ b i j. off_all (eqb b s.back) (inside (box x y (x + 1) (y + 1)) i j) (on_display s i j) (pic i j) (s.pixel b i j) (λ h. dot_off s.width s.height x y i j off (sym (dot_box x y i j) ∙ h));
          writes = sym (mod-eq_of_lt few) ∙ ap (λ n. n % 2 ^ 32) (sym (add-zero s.writes));
        })

-- sums over growing boxes and lists
one_row : (f : ℕ → ℕ → ℕ) (l r y : ℕ) → box_sum f (row_box l r y) ≡ sum (λ x. f x y) l (r - l)
one_row f l r y =
    let e : y + 1 - y ≡ suc zero = omega arith in
    let z : y + 0 ≡ y = omega arith in
    ap (sum (λ j. sum (λ x. f x j) l (r - l)) y) e ∙ (zero-add (sum (λ x. f x (y + 0)) l (r - l)) ∙ ap (λ j. sum (λ x. f x j) l (r - l)) z)

sum_more : (f : ℕ → ℕ) (a b : ℕ) → a ≤ b → sum f a (b + 1 - a) ≡ sum f a (b - a) + f b
sum_more f a b h =
    let i : b + 1 - a ≡ suc (b - a) = omega arith in
    let j : a + (b - a) ≡ b = omega arith in
    ap (sum f a) i ∙ ap (λ n. sum f a (b - a) + f n) j

row_sum_more : (f : ℕ → ℕ → ℕ) (l x y : ℕ) → l ≤ x → box_sum f (row_box l (x + 1) y) ≡ box_sum f (row_box l x y) + f x y
row_sum_more f l x y h = one_row f l (x + 1) y ∙ (sum_more (λ i. f i y) l x h ∙ ap (λ n. n + f x y) (sym (one_row f l x y)))

row_sum_none : (f : ℕ → ℕ → ℕ) (l y : ℕ) → box_sum f (row_box l l y) ≡ 0
row_sum_none f l y = one_row f l l y ∙ (let e : l - l ≡ 0 = omega arith in ap (sum (λ x. f x y) l) e)

box_sum_more : (f : ℕ → ℕ → ℕ) (l t r y : ℕ) → t ≤ y → box_sum f (box l t r (y + 1)) ≡ box_sum f (box l t r y) + box_sum f (row_box l r y)
box_sum_more f l t r y h = sum_more (λ j. sum (λ x. f x j) l (r - l)) t y h ∙ ap (λ n. box_sum f (box l t r y) + n) (sym (one_row f l r y))

box_sum_none : (f : ℕ → ℕ → ℕ) (l t r : ℕ) → box_sum f (box l t r t) ≡ 0
box_sum_none f l t r = let e : t - t ≡ 0 = omega arith in ap (sum (λ j. sum (λ x. f x j) l (r - l)) t) e

list_sum_more : (f : ℕ → ℕ → ℕ) (bs : List Rect) (i : ℕ) → i < length bs → list_sum f (take (i + 1) bs) ≡ list_sum f (take i bs) + box_sum f (get_or bs i no_box)
list_sum_more f bs i h = rw add-one (go bs i h)
  where
    go : (bs : List Rect) (i : ℕ) → i < length bs → list_sum f (take (suc i) bs) ≡ list_sum f (take i bs) + box_sum f (get_or bs i no_box)
    go [] i h = absurd (omega arith)
    go (b ∷ bs) zero h = omega arith
    go (b ∷ bs) (suc i) h = let e = go bs i (omega arith) in omega arith

covers_more : (bs : List Rect) (i : ℕ) → i < length bs → (x y : ℕ) → covers (take (i + 1) bs) x y ≡ (covers (take i bs) x y || inside (get_or bs i no_box) x y)
covers_more bs i h x y = rw add-one (go bs i h)
  where
    swap : (u v w z : Bool) → z ≡ (v || w) → (u || z) ≡ ((u || v) || w)
    swap true v w z e = refl
    swap false v w z e = e

    or_false : (u : Bool) → (u || false) ≡ (false || u)
    or_false true = refl
    or_false false = refl

    go : (bs : List Rect) (i : ℕ) → i < length bs → covers (take (suc i) bs) x y ≡ (covers (take i bs) x y || inside (get_or bs i no_box) x y)
    go [] i h = absurd (omega arith)
    go (b ∷ bs) zero h = or_false (inside b x y)
    go (b ∷ bs) (suc i) h = swap (inside b x y) (covers (take i bs) x y) (inside (get_or bs i no_box) x y) (covers (take (suc i) bs) x y) (go bs i (omega arith))

same_ones : {P : Type 0} (s m : Screens P) (F : (ℕ → ℕ → ℕ) → ℕ) → m.width ≡ s.width → m.height ≡ s.height → F (one_per_place m) ≡ F (one_per_place s)
same_ones s m F p q = ap (λ v. F (λ x y. cond (ltb x v && ltb y m.height) 1 0)) p ∙ ap (λ v. F (λ x y. cond (ltb x s.width && ltb y v) 1 0)) q

-- some places are brushed, and then some more
brushed_then : {P : Type 0} (s m t : Screens P) (r q r' : Places) (pic : ℕ → ℕ → P) (n k n' a c a' b d b' u v u' w z w' : ℕ)
    → Brushed s r n pic a b u w m → Painted m q k pic t → v ≡ capped c → z ≡ capped d
    → ((x y : ℕ) → r' x y ≡ (r x y || q x y)) → n' ≡ n + k → a' ≡ a + c → b' ≡ b + d → u' ≡ capped (u + v) → w' ≡ capped (w + z)
    → Brushed s r' n' pic a' b' u' w' t
brushed_then s m t r q r' pic n k n' a c a' b d b' u v u' w z w' f g hv hz e i j l o p =
    let f1 = f.touched_is in
    let f2 = f.laid_is in
    record { painted = painted_then s m t r q r' pic n k n' f.painted g e i; touched_is = omega arith; laid_is = omega arith }

row_places : (l x y i j : ℕ) → l ≤ x → inside (row_box l (x + 1) y) i j ≡ (inside (row_box l x y) i j || inside (box x y (x + 1) (y + 1)) i j)
row_places l x y i j h = grind (arith, nat_tests)

row_nowhere : (l y i j : ℕ) → inside (row_box l l y) i j ≡ false
row_nowhere l y i j = grind (arith, nat_tests)

box_places : (l t r y i j : ℕ) → t ≤ y → inside (box l t r (y + 1)) i j ≡ (inside (box l t r y) i j || inside (row_box l r y) i j)
box_places l t r y i j h = grind (arith, nat_tests)

box_nowhere : (l t r i j : ℕ) → inside (box l t r t) i j ≡ false
box_nowhere l t r i j = grind (arith, nat_tests)

module _ {P : Type 0} (s : Screens P) (pic : ℕ → ℕ → P) (d : ℕ → ℕ → ℕ) (few : s.writes < 2 ^ 32) where
  nothing : (r : Places) (n a b : ℕ) → n ≡ 0 → a ≡ 0 → b ≡ 0 → ((x y : ℕ) → r x y ≡ false) → Brushed s r n pic a b 0 0 s
  nothing r n a b e f g h = record { painted = subst (λ v. Painted s r v pic s) (sym e) (painted_none s r pic few h); touched_is = omega arith; laid_is = omega arith }

  pub row_begins : (l y : ℕ) → BoxBrushed s pic d (row_box l l y) 0 0 s
  row_begins l y = nothing (inside (row_box l l y)) _ _ _ (row_sum_none (one_per_place s) l y) (row_sum_none (λ i j. 1) l y) (row_sum_none d l y) (row_nowhere l y)

  pub row_steps : (m t : Screens P) (l x y u v w z : ℕ) → l ≤ x → BoxBrushed s pic d (row_box l x y) u v m
      → Painted m (inside (box x y (x + 1) (y + 1))) (one_per_place m x y) pic t → d x y < 2 ^ 32 → w ≡ capped (u + 1) → z ≡ capped (v + d x y)
      → BoxBrushed s pic d (row_box l (x + 1) y) w z t
  row_steps m t l x y u v w z h b p lo e f =
      brushed_then s m t (inside (row_box l x y)) (inside (box x y (x + 1) (y + 1))) (inside (row_box l (x + 1) y)) pic _ (one_per_place m x y) _ _ 1 _ _ (d x y) _ u 1 w v (d x y) z
      b p (omega arith) (omega arith) (λ i j. row_places l x y i j h)
      (row_sum_more (one_per_place s) l x y h ∙ ap (λ n. box_sum (one_per_place s) (row_box l x y) + n) (sym (same_ones s m (λ f. f x y) b.painted.width b.painted.height)))
      (row_sum_more (λ i j. 1) l x y h) (row_sum_more d l x y h) e f

  pub box_begins : (l t r : ℕ) → BoxBrushed s pic d (box l t r t) 0 0 s
  box_begins l t r = nothing (inside (box l t r t)) _ _ _ (box_sum_none (one_per_place s) l t r) (box_sum_none (λ i j. 1) l t r) (box_sum_none d l t r) (box_nowhere l t r)

  pub box_steps : (m q : Screens P) (l t r y u v u' v' w z : ℕ) → t ≤ y → BoxBrushed s pic d (box l t r y) u v m → BoxBrushed m pic d (row_box l r y) u' v' q → w ≡ capped (u + u') → z ≡ capped (v + v')
      → BoxBrushed s pic d (box l t r (y + 1)) w z q
  box_steps m q l t r y u v u' v' w z h b p e f =
      brushed_then s m q (inside (box l t r y)) (inside (row_box l r y)) (inside (box l t r (y + 1))) pic _ (box_sum (one_per_place m) (row_box l r y)) _ _ (box_sum (λ i j. 1) (row_box l r y)) _ _ (box_sum d (row_box l r y)) _ u u' w v v' z
      b p.painted p.touched_is p.laid_is (λ i j. box_places l t r y i j h)
      (box_sum_more (one_per_place s) l t r y h ∙ ap (λ n. box_sum (one_per_place s) (box l t r y) + n) (sym (same_ones s m (λ f. box_sum f (row_box l r y)) b.painted.width b.painted.height)))
      (box_sum_more (λ i j. 1) l t r y h) (box_sum_more d l t r y h) e f

  pub list_begins : (bs : List Rect) → ListBrushed s pic d (take 0 bs) 0 0 s
  list_begins bs = nothing (covers (take 0 bs)) _ _ _ refl refl refl (λ x y. refl)

  pub list_steps : (m q : Screens P) (bs : List Rect) (i u v u' v' w z : ℕ) → i < length bs → ListBrushed s pic d (take i bs) u v m → BoxBrushed m pic d (get_or bs i no_box) u' v' q → w ≡ capped (u + u') → z ≡ capped (v + v')
      → ListBrushed s pic d (take (i + 1) bs) w z q
  list_steps m q bs i u v u' v' w z h b p e f =
      brushed_then s m q (covers (take i bs)) (inside (get_or bs i no_box)) (covers (take (i + 1) bs)) pic _ (box_sum (one_per_place m) (get_or bs i no_box)) _ _ (box_sum (λ i j. 1) (get_or bs i no_box)) _ _ (box_sum d (get_or bs i no_box)) _ u u' w v v' z
      b p.painted p.touched_is p.laid_is (covers_more bs i h)
      (list_sum_more (one_per_place s) bs i h ∙ ap (λ n. list_sum (one_per_place s) (take i bs) + n) (sym (same_ones s m (λ f. box_sum f (get_or bs i no_box)) b.painted.width b.painted.height)))
      (list_sum_more (λ i j. 1) bs i h) (list_sum_more d bs i h) e f

-- the same places and sums
brushed_same : {P : Type 0} (s t : Screens P) (r r' : Places) (pic : ℕ → ℕ → P) (n n' a a' b b' u v : ℕ) → ((x y : ℕ) → r' x y ≡ r x y) → n' ≡ n → a' ≡ a → b' ≡ b → Brushed s r n pic a b u v t → Brushed s r' n' pic a' b' u v t
brushed_same s t r r' pic n n' a a' b b' u v e f g h q =
    let p = q.painted in
    record {
      painted = record {
        width = p.width;
        height = p.height;
        count = p.count;
        age = p.age;
        back = p.back;
        front = p.front;
        pixel = λ c x y. p.pixel c x y ∙ ap (λ z. cond (eqb c s.back && (z && on_display s x y)) (Some (pic x y)) (s.pixel c x y)) (sym (e x y));
        writes = p.writes ∙ ap (λ z. (s.writes + z) % 2 ^ 32) (sym f);
      };
      touched_is = q.touched_is ∙ ap capped (sym g);
      laid_is = q.laid_is ∙ ap capped (sym h);
    }

row_end : (l r x y i j : ℕ) → l ≤ x → r ≤ x → x ≤ max l r → inside (row_box l r y) i j ≡ inside (row_box l x y) i j
row_end l r x y i j p q o = grind (arith, nat_tests)

box_end : (l t r b y i j : ℕ) → t ≤ y → b ≤ y → y ≤ max t b → inside (box l t r b) i j ≡ inside (box l t r y) i j
box_end l t r b y i j p q o = grind (arith, nat_tests)

row_sum_end : (f : ℕ → ℕ → ℕ) (l r x y : ℕ) → l ≤ x → r ≤ x → x ≤ max l r → box_sum f (row_box l r y) ≡ box_sum f (row_box l x y)
row_sum_end f l r x y p q o = one_row f l r y ∙ ((let e : r - l ≡ x - l = omega arith in ap (sum (λ i. f i y) l) e) ∙ sym (one_row f l x y))

box_sum_end : (f : ℕ → ℕ → ℕ) (l t r b y : ℕ) → t ≤ y → b ≤ y → y ≤ max t b → box_sum f (box l t r b) ≡ box_sum f (box l t r y)
box_sum_end f l t r b y p q o = let e : b - t ≡ y - t = omega arith in ap (sum (λ j. sum (λ x. f x j) l (r - l)) t) e

-- a loop that ran from one edge to the other, or did not run at all
module _ {P : Type 0} (s : Screens P) (pic : ℕ → ℕ → P) (d : ℕ → ℕ → ℕ) where
  pub row_ends : (t : Screens P) (l r x y u v : ℕ) → l ≤ x → r ≤ x → x ≤ max l r → BoxBrushed s pic d (row_box l x y) u v t → BoxBrushed s pic d (row_box l r y) u v t
  row_ends t l r x y u v p q o b =
      brushed_same s t (inside (row_box l x y)) (inside (row_box l r y)) pic _ _ _ _ _ _ u v (λ i j. row_end l r x y i j p q o)
      (row_sum_end (one_per_place s) l r x y p q o) (row_sum_end (λ i j. 1) l r x y p q o) (row_sum_end d l r x y p q o) b

  pub box_ends : (q : Screens P) (l t r b y u v : ℕ) → t ≤ y → b ≤ y → y ≤ max t b → BoxBrushed s pic d (box l t r y) u v q → BoxBrushed s pic d (box l t r b) u v q
  box_ends q l t r b y u v p o m h =
      brushed_same s q (inside (box l t r y)) (inside (box l t r b)) pic _ _ _ _ _ _ u v (λ i j. box_end l t r b y i j p o m)
      (box_sum_end (one_per_place s) l t r b y p o m) (box_sum_end (λ i j. 1) l t r b y p o m) (box_sum_end d l t r b y p o m) h
