-- The boxes of a banded list that have row y stand side by side in it, and between two neighbouring edges the rows are
-- equal.
use Rattle.std.proofs.Common.{◌≡◌, ℕ, zero, suc, ◌+◌, ◌-◌, ◌<◌, ◌≤◌, true, false, ◌&&◌, ◌||◌, ltb, leb, ◌⊎◌, List, [], ◌∷◌, ◌++◌, length, get_or, take, drop, sym, refl, ap, ◌∙◌, subst, inl, inr, arith}
use Rattle.std.proofs.lemmas.Bool.Decides.{nat_tests}
use Rattle.std.proofs.lemmas.Bool.{cases_lt, cases_eq, cond-true, cond-false}
use Rattle.std.proofs.lemmas.List.{take-append-drop, length-take, length-drop, get_or-take, get_or-drop, append-nil, drop-drop}
use Rattle.region_laws.specs.Boxes.{no_box}
use Rattle.region_laws.specs.Bands.{covers, banded}
use Rattle.region_laws.specs.Listed.{high}
use Rattle.region_laws.specs.Spans.{row_at, Plain}
use Rattle.region_laws.specs.declared.rect.Rect.{Rect}
use Rattle.region_laws.proofs.Pairs.{Before, banded_before, banded_sound}
use Rattle.region_laws.proofs.Rows.{row_at-append}

-- between two edges the pixels do not change
pub plain_covers : (bs : List Rect) (y e z x : ℕ) → Plain bs y e → y ≤ z → z < e → covers bs x z ≡ covers bs x y
plain_covers [] y e z x p l u = refl
plain_covers (b ∷ bs) y e z x p l u =
    let h = plain_covers bs y e z x p.2 l u in
    let t : y < b.top → e ≤ b.top = p.0 in
    let o : y < b.bottom → e ≤ b.bottom = p.1 in
    let s : leb b.top z ≡ leb b.top y = grind (arith, nat_tests) in
    let v : ltb z b.bottom ≡ ltb y b.bottom = grind (arith, nat_tests) in
    λ i. ((leb b.left x && ltb x b.right) && (s i && v i)) || h i

pub plain_less : (bs : List Rect) (y e f : ℕ) → f ≤ e → Plain bs y e → Plain bs y f
plain_less [] y e f l p = tt
plain_less (b ∷ bs) y e f l p = ((λ h. let k = p.0 h in omega arith), (λ h. let k = p.1 h in omega arith), plain_less bs y e f l p.2)

-- a fact of each box by its place
plain_from : (bs : List Rect) (y e : ℕ) → ((k : ℕ) → k < length bs → (y < (get_or bs k no_box).top → e ≤ (get_or bs k no_box).top) × (y < (get_or bs k no_box).bottom → e ≤ (get_or bs k no_box).bottom)) → Plain bs y e
plain_from [] y e f = tt
plain_from (b ∷ bs) y e f = ((f 0 (omega arith)).0, (f 0 (omega arith)).1, plain_from bs y e (λ k h. f (suc k) (omega arith)))

all_in : (bs : List Rect) (y : ℕ) → ((k : ℕ) → k < length bs → ((get_or bs k no_box).top ≤ y) × (y < (get_or bs k no_box).bottom)) → row_at y bs ≡ bs
all_in [] y f = refl
all_in (b ∷ bs) y f =
    let h : b.top ≤ y = (f 0 (omega arith)).0 in
    let k : y < b.bottom = (f 0 (omega arith)).1 in
    let e : (leb b.top y && ltb y b.bottom) ≡ true = grind (arith, nat_tests) in
    cond-true _ _ _ e ∙ ap (λ v. b ∷ v) (all_in bs y (λ k h. f (suc k) (omega arith)))

all_out : (bs : List Rect) (y : ℕ) → ((k : ℕ) → k < length bs → (y < (get_or bs k no_box).top) ⊎ ((get_or bs k no_box).bottom ≤ y)) → row_at y bs ≡ []
all_out [] y f = refl
all_out (b ∷ bs) y f =
    let h : (y < b.top) ⊎ (b.bottom ≤ y) = f 0 (omega arith) in
    let e : (leb b.top y && ltb y b.bottom) ≡ false = grind (arith, nat_tests) in
    cond-false _ _ _ e ∙ all_out bs y (λ k h. f (suc k) (omega arith))

-- tops and bottoms never rise along a banded list
pub tops : (bs : List Rect) (i j : ℕ) → banded bs ≡ true → i ≤ j → j < length bs → (get_or bs i no_box).top ≤ (get_or bs j no_box).top
tops bs i j k l h = go (cases_eq i j)
  where
    go : (i ≡ j) ⊎ (i ≡ j → ⊥) → (get_or bs i no_box).top ≤ (get_or bs j no_box).top
    go (inl e) = subst (λ (m : ℕ). (get_or bs i no_box).top ≤ (get_or bs m no_box).top) e (omega arith)
    go (inr n) = let s = (banded_sound bs i k (omega arith)).high in then s (banded_before bs i j k (omega arith) h)
      where
        then : (get_or bs i no_box).top < (get_or bs i no_box).bottom → Before (get_or bs i no_box) (get_or bs j no_box) → (get_or bs i no_box).top ≤ (get_or bs j no_box).top
        then s (inl p) = let e = p.0 in omega arith
        then s (inr p) = omega arith

pub bottoms : (bs : List Rect) (i j : ℕ) → banded bs ≡ true → i ≤ j → j < length bs → (get_or bs i no_box).bottom ≤ (get_or bs j no_box).bottom
bottoms bs i j k l h = go (cases_eq i j)
  where
    go : (i ≡ j) ⊎ (i ≡ j → ⊥) → (get_or bs i no_box).bottom ≤ (get_or bs j no_box).bottom
    go (inl e) = subst (λ (m : ℕ). (get_or bs i no_box).bottom ≤ (get_or bs m no_box).bottom) e (omega arith)
    go (inr n) = let s = (banded_sound bs j k h).high in then s (banded_before bs i j k (omega arith) h)
      where
        then : (get_or bs j no_box).top < (get_or bs j no_box).bottom → Before (get_or bs i no_box) (get_or bs j no_box) → (get_or bs i no_box).bottom ≤ (get_or bs j no_box).bottom
        then s (inl p) = let e = p.1 in omega arith
        then s (inr p) = omega arith

-- the boxes from i up to k have row y, those before i lie above it, those from k on below
pub record StripAt (bs : List Rect) (y i k : ℕ) : Type 0 where
  pub order : i ≤ k
  pub within : k ≤ length bs
  pub above : (m : ℕ) → m < i → (get_or bs m no_box).bottom ≤ y
  pub first : i < length bs → y < (get_or bs i no_box).bottom
  pub here : (m : ℕ) → i ≤ m → m < k → (get_or bs m no_box).top ≤ y
  pub below : k < length bs → y < (get_or bs k no_box).top

pub strip_row : (bs : List Rect) (y i k : ℕ) → banded bs ≡ true → StripAt bs y i k → take (k - i) (drop i bs) ≡ row_at y bs
strip_row bs y i k b s =
    let o = s.order in
    let w = s.within in
    let rest = drop i bs in
    let a : row_at y (take i bs) ≡ [] = all_out (take i bs) y (λ m h. let h' : m < i = front m h in let g = get_or-take i bs m no_box h' in let v = s.above m h' in inr (subst (λ (c : Rect). c.bottom ≤ y) (sym g) v)) in
    let m' : row_at y (take (k - i) rest) ≡ take (k - i) rest = all_in (take (k - i) rest) y (λ m h. mid m (short m h)) in
    let z : row_at y (drop (k - i) rest) ≡ [] = all_out (drop (k - i) rest) y (λ m h. inl (last m (simp (length-drop) at h))) in
    sym (ap (row_at y) (sym (take-append-drop i bs)) ∙ (row_at-append y (take i bs) rest ∙ (ap (λ v. v ++ row_at y rest) a
    ∙ (ap (row_at y) (sym (take-append-drop (k - i) rest)) ∙ (row_at-append y (take (k - i) rest) (drop (k - i) rest) ∙ ((λ j. m' j ++ z j) ∙ append-nil (take (k - i) rest)))))))
  where
    front : (m : ℕ) → m < length (take i bs) → m < i
    front m h = let g = length-take i bs in omega arith

    short : (m : ℕ) → m < length (take (k - i) (drop i bs)) → m < k - i
    short m h = let g = length-take (k - i) (drop i bs) in omega arith

    mid : (m : ℕ) → m < k - i → ((get_or (take (k - i) (drop i bs)) m no_box).top ≤ y) × (y < (get_or (take (k - i) (drop i bs)) m no_box).bottom)
    mid m h =
        let o = s.order in
        let w = s.within in
        let e : get_or (take (k - i) (drop i bs)) m no_box ≡ get_or bs (i + m) no_box = get_or-take (k - i) (drop i bs) m no_box h ∙ get_or-drop i bs m no_box in
        let t = s.here (i + m) (omega arith) (omega arith) in
        let f = s.first (omega arith) in
        let g = bottoms bs i (i + m) b (omega arith) (omega arith) in
        subst (λ (c : Rect). (c.top ≤ y) × (y < c.bottom)) (sym e) (t, omega arith)

    last : (m : ℕ) → m < length bs - i - (k - i) → y < (get_or (drop (k - i) (drop i bs)) m no_box).top
    last m h =
        let o = s.order in
        let w = s.within in
        let q : i + (k - i) ≡ k = omega arith in
        let e : get_or (drop (k - i) (drop i bs)) m no_box ≡ get_or bs (k + m) no_box = ap (λ v. get_or v m no_box) (drop-drop (k - i) i bs ∙ ap (λ n. drop n bs) q) ∙ get_or-drop k bs m no_box in
        let f = s.below (omega arith) in
        let g = tops bs k (k + m) b (omega arith) (omega arith) in
        subst (λ (c : Rect). y < c.top) (sym e) (omega arith)

-- the next edge past y: the first box's bottom if it has row y, else its top
pub edge_none : (bs : List Rect) (y i e : ℕ) → banded bs ≡ true → ((m : ℕ) → m < i → (get_or bs m no_box).bottom ≤ y) → length bs ≤ i → Plain bs y e
edge_none bs y i e b a h = plain_from bs y e (λ k l. let v = a k (omega arith) in let s = (banded_sound bs k b l).high in ((λ t. absurd (omega arith)), (λ t. absurd (omega arith))))

pub edge_bottom : (bs : List Rect) (y i e : ℕ) → banded bs ≡ true → ((m : ℕ) → m < i → (get_or bs m no_box).bottom ≤ y) → i < length bs → (get_or bs i no_box).top ≤ y → e ≤ (get_or bs i no_box).bottom → Plain bs y e
edge_bottom bs y i e b a h t u = plain_from bs y e (λ k l. go k l (cases_lt k i))
  where
    go : (k : ℕ) → k < length bs → (k < i) ⊎ (i ≤ k) → (y < (get_or bs k no_box).top → e ≤ (get_or bs k no_box).top) × (y < (get_or bs k no_box).bottom → e ≤ (get_or bs k no_box).bottom)
    go k l (inl p) = let v = a k p in let s = (banded_sound bs k b l).high in ((λ t. absurd (omega arith)), (λ t. absurd (omega arith)))
    go k l (inr p) = let g = bottoms bs i k b p l in ((λ q. top q (cases_eq i k)), (λ q. omega arith))
      where
        top : y < (get_or bs k no_box).top → (i ≡ k) ⊎ (i ≡ k → ⊥) → e ≤ (get_or bs k no_box).top
        top q (inl j) = let w : (get_or bs k no_box).top ≤ y = subst (λ (m : ℕ). (get_or bs m no_box).top ≤ y) j t in absurd (omega arith)
        top q (inr n) = then (banded_before bs i k b (omega arith) l)
          where
            then : Before (get_or bs i no_box) (get_or bs k no_box) → e ≤ (get_or bs k no_box).top
            then (inl r) = let j = r.0 in absurd (omega arith)
            then (inr r) = omega arith

pub edge_top : (bs : List Rect) (y i e : ℕ) → banded bs ≡ true → ((m : ℕ) → m < i → (get_or bs m no_box).bottom ≤ y) → i < length bs → e ≤ (get_or bs i no_box).top → Plain bs y e
edge_top bs y i e b a h u = plain_from bs y e (λ k l. go k l (cases_lt k i))
  where
    go : (k : ℕ) → k < length bs → (k < i) ⊎ (i ≤ k) → (y < (get_or bs k no_box).top → e ≤ (get_or bs k no_box).top) × (y < (get_or bs k no_box).bottom → e ≤ (get_or bs k no_box).bottom)
    go k l (inl p) = let v = a k p in let s = (banded_sound bs k b l).high in ((λ t. absurd (omega arith)), (λ t. absurd (omega arith)))
    go k l (inr p) = let g = tops bs i k b p l in let s = (banded_sound bs k b l).high in ((λ q. omega arith), (λ q. omega arith))

-- where a banded list ends: at its last box's bottom
high_least : (bs : List Rect) (m : ℕ) → ((k : ℕ) → k < length bs → (get_or bs k no_box).bottom ≤ m) → high bs ≤ m
high_least [] m f = omega arith
high_least (b ∷ bs) m f = let h : b.bottom ≤ m = f 0 (omega arith) in let t = high_least bs m (λ k l. f (suc k) (omega arith)) in omega arith

high_over : (bs : List Rect) (k : ℕ) → k < length bs → (get_or bs k no_box).bottom ≤ high bs
high_over [] k h = absurd (omega arith)
high_over (b ∷ bs) zero h = omega arith
high_over (b ∷ bs) (suc k) h = let t = high_over bs k (omega arith) in omega arith

pub high_last : (bs : List Rect) → banded bs ≡ true → 0 < length bs → (get_or bs (length bs - 1) no_box).bottom ≡ high bs
high_last bs b h =
    let u = high_over bs (length bs - 1) (omega arith) in
    let v = high_least bs (get_or bs (length bs - 1) no_box).bottom (λ k l. bottoms bs k (length bs - 1) b (omega arith) (omega arith)) in
    omega arith
