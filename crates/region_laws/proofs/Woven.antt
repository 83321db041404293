-- The merge of two rows, span by span from the left.
use Rattle.std.proofs.Common.{◌≡◌, ℕ, zero, suc, ◌+◌, ◌<◌, ◌≤◌, max, Bool, true, false, cond, ◌&&◌, ◌||◌, ltb, leb, List, [], ◌∷◌, ◌++◌, length, get_or, take, sym, refl, ap, ◌∙◌, subst, add-one, arith}
use Rattle.std.proofs.lemmas.Bool.Decides.{nat_tests}
use Rattle.std.proofs.lemmas.Bool.{cond_both}
use Rattle.std.proofs.lemmas.List.{take_more, take_all}
use Rattle.region_laws.specs.Runs.{run, at, Ok}
use Rattle.region_laws.specs.Bands.{Row}
use Rattle.region_laws.specs.Spans.{spans, extend, First}
use Rattle.region_laws.specs.Boxes.{no_box}
use Rattle.region_laws.specs.declared.rect.Rect.{Rect}
use Rattle.region_laws.proofs.Extend.{last_from, extend_at, extend_ok}

-- the loop's state: `row` is the union of the first i of xs and the first j of ys, and starts no span after the next
pub record Woven (xs ys : List Rect) (i j : ℕ) (row : Row) : Type 0 where
  pub tidy : Ok false 0 row
  pub union : (x : ℕ) → at false row x ≡ (at false (spans (take i xs)) x || at false (spans (take j ys)) x)
  pub left : i < length xs → last_from row ≤ (get_or xs i no_box).left
  pub right : j < length ys → last_from row ≤ (get_or ys j no_box).left

at_snoc : (bs : List Rect) (b : Rect) (x : ℕ) → at false (spans (bs ++ b ∷ [])) x ≡ (at false (spans bs) x || (leb b.left x && ltb x b.right))
at_snoc [] b x = grind (arith, nat_tests)
at_snoc (c ∷ bs) b x = let h = at_snoc bs b x in ap (λ v. cond (leb c.left x && ltb x c.right) true v) h ∙ grind (arith, nat_tests)

pub at_take_more : (bs : List Rect) (i x : ℕ) → i < length bs
    → at false (spans (take (i + 1) bs)) x ≡ (at false (spans (take i bs)) x || (leb (get_or bs i no_box).left x && ltb x (get_or bs i no_box).right))
at_take_more bs i x h = ap (λ v. at false (spans v) x) (take_more bs i no_box h) ∙ at_snoc (take i bs) (get_or bs i no_box) x

last_extend : (row : Row) (l r : ℕ) → last_from row ≤ l → last_from (extend row l r) ≤ l
last_extend [] l r h = omega arith
last_extend (s ∷ []) l r h = cond_both (ltb s.to l) (s ∷ run l r true ∷ []) (run s.from (max s.to r) true ∷ []) (λ v. last_from v ≤ l) (λ _. omega arith) (λ _. h)
last_extend (s ∷ t ∷ []) l r h = cond_both (ltb t.to l) (t ∷ run l r true ∷ []) (run t.from (max t.to r) true ∷ []) (λ v. last_from (s ∷ v) ≤ l) (λ _. omega arith) (λ _. h)
last_extend (s ∷ t ∷ u ∷ ts) l r h = last_extend (t ∷ u ∷ ts) l r h

pub span_full : (low : ℕ) (bs : List Rect) (i : ℕ) → Ok false low (spans bs) → i < length bs → (get_or bs i no_box).left < (get_or bs i no_box).right
span_full low [] i k h = absurd (omega arith)
span_full low (b ∷ bs) zero k h = k.1
span_full low (b ∷ bs) (suc i) k h = span_full b.right bs i k.4 (omega arith)

pub span_low : (low : ℕ) (bs : List Rect) (i : ℕ) → Ok false low (spans bs) → i < length bs → low ≤ (get_or bs i no_box).left
span_low low [] i k h = absurd (omega arith)
span_low low (b ∷ bs) zero k h = k.0
span_low low (b ∷ bs) (suc i) k h = let e = span_low b.right bs i k.4 (omega arith) in let f : b.left < b.right = k.1 in let g : low ≤ b.left = k.0 in omega arith

pub span_next : (low : ℕ) (bs : List Rect) (i : ℕ) → Ok false low (spans bs) → suc i < length bs → (get_or bs i no_box).left ≤ (get_or bs (suc i) no_box).left
span_next low [] i k h = absurd (omega arith)
span_next low (b ∷ bs) zero k h = let e = span_low b.right bs 0 k.4 (omega arith) in let f : b.left < b.right = k.1 in omega arith
span_next low (b ∷ bs) (suc i) k h = span_next b.right bs i k.4 (omega arith)

pub woven_none : (xs ys : List Rect) → Woven xs ys 0 0 []
woven_none xs ys = record { tidy = tt; union = λ x. refl; left = λ _. omega arith; right = λ _. omega arith }

pub woven_swap : (xs ys : List Rect) (i j : ℕ) (row : Row) → Woven xs ys i j row → Woven ys xs j i row
woven_swap xs ys i j row w = record { tidy = w.tidy; union = λ x. w.union x ∙ or_swap (at false (spans (take i xs)) x) (at false (spans (take j ys)) x); left = w.right; right = w.left }
  where
    or_swap : (a b : Bool) → (a || b) ≡ (b || a)
    or_swap true true = refl
    or_swap true false = refl
    or_swap false true = refl
    or_swap false false = refl

pub woven_more : (xs ys : List Rect) (i j : ℕ) (row : Row) → Ok false 0 (spans xs) → First xs i ys j → Woven xs ys i j row
    → Woven xs ys (i + 1) j (extend row (get_or xs i no_box).left (get_or xs i no_box).right)
woven_more xs ys i j row k f w =
    let l = (get_or xs i no_box).left in
    let r = (get_or xs i no_box).right in
    let h = w.left f.there in
    let full = span_full 0 xs i k f.there in
    let last = last_extend row l r h in
    record {
      tidy = extend_ok 0 row l r w.tidy (omega arith) h full;
      union = λ x. extend_at 0 row l r x w.tidy h full ∙ step x;
      left = λ g. let e : (get_or xs i no_box).left ≤ (get_or xs (i + 1) no_box).left = simp add-one (span_next 0 xs i k (omega arith)) in omega arith;
      right = λ g. let e = f.before g in omega arith;
    }
  where
    step : (x : ℕ) → (at false row x || (leb (get_or xs i no_box).left x && ltb x (get_or xs i no_box).right)) ≡ (at false (spans (take (i + 1) xs)) x || at false (spans (take j ys)) x)
    step x = let e = w.union x in let g = at_take_more xs i x f.there in grind (arith, e, g)

pub woven_all : (xs ys : List Rect) (i j : ℕ) (row : Row) → Woven xs ys i j row → length xs ≤ i → length ys ≤ j
    → (x : ℕ) → at false row x ≡ (at false (spans xs) x || at false (spans ys) x)
woven_all xs ys i j row w p q x = rw (take_all i xs p, take_all j ys q) at (w.union x)

-- the steps of the loop, over the row that the call left
pub woven_left : (xs ys : List Rect) (i j : ℕ) (row new : Row) → Ok false 0 (spans xs) → First xs i ys j → Woven xs ys i j row
    → new ≡ extend row (get_or xs i no_box).left (get_or xs i no_box).right → Woven xs ys (i + 1) j new
woven_left xs ys i j row new k f w e = subst (λ (r : Row). Woven xs ys (i + 1) j r) (sym e) (woven_more xs ys i j row k f w)

pub woven_right : (xs ys : List Rect) (i j : ℕ) (row new : Row) → Ok false 0 (spans ys) → First ys j xs i → Woven xs ys i j row
    → new ≡ extend row (get_or ys j no_box).left (get_or ys j no_box).right → Woven xs ys i (j + 1) new
woven_right xs ys i j row new k f w e = woven_swap ys xs (j + 1) i new (woven_left ys xs j i row new k f (woven_swap xs ys i j row w) e)
