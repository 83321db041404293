-- What a banded list says of its boxes one by one and two by two.
use Rattle.std.proofs.Common.{◌≡◌, ℕ, zero, suc, ◌<◌, ◌≤◌, Bool, true, not, ltb, leb, ◌⊎◌, List, [], ◌∷◌, ◌++◌, length, get_or, sym, refl, ◌∙◌, subst, inl, inr, arith}
use Rattle.std.proofs.lemmas.Bool.{and_parts, or_cases, leb-true, ltb-true, not-true, both_ways}
use Rattle.region_laws.specs.Boxes.{no_box}
use Rattle.region_laws.specs.Runs.{Run, tidy, reach}
use Rattle.region_laws.specs.Bands.{Row, Band, boxes, bands, banded, same_row, same_bit, bit, good_row, row_boxes, farthest}
use Rattle.region_laws.specs.Listed.{wide, high}
use Rattle.region_laws.specs.Rules.{Sound}
use Rattle.region_laws.specs.declared.rect.Rect.{Rect}
use Rattle.region_laws.proofs.Tidy.{Parts, parts, good_tidy, same_bit_eq, boxes_bands}
use Rattle.region_laws.proofs.Exists.{tidy_from, tidy_reach}

abbrev pub All : (Rect → Type 0) → List Rect → Type 0
All P [] = Unit {0}
All P (b ∷ bs) = P b × All P bs

pub all_append : (P : Rect → Type 0) (xs ys : List Rect) → All P xs → All P ys → All P (xs ++ ys)
all_append P [] ys p q = q
all_append P (x ∷ xs) ys p q = (p.0, all_append P xs ys p.1 q)

pub all_map : (P Q : Rect → Type 0) → ((b : Rect) → P b → Q b) → (xs : List Rect) → All P xs → All Q xs
all_map P Q f [] p = tt
all_map P Q f (x ∷ xs) p = (f x p.0, all_map P Q f xs p.1)

pub all_both : (P Q R : Rect → Type 0) → ((b : Rect) → P b → Q b → R b) → (xs : List Rect) → All P xs → All Q xs → All R xs
all_both P Q R f [] p q = tt
all_both P Q R f (x ∷ xs) p q = (f x p.0 q.0, all_both P Q R f xs p.1 q.1)

pub all_at : (P : Rect → Type 0) (xs : List Rect) (i : ℕ) → All P xs → i < length xs → P (get_or xs i no_box)
all_at P [] i p h = absurd (omega arith)
all_at P (x ∷ xs) zero p h = p.0
all_at P (x ∷ xs) (suc i) p h = all_at P xs i p.1 (omega arith)

-- a stands before b: in the same band and to the left of it without touching it, or wholly above it
abbrev pub Beside : Rect → Rect → Type 0
Beside a b = (a.top ≡ b.top) × (a.bottom ≡ b.bottom) × (a.right < b.left)

abbrev pub Before : Rect → Rect → Type 0
Before a b = Beside a b ⊎ (a.bottom ≤ b.top)

abbrev pub Pairs : List Rect → Type 0
Pairs [] = Unit {0}
Pairs (b ∷ bs) = All (Before b) bs × Pairs bs

pairs_append : (xs ys : List Rect) → Pairs xs → Pairs ys → All (λ a. All (Before a) ys) xs → Pairs (xs ++ ys)
pairs_append [] ys p q r = q
pairs_append (x ∷ xs) ys p q r = (all_append (Before x) xs ys p.0 r.0, pairs_append xs ys p.1 q r.1)

pub pairs_at : (xs : List Rect) (i j : ℕ) → Pairs xs → i < j → j < length xs → Before (get_or xs i no_box) (get_or xs j no_box)
pairs_at [] i j p l h = absurd (omega arith)
pairs_at (x ∷ xs) zero zero p l h = absurd (omega arith)
pairs_at (x ∷ xs) zero (suc j) p l h = all_at (Before x) xs j p.0 (omega arith)
pairs_at (x ∷ xs) (suc i) zero p l h = absurd (omega arith)
pairs_at (x ∷ xs) (suc i) (suc j) p l h = pairs_at xs i j p.1 (omega arith) (omega arith)

-- what a row's boxes are
pub record OfRow (low far t b : ℕ) (c : Rect) : Type 0 where
  pub left : low ≤ c.left
  pub wide : c.left < c.right
  pub right : c.right ≤ far
  pub top : c.top ≡ t
  pub bottom : c.bottom ≡ b

reach_rest : (s : Run Bool) (ss : Row) → reach ss ≤ reach (s ∷ ss)
reach_rest s [] = omega arith
reach_rest s (u ∷ us) = omega arith

pub row_all : (low far t b : ℕ) (r : Row) → tidy same_bit bit low r ≡ true → reach r ≤ far → All (OfRow low far t b) (row_boxes t b r)
row_all low far t b [] k h = tt
row_all low far t b (s ∷ ss) k h =
    let p = parts same_bit bit low s ss k in
    let e = tidy_reach same_bit bit low s ss k in
    let q = reach_rest s ss in
    let l = p.start in
    let u = p.full in (
      record { left = p.start; wide = p.full; right = omega arith; top = refl; bottom = refl },
      all_map (OfRow s.to far t b) (OfRow low far t b) (λ c o. let v = o.left in record { left = omega arith; wide = o.wide; right = o.right; top = o.top; bottom = o.bottom })
          (row_boxes t b ss) (row_all s.to far t b ss p.rest (omega arith)),
    )

-- behind a span the next leaves a gap
pub row_gap : (low : ℕ) (s : Run Bool) (ss : Row) → tidy same_bit bit low (s ∷ ss) ≡ true → tidy same_bit bit (suc s.to) ss ≡ true
row_gap low s [] k = refl
row_gap low s (u ∷ us) k =
    let p = parts same_bit bit low s (u ∷ us) k in
    let q = parts same_bit bit s.to u us p.rest in
    tidy_from same_bit bit (suc s.to) u us (record { start = go q (or_cases _ _ p.next) p.fine; full = q.full; fine = q.fine; next = q.next; rest = q.rest })
  where
    go : Parts same_bit bit s.to u us → (ltb s.to u.from ≡ true) ⊎ (not (same_bit s.what u.what) ≡ true) → s.what ≡ true → suc s.to ≤ u.from
    go q (inl l) e = ltb-true _ _ l
    go q (inr n) e = absurd (both_ways _ (not-true _ n) (same_bit_eq s.what u.what (e ∙ sym q.fine)))

row_pairs : (low t b : ℕ) (r : Row) → tidy same_bit bit low r ≡ true → Pairs (row_boxes t b r)
row_pairs low t b [] k = tt
row_pairs low t b (s ∷ ss) k =
    let p = parts same_bit bit low s ss k in (
      all_map (OfRow (suc s.to) (reach ss) t b) (Before record { left = s.from; top = t; right = s.to; bottom = b })
          (λ c o. inl (sym o.top, sym o.bottom, o.left)) (row_boxes t b ss) (row_all (suc s.to) (reach ss) t b ss (row_gap low s ss k) (omega arith)),
      row_pairs s.to t b ss p.rest,
    )

good_reach : (r : Row) → good_row r ≡ true → reach r ≤ farthest
good_reach [] k = omega arith
good_reach (s ∷ ss) k = leb-true (reach (s ∷ ss)) farthest (and_parts (tidy same_bit bit 0 (s ∷ ss)) (leb (reach (s ∷ ss)) farthest) k).1

-- what the boxes of bands are
pub record OfBands (low far : ℕ) (c : Rect) : Type 0 where
  pub sound : Sound c
  pub top : low ≤ c.top
  pub bottom : c.bottom ≤ far

pub bands_rest : (b : Band) (bs : List Band) → reach bs ≤ reach (b ∷ bs)
bands_rest b [] = omega arith
bands_rest b (c ∷ cs) = omega arith

pub bands_all : (same : Row → Row → Bool) (low far : ℕ) (bs : List Band) → tidy same good_row low bs ≡ true → reach bs ≤ far → far ≤ farthest → All (OfBands low far) (boxes bs)
bands_all same low far [] k h m = tt
bands_all same low far (b ∷ bs) k h m =
    let p = parts same good_row low b bs k in
    let e = tidy_reach same good_row low b bs k in
    let q = bands_rest b bs in
    let l = p.start in
    let u = p.full in
    let w = good_reach b.what p.fine in
    all_append (OfBands low far) (row_boxes b.from b.to b.what) (boxes bs)
    (all_map (OfRow 0 farthest b.from b.to) (OfBands low far)
    (λ c o. let t = o.top in let z = o.bottom in record { sound = record { wide = o.wide; high = omega arith; right = o.right; bottom = omega arith }; top = omega arith; bottom = omega arith })
    (row_boxes b.from b.to b.what) (row_all 0 farthest b.from b.to b.what (good_tidy b.what p.fine) w))
    (all_map (OfBands b.to far) (OfBands low far) (λ c o. let t = o.top in record { sound = o.sound; top = omega arith; bottom = o.bottom })
    (boxes bs) (bands_all same b.to far bs p.rest (omega arith) m))

bands_pairs : (low : ℕ) (bs : List Band) → tidy same_row good_row low bs ≡ true → reach bs ≤ farthest → Pairs (boxes bs)
bands_pairs low [] k h = tt
bands_pairs low (b ∷ bs) k h =
    let p = parts same_row good_row low b bs k in
    let q = bands_rest b bs in
    let below = bands_all same_row b.to farthest bs p.rest (omega arith) (omega arith) in
    pairs_append (row_boxes b.from b.to b.what) (boxes bs) (row_pairs 0 b.from b.to b.what (good_tidy b.what p.fine))
    (bands_pairs b.to bs p.rest (omega arith))
    (all_map (OfRow 0 (reach b.what) b.from b.to) (λ a. All (Before a) (boxes bs))
    (λ a o. all_map (OfBands b.to farthest) (Before a) (λ c d. let t = d.top in let z = o.bottom in inr (omega arith)) (boxes bs) below)
    (row_boxes b.from b.to b.what) (row_all 0 (reach b.what) b.from b.to b.what (good_tidy b.what p.fine) (omega arith)))

pub banded_all : (bs : List Rect) → banded bs ≡ true → All Sound bs
banded_all bs k =
    let a = and_parts (tidy same_row good_row 0 (bands bs)) (leb (reach (bands bs)) farthest) k in
    subst (λ (v : List Rect). All Sound v) (boxes_bands bs) (all_map (OfBands 0 farthest) Sound (λ c o. o.sound) (boxes (bands bs)) (bands_all same_row 0 farthest (bands bs) a.0 (leb-true _ _ a.1) (omega arith)))

pub banded_pairs : (bs : List Rect) → banded bs ≡ true → Pairs bs
banded_pairs bs k =
    let a = and_parts (tidy same_row good_row 0 (bands bs)) (leb (reach (bands bs)) farthest) k in
    subst (λ (v : List Rect). Pairs v) (boxes_bands bs) (bands_pairs 0 (bands bs) a.0 (leb-true _ _ a.1))

pub banded_sound : (bs : List Rect) (i : ℕ) → banded bs ≡ true → i < length bs → Sound (get_or bs i no_box)
banded_sound bs i k h = all_at Sound bs i (banded_all bs k) h

pub banded_before : (bs : List Rect) (i j : ℕ) → banded bs ≡ true → i < j → j < length bs → Before (get_or bs i no_box) (get_or bs j no_box)
banded_before bs i j k l h = pairs_at bs i j (banded_pairs bs k) l h

-- how far a banded list goes
all_wide : (bs : List Rect) → All Sound bs → wide bs ≤ farthest
all_wide [] k = omega arith
all_wide (b ∷ bs) k = let h = all_wide bs k.1 in let r = k.0.right in omega arith

pub all_high : (bs : List Rect) → All Sound bs → high bs ≤ farthest
all_high [] k = omega arith
all_high (b ∷ bs) k = let h = all_high bs k.1 in let r = k.0.bottom in omega arith

pub banded_wide : (bs : List Rect) → banded bs ≡ true → wide bs ≤ farthest
banded_wide bs k = all_wide bs (banded_all bs k)

pub banded_high : (bs : List Rect) → banded bs ≡ true → high bs ≤ farthest
banded_high bs k = all_high bs (banded_all bs k)
