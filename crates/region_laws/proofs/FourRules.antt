-- Banding is the four rules on the flat list.
use Rattle.std.proofs.Common.{◌≡◌, ℕ, ◌<◌, ◌≤◌, true, leb, ◌≢◌, ◌⊎◌, List, [], ◌∷◌, length, sym, ap, ◌∙◌, subst, inl, inr, arith}
use Rattle.std.proofs.lemmas.Bool.{and_parts, leb-true}
use Rattle.region_laws.specs.Runs.{at, tidy, reach}
use Rattle.region_laws.specs.Bands.{Band, boxes, bands, banded, same_row, good_row, row_boxes, farthest}
use Rattle.region_laws.specs.Rules.{Sound, nth, Rules}
use Rattle.region_laws.specs.declared.rect.Rect.{Rect}
use Rattle.region_laws.proofs.Unique.{at_in, at_right, at_end}
use Rattle.region_laws.proofs.Tidy.{parts, good_tidy, bands_ok, boxes_bands}
use Rattle.region_laws.proofs.Rows.{row_is}
use Rattle.region_laws.proofs.Pairs.{All, all_append, all_map, all_at, OfRow, row_all, OfBands, bands_rest, bands_all, Before, banded_sound, banded_before}

-- below a band its row does not go on
abbrev Ends : List Band → Rect → Type 0
Ends bs c = at [] bs c.top ≢ at [] bs c.bottom

bands_end : (low : ℕ) (bs : List Band) → tidy same_row good_row low bs ≡ true → reach bs ≤ farthest → All (Ends bs) (boxes bs)
bands_end low [] k h = tt
bands_end low (b ∷ bs) k h =
    let p = parts same_row good_row low b bs k in
    let o = bands_ok low (b ∷ bs) k in
    let q = bands_rest b bs in
    all_append (Ends (b ∷ bs)) (row_boxes b.from b.to b.what) (boxes bs)
    (all_map (OfRow 0 (reach b.what) b.from b.to) (Ends (b ∷ bs))
    (λ c r e. at_end [] b bs o.2 o.3 o.4
    (sym (at_right [] b bs b.to (omega arith)) ∙ (ap (at [] (b ∷ bs)) (sym r.bottom) ∙ (sym e ∙ (ap (at [] (b ∷ bs)) r.top ∙ at_in [] b bs b.from (omega arith) p.full)))))
    (row_boxes b.from b.to b.what) (row_all 0 (reach b.what) b.from b.to b.what (good_tidy b.what p.fine) (omega arith)))
    (later (boxes bs) (bands_all same_row b.to farthest bs p.rest (omega arith) (omega arith)) (bands_end b.to bs p.rest (omega arith)))
  where
    later : (cs : List Rect) → All (OfBands b.to farthest) cs → All (Ends bs) cs → All (Ends (b ∷ bs)) cs
    later [] u v = tt
    later (c ∷ cs) u v =
        let t = u.0.top in
        let s = u.0.sound.high in
        ((λ e. v.0 (sym (at_right [] b bs c.top (omega arith)) ∙ (e ∙ at_right [] b bs c.bottom (omega arith)))), later cs u.1 v.1)

banded_end : (bs : List Rect) (i : ℕ) → banded bs ≡ true → i < length bs → at [] (bands bs) (nth bs i).top ≢ at [] (bands bs) (nth bs i).bottom
banded_end bs i k h =
    let a = and_parts (tidy same_row good_row 0 (bands bs)) (leb (reach (bands bs)) farthest) k in
    all_at (Ends (bands bs)) bs i (subst (λ (v : List Rect). All (Ends (bands bs)) v) (boxes_bands bs) (bands_end 0 (bands bs) a.0 (leb-true _ _ a.1))) h

pub rules_from : (bs : List Rect) → banded bs ≡ true → Rules bs
rules_from bs k = record {
  sound = λ i h. banded_sound bs i k h;
  ordered = λ i j l h. order i j (banded_sound bs i k (omega arith)) (banded_before bs i j k l h);
  in_bands = λ i j l h. band i j (banded_before bs i j k l h);
  apart = λ i j l h e. gap i j (banded_sound bs i k (omega arith)) e (banded_before bs i j k l h);
  differ = λ i j h g e f. banded_end bs i k h (sym (row_is bs (nth bs i).top k) ∙ (f ∙ (row_is bs (nth bs j).top k ∙ ap (at [] (bands bs)) (sym e))));
}
  where
    order : (i j : ℕ) → Sound (nth bs i) → Before (nth bs i) (nth bs j) → ((nth bs i).top < (nth bs j).top) ⊎ (((nth bs i).top ≡ (nth bs j).top) × ((nth bs i).left < (nth bs j).left))
    order i j s (inl p) = let w = s.wide in let g = p.2 in inr (p.0, omega arith)
    order i j s (inr p) = let w = s.high in inl (omega arith)

    band : (i j : ℕ) → Before (nth bs i) (nth bs j) → (((nth bs i).top ≡ (nth bs j).top) × ((nth bs i).bottom ≡ (nth bs j).bottom)) ⊎ (((nth bs i).bottom ≤ (nth bs j).top) ⊎ ((nth bs j).bottom ≤ (nth bs i).top))
    band i j (inl p) = inl (p.0, p.1)
    band i j (inr p) = inr (inl p)

    gap : (i j : ℕ) → Sound (nth bs i) → (nth bs i).top ≡ (nth bs j).top → Before (nth bs i) (nth bs j) → (nth bs i).right < (nth bs j).left
    gap i j s e (inl p) = p.2
    gap i j s e (inr p) = let w = s.high in absurd (omega arith)
