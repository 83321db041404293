-- A shelf of one surface.
use Rattle.std.proofs.Common.{◌≡◌, ℕ, ◌<◌, Bool, true, false, cond, ◌&&◌, ltb, Option, sym, refl, ap, ◌∙◌, subst}
use Rattle.std.proofs.lemmas.Bool.{and_parts, and_from, ltb-true, lt-ltb, cond-false}
use Rattle.region_laws.specs.declared.rect.Rect.{Rect}
use Rattle.region_laws.specs.Boxes.{Places, inside}
use Rattle.surface.specs.declared.order.Order.{Order}
use Rattle.surface.specs.Told.{Told, on, has, passes}
use Rattle.surface.specs.Sound.{Sound}
use Rattle.surface.specs.Damaged.{Damaged}
use Rattle.surface.specs.Hull.{hull, cut}
use Rattle.surface.specs.Single.{sides, single}
use Rattle.surface.specs.SingleOwed.{place_on}
use Rattle.surface.proofs.Hulls.{hulls, smallest_fits, outside_smallest}

both : {X : Type 0} (t : Bool) (a b c : X) → (t ≡ true → a ≡ b) → cond t a c ≡ cond t b c
both true a b c f = f refl
both false a b c f = refl

-- a picture that is as before wherever p is false is damaged in the smallest box over p
pub single_damaged : {P : Type 0} (w h : ℕ) (old new : ℕ → ℕ → Option P) (whole whole' : Bool) (accepts : Order → Bool) (p : Places) (k : ℕ) → k ≡ 0
    → ((x y : ℕ) → x < w → y < h → p x y ≡ false → new x y ≡ old x y) → Damaged (single w h old whole accepts) (single w h new whole' accepts) k (hull p w h)
single_damaged w h old new whole whole' accepts p k k0 same =
    let b = hull p w h in
    let corner : (x y : ℕ) → cut p w h x y ≡ true → (x < w) × (y < h)
    = λ x y e. let q = and_parts (ltb x w) (ltb y h) (and_parts (ltb x w && ltb y h) (p x y) e).0 in (ltb-true x w q.0, ltb-true y h q.1) in
    let out : (x y : ℕ) → x < w → y < h → inside b x y ≡ false → p x y ≡ false
    = λ x y i j e. let here : (ltb x w && ltb y h) ≡ true = and_from _ _ (lt-ltb x w i) (lt-ltb y h j) in
    sym (ap (λ v. v && p x y) here) ∙ outside_smallest (cut p w h) b x y (hulls p w h) e in
    subst (λ m. Damaged (single w h old whole accepts) (single w h new whole' accepts) m b) (sym k0) (record {
      boxed = smallest_fits (cut p w h) b (record { width = w; height = h }) corner (hulls p w h);
      count = refl;
      size = λ j. refl;
      pixel = λ j x y e. both (on (sides w h j) x y) _ _ _
          (λ i. let q = place_on w h j x y i in same x y q.right q.bottom (out x y q.right q.bottom (sym (ap (λ v. v && inside b x y) q.one) ∙ e)));
      solid = λ j e. cond-false _ _ _ e ∙ sym (cond-false _ _ _ e);
      takes = λ j o e. refl;
    })

-- an answer that is the solid box of a sound shelf covers solid pixels only
pub hides_told : {P : Type 0} (hard : P → Bool) (t : Told P) (k : ℕ) (r : Option Rect) → Sound hard t → r ≡ t.solid k → (x y : ℕ) → has r x y ≡ true → passes hard (t.pixel k x y) ≡ true
hides_told hard t k r s e x y h = s.hides k x y (sym (ap (λ v. has v x y) e) ∙ h)
