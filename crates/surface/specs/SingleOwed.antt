-- The proof, which the kinds of one surface carry in their meaning, that such a shelf keeps what every shelf owes. It
-- says nothing more than the type of `single_sound`.
use Rattle.std.specs.Prelude.{◌≡◌, ℕ, ◌<◌, ◌≤◌, Bool, true, false, cond, ◌&&◌, is_some, Some, None, Option, ◌==◌, ◌≢◌, nat_eq, nat_le, nat_lt, refl}
use Rattle.std.proofs.Common.{arith, sym, ap, ◌∙◌, ⊎_elim}
use Rattle.std.proofs.lemmas.Bool.{and_parts, and_from, and_left, both_ways, cases_Bool, cond_both, cond-true, cond-false, eqb-true, eqb-false, ltb-true, lt-ltb, le-ltb, le-leb, or_left, or_right}
use Rattle.region_laws.specs.declared.rect.Rect.{Rect}
use Rattle.region_laws.specs.Boxes.{box, no_box, inside}
use Rattle.surface.specs.declared.order.Order.{Order}
use Rattle.surface.specs.declared.size.Size.{Size}
use Rattle.surface.specs.Told.{on, fair, fits, has, passes}
use Rattle.surface.specs.Sound.{Sound, boxed}
use Rattle.surface.specs.Single.{sides, single}

both_fair : (w h : ℕ) → w ≤ 1024 → h ≤ 1024 → fair (Some (record { width = w; height = h })) ≡ true
both_fair w h i j = and_from _ _ (le-leb w 1024 i) (le-leb h 1024 j)

-- the whole surface, which may be closed, fits it
whole_fits : (w h : ℕ) → (w == 0) ≡ (h == 0) → fits (Some (record { width = w; height = h })) (box 0 0 w h) ≡ true
whole_fits w h e = ⊎_elim
    (λ z. or_left _ _ (and_from _ _ refl (and_from _ _ z (sym e ∙ z))))
    (λ z.
    let p : w ≡ 0 → ⊥ = eqb-false w 0 z in
    let q : h ≡ 0 → ⊥ = eqb-false h 0 (sym e ∙ z) in
    or_right _ _ (and_from _ _ (and_from _ _ (lt-ltb 0 w (omega arith)) (lt-ltb 0 h (omega arith))) (and_from _ _ (le-leb w w (omega arith)) (le-leb h h (omega arith)))))
    (cases_Bool (w == 0))

sides_fair : (t : Bool) (z : Size) → fair (Some z) ≡ true → fair (cond t (Some z) None) ≡ true
sides_fair true z e = e
sides_fair false z e = refl

sides_boxed : (t : Bool) (z : Size) (b : Rect) → fits (Some z) b ≡ true → boxed (cond t (Some z) None) (cond t (Some b) None) ≡ true
sides_boxed true z b e = e
sides_boxed false z b e = refl

only_first : {X : Type 0} (k : ℕ) (v : X) → is_some (cond (k == 0) (Some v) None) ≡ nat_lt k 1
only_first k v = cond_both (k == 0) (Some v) None (λ u. is_some u ≡ nat_lt k 1)
    (λ e. let z = eqb-true k 0 e in sym (lt-ltb k 1 (omega arith)))
    (λ e. let z = eqb-false k 0 e in sym (le-ltb k 1 (omega arith)))

-- the places of the surface
pub record Place (w h k x y : ℕ) : Type 0 where
  pub one : nat_eq k 0 ≡ true
  pub right : x < w
  pub bottom : y < h

pub place_on : (w h k x y : ℕ) → on (sides w h k) x y ≡ true → Place w h k x y
place_on w h k x y = cond_both (k == 0) _ _ (λ v. on v x y ≡ true → Place w h k x y)
    (λ e i. let p = and_parts (nat_lt x w) (nat_lt y h) i in record { one = e; right = ltb-true x w p.0; bottom = ltb-true y h p.1 })
    (λ e i. absurd (both_ways false refl i))

pub on_place : (w h k x y : ℕ) → Place w h k x y → on (sides w h k) x y ≡ true
on_place w h k x y p = ap (λ v. on v x y) (cond-true (k == 0) _ _ p.one) ∙ and_from _ _ (lt-ltb x w p.right) (lt-ltb y h p.bottom)

whole_place : (w h k x y : ℕ) → (k == 0) ≡ true → inside (box 0 0 w h) x y ≡ true → Place w h k x y
whole_place w h k x y e i =
    let p = and_parts (nat_le 0 x && nat_lt x w) (nat_le 0 y && nat_lt y h) i in
    record { one = e; right = ltb-true x w (and_parts (nat_le 0 x) _ p.0).1; bottom = ltb-true y h (and_parts (nat_le 0 y) _ p.1).1 }

no_place : (x y : ℕ) → inside no_box x y ≢ true
no_place x y i = let r = ltb-true x 0 (and_parts (nat_le 0 x) _ (and_parts (nat_le 0 x && nat_lt x 0) (nat_le 0 y && nat_lt y 0) i).0).1 in omega arith

module _ {P : Type 0} (hard : P → Bool) (w h : ℕ) (picture : ℕ → ℕ → Option P) (whole : Bool) (accepts : Order → Bool) where
  seen : (k x y : ℕ) → ((x y : ℕ) → x < w → y < h → is_some (picture x y) ≡ true) → is_some (cond (on (sides w h k) x y) (picture x y) None) ≡ on (sides w h k) x y
  seen k x y there = ⊎_elim
      (λ e. let p = place_on w h k x y e in ap is_some (cond-true _ _ _ e) ∙ there x y p.right p.bottom ∙ sym e)
      (λ e. ap is_some (cond-false _ _ _ e) ∙ sym e)
      (cases_Bool (on (sides w h k) x y))

  hiding : (k x y : ℕ) → (whole ≡ true → (x y : ℕ) → x < w → y < h → passes hard (picture x y) ≡ true)
      → has (cond (k == 0) (Some (cond whole (box 0 0 w h) no_box)) None) x y ≡ true → passes hard (cond (on (sides w h k) x y) (picture x y) None) ≡ true
  hiding k x y all = cond_both (k == 0) _ _ (λ v. has v x y ≡ true → passes hard (cond (on (sides w h k) x y) (picture x y) None) ≡ true)
      (λ e. cond_both whole _ _ (λ v. inside v x y ≡ true → passes hard (cond (on (sides w h k) x y) (picture x y) None) ≡ true)
      (λ yes i. let p = whole_place w h k x y e i in ap (passes hard) (cond-true _ _ _ (on_place w h k x y p)) ∙ all yes x y p.right p.bottom)
      (λ no i. absurd (no_place x y i)))
      (λ e i. absurd (both_ways false refl i))

  pub single_sound : w ≤ 1024 → h ≤ 1024 → (w == 0) ≡ (h == 0) → ((x y : ℕ) → x < w → y < h → is_some (picture x y) ≡ true)
      → (whole ≡ true → (x y : ℕ) → x < w → y < h → passes hard (picture x y) ≡ true) → Sound hard (single w h picture whole accepts)
  single_sound wide high both there all = record {
    some = omega arith;
    few = omega arith;
    sized = λ k. only_first k _;
    solids = λ k. only_first k _;
    sides = λ k. sides_fair (k == 0) _ (both_fair w h wide high);
    pictures = λ k x y. seen k x y there;
    boxes = λ k. sides_boxed (k == 0) _ _
        (cond_both whole _ _ (λ v. fits (Some (record { width = w; height = h })) v ≡ true) (λ e. whole_fits w h both) (λ e. refl));
    hides = λ k x y. hiding k x y all;
    closed = λ k o e. and_left _ _ e;
  }
