-- Freshness holds at opening, over every call that notes what it changes, and over every show.
use Rattle.std.proofs.Common.{◌≡◌, ℕ, zero, suc, ◌+◌, ◌-◌, ◌<◌, ◌≤◌, Bool, true, false, cond, ◌&&◌, ◌||◌, eqb, ltb, ◌≢◌, List, [], ◌∷◌, take, Some, Option, sym, refl, ap, ◌∙◌, subst, ⊎_elim, add-one, arith}
use Rattle.std.proofs.lemmas.Bool.Decides.{nat_tests}
use Rattle.std.proofs.lemmas.Bool.{cases_eq, cases_Bool, true≢false, ne_eqb, or_parts}
use Rattle.region_laws.specs.Boxes.{Places}
use Rattle.region_laws.specs.Bands.{covers}
use Rattle.region_laws.specs.declared.rect.Rect.{Rect}
use Rattle.chain.specs.Screens.{Screens, on_display, pixel_of, front_pixel, back_pixel}
use Rattle.chain.specs.Ages.{older}
use Rattle.chain.specs.Swaps.{Swapped}
use Rattle.reference.specs.Damage.{State, usable, shifted, kept}
use Rattle.reference.specs.Painting.{Painted}
use Rattle.reference.specs.Freshness.{among, due, Fresh}

-- the newest k are the same where at least k are kept
among_take : (k m : ℕ) (rs : List (List Rect)) (x y : ℕ) → k ≤ m → among k (take m rs) x y ≡ among k rs x y
among_take zero m rs x y h = refl
among_take (suc k) zero rs x y h = absurd (omega arith)
among_take (suc k) (suc m) [] x y h = refl
among_take (suc k) (suc m) (r ∷ rs) x y h = ap (λ (b : Bool). covers r x y || b) (among_take k m rs x y (omega arith))

never : true ≡ false → ⊥
never q = let z : ◌≡◌ {A = ℕ} 0 1 = cc in omega arith

whole_due : (n : ℕ) (p q : Bool) → p ≡ true → cond (usable n) (p || q) true ≡ true
whole_due n p q h = grind (arith, nat_tests)

-- at opening the whole display is pending
pub fresh_opening : {P : Type 0} (s : Screens P) (pic : ℕ → ℕ → P) (st : State) → ((x y : ℕ) → on_display s x y ≡ true → covers st.pending x y ≡ true) → Fresh s pic st
fresh_opening s pic st h b x y lt g e = absurd (never (sym (whole_due (s.age b) (covers st.pending x y) (among (s.age b - 1) st.past x y) (h x y g)) ∙ e))

due_parts : (n : ℕ) (p q : Bool) → cond (usable n) (p || q) true ≡ false → (usable n ≡ true) × (p ≡ false) × (q ≡ false)
due_parts n p q e = grind (arith, nat_tests)

due_from : (n : ℕ) (p q : Bool) → usable n ≡ true → p ≡ false → q ≡ false → cond (usable n) (p || q) true ≡ false
due_from n p q u e f = grind (arith, nat_tests)

-- a call that changes the picture only where it is then pending
pub record Noted {P : Type 0} (s : Screens P) (pic : ℕ → ℕ → P) (st : State) (pic' : ℕ → ℕ → P) (st' : State) : Type 0 where
  pub past : st'.past ≡ st.past
  pub off : (x y : ℕ) → on_display s x y ≡ true → covers st'.pending x y ≡ false → (covers st.pending x y ≡ false) × (pic' x y ≡ pic x y)

pub fresh_noted : {P : Type 0} (s : Screens P) (pic pic' : ℕ → ℕ → P) (st st' : State) → Noted s pic st pic' st' → Fresh s pic st → Fresh s pic' st'
fresh_noted s pic pic' st st' n f b x y lt g e =
    let d = due_parts (s.age b) (covers st'.pending x y) (among (s.age b - 1) st'.past x y) e in
    let c = n.off x y g d.1 in
    let a : among (s.age b - 1) st.past x y ≡ false = ap (λ q. among (s.age b - 1) q x y) (sym n.past) ∙ d.2 in
    f b x y lt g (due_from (s.age b) (covers st.pending x y) (among (s.age b - 1) st.past x y) d.0 c.0 a) ∙ ap Some (sym c.1)

-- an age that is one older and still usable
older_usable : (n : ℕ) → usable (older n) ≡ true → (usable n ≡ true) × (older n - 1 ≡ n - 1 + 1) × (n - 1 ≤ 6)
older_usable n u = grind (arith, nat_tests)

among_more : (k j : ℕ) (r : List Rect) (rs : List (List Rect)) (x y : ℕ) → k ≡ j + 1 → j ≤ 6 → among k (take kept (r ∷ rs)) x y ≡ (covers r x y || among j rs x y)
among_more k j r rs x y e h =
    subst (λ (i : ℕ). among i (take kept (r ∷ rs)) x y ≡ (covers r x y || among j rs x y)) (sym (e ∙ add-one j))
    (ap (λ (b : Bool). covers r x y || b) (among_take j 6 rs x y h))

-- what a buffer owes one show later
due_older : (n : ℕ) (st : State) (x y : ℕ) → due (older n) (shifted st) x y ≡ false → due n st x y ≡ false
due_older n st x y e =
    let d = due_parts (older n) false (among (older n - 1) (take kept (st.pending ∷ st.past)) x y) e in
    let o = older_usable n d.0 in
    let a = or_parts (covers st.pending x y) (among (n - 1) st.past x y) (sym (among_more (older n - 1) (n - 1) st.pending st.past x y o.1 o.2) ∙ d.2) in
    due_from n (covers st.pending x y) (among (n - 1) st.past x y) o.0 a.0 a.1

painted_in : {P : Type 0} (r on v : Bool) (o t : Option P) (p : P) → r ≡ true → on ≡ true → v ≡ true → t ≡ cond (v && (r && on)) (Some p) o → t ≡ Some p
painted_in r on v o t p e f g h = grind (arith, nat_tests)

painted_off : {P : Type 0} (r on v : Bool) (o t : Option P) (p : P) → r ≡ false → t ≡ cond (v && (r && on)) (Some p) o → t ≡ o
painted_off r on v o t p e h = grind (arith, nat_tests)

self_eqb : (b : ℕ) → eqb b b ≡ true
self_eqb b = grind (arith, nat_tests)

-- a show of s: the places r are painted, giving m, and the buffers are swapped, giving t
module _ {P : Type 0} (s m t : Screens P) (pic : ℕ → ℕ → P) (r : Places) (n : ℕ) (pt : Painted s r n pic m) (sw : Swapped m t) where
  -- what was the back is the front
  pub new_front : (x y : ℕ) → front_pixel t x y ≡ m.pixel s.back x y
  new_front x y =
      ap (λ (o : Option ℕ). pixel_of t o x y) sw.front ∙ (sw.shown x y ∙ ap (λ (b : ℕ). m.pixel b x y) pt.back)

  -- outside what was painted the frame is what the back held
  pub front_outside : (x y : ℕ) → r x y ≡ false → front_pixel t x y ≡ back_pixel s x y
  front_outside x y e = new_front x y ∙ painted_off (r x y) (on_display s x y) (eqb s.back s.back) (s.pixel s.back x y) (m.pixel s.back x y) (pic x y) e (pt.pixel s.back x y)

  module _ (st : State) (low : s.back < s.count) (enough : (x y : ℕ) → on_display s x y ≡ true → r x y ≡ false → due (s.age s.back) st x y ≡ false) (fr : Fresh s pic st) where
    back_painted : (x y : ℕ) → on_display s x y ≡ true → m.pixel s.back x y ≡ Some (pic x y)
    back_painted x y g =
        ⊎_elim
        (λ (h : r x y ≡ true). painted_in (r x y) (on_display s x y) (eqb s.back s.back) (s.pixel s.back x y) (m.pixel s.back x y) (pic x y) h g (self_eqb s.back) (pt.pixel s.back x y))
        (λ (h : r x y ≡ false).
        painted_off (r x y) (on_display s x y) (eqb s.back s.back) (s.pixel s.back x y) (m.pixel s.back x y) (pic x y) h (pt.pixel s.back x y)
        ∙ fr s.back x y low g (enough x y g h))
        (cases_Bool (r x y))

    -- the front is the whole picture
    pub front_whole : (x y : ℕ) → on_display s x y ≡ true → front_pixel t x y ≡ Some (pic x y)
    front_whole x y g = new_front x y ∙ back_painted x y g

    on_before : (x y : ℕ) → on_display t x y ≡ true → on_display s x y ≡ true
    on_before x y g =
        ap (λ (w : ℕ). ltb x w && ltb y s.height) (sym (sw.width ∙ pt.width)) ∙ (ap (λ (h : ℕ). ltb x t.width && ltb y h) (sym (sw.height ∙ pt.height)) ∙ g)

    -- any other buffer of a known age kept its pixels, and grew one older
    other : (b x y : ℕ) → b < s.count → b ≢ s.back → on_display s x y ≡ true → due (t.age b) (shifted st) x y ≡ false → t.pixel b x y ≡ Some (pic x y)
    other b x y lt ne g e =
        let d = due_parts (t.age b) false (among (t.age b - 1) (take kept (st.pending ∷ st.past)) x y) e in
        let lt' : b < m.count = subst (λ (k : ℕ). b < k) (sym pt.count) lt in
        let ne' : b ≢ m.back = λ (q : b ≡ m.back). ne (q ∙ pt.back) in
        let nz : t.age b ≢ 0 = λ (q : t.age b ≡ 0). true≢false (sym d.0 ∙ ap usable q) in
        let a : t.age b ≡ older (s.age b) = sw.ages b lt' ne' nz ∙ ap older (pt.age b) in
        let p : t.pixel b x y ≡ s.pixel b x y =
        sw.kept b lt' ne' nz x y ∙ (pt.pixel b x y ∙ ap (λ (v : Bool). cond (v && (r x y && on_display s x y)) (Some (pic x y)) (s.pixel b x y)) (ne_eqb b s.back ne)) in
        p ∙ fr b x y lt g (due_older (s.age b) st x y (ap (λ (k : ℕ). due k (shifted st) x y) (sym a) ∙ e))

    pub fresh_shown : Fresh t pic (shifted st)
    fresh_shown b x y lt g e =
        ⊎_elim
        (λ (q : b ≡ s.back). ap (λ (c : ℕ). t.pixel c x y) q ∙ (ap (λ (c : ℕ). t.pixel c x y) (sym pt.back) ∙ (sw.shown x y ∙ (ap (λ (c : ℕ). m.pixel c x y) pt.back ∙ back_painted x y (on_before x y g)))))
        (λ (q : b ≡ s.back → ⊥). other b x y (subst (λ (k : ℕ). b < k) (sw.count ∙ pt.count) lt) q (on_before x y g) e)
        (cases_eq b s.back)
