-- Every call keeps the law of whole runs.
use Rattle.std.proofs.Common.{◌≡◌, ℕ, ◌+◌, ◌%◌, ◌^◌, ◌<◌, Bool, true, false, cond, not, List, [], ◌∷◌, ℤ, is_some, Some, None, Option, sym, refl, ap, ◌∙◌, subst, arith}
use Rattle.std.proofs.lemmas.Bool.{cond-true, and_parts, and_from, ltb-true, lt-ltb}
use Rattle.region_laws.specs.Boxes.{box, no_box, inside}
use Rattle.region_laws.specs.Bands.{covers}
use Rattle.region_laws.specs.Counted.{sum, list_sum, place_sum, pixels, area}
use Rattle.region_laws.specs.Laws.{FitsIn}
use Rattle.region_laws.specs.declared.rect.Rect.{Rect}
use Rattle.region_laws.proofs.Counts.{sum_same, each_once, counts, stays_in}
use Rattle.surface.specs.Told.{Told}
use Rattle.surface.specs.Sound.{Sound}
use Rattle.surface.specs.Damaged.{Damaged}
use Rattle.surface.specs.declared.order.Order.{Order}
use Rattle.chain.specs.Screens.{Screens, on_display, back_age, front_pixel, back_pixel}
use Rattle.chain.specs.Screens as screens
use Rattle.chain.specs.Swaps.{Swapped}
use Rattle.reference.specs.declared.call.Call.{Call}
use Rattle.reference.specs.declared.call.Call.TheVariants.{Place, Move, Lift, Remove, Tell, Show}
use Rattle.reference.specs.declared.answer.Answer.{Answer}
use Rattle.reference.specs.declared.answer.Answer.TheVariants as answers
use Rattle.reference.specs.declared.refusal.Refusal.{Refusal}
use Rattle.reference.specs.Stack.{pane, height_of}
use Rattle.reference.specs.Picture.{picture, depth}
use Rattle.reference.specs.Refusals.{refusal, natural, unless, known, on_stack}
use Rattle.reference.specs.Damage.{State, opening, stated, shifted, OnDisplay, Orderly}
use Rattle.reference.specs.Steps.{done, next, telling_at}
use Rattle.reference.specs.Painting.{one_per_place, RegionPainted}
use Rattle.reference.specs.Freshness.{Fresh, due}
use Rattle.reference.specs.History.{Event, World, Right, Shows, ToldRight, plainly, damage_of}
use Rattle.reference.specs.Kept.{Kept, Sides, event}
use Rattle.reference_laws.proofs.Regions.{stated_on, stated_enough, whole_on, whole_covers, past_on, empty_on}
use Rattle.reference_laws.proofs.Freshness.{fresh_opening, fresh_noted, fresh_shown, front_whole, front_outside}
use Rattle.reference_laws.proofs.Changes.{Changes, unchanged, placing_changes, moving_changes, lifting_changes, removing_changes, telling_changes}

-- no refusal so far
pub good : (g : Bool) (r : Refusal) (rest : Option Refusal) → unless g r rest ≡ None → (g ≡ true) × (rest ≡ None)
good true r rest e = (refl, e)
good false r rest e = absurd (let z : ◌≡◌ {A = ℕ} 0 1 = cc in omega arith)

none_from : {A : Type 0} (o : Option A) → not (is_some o) ≡ true → o ≡ None
none_from None e = refl
none_from (Some a) e = absurd (let z : ◌≡◌ {A = ℕ} 0 1 = cc in omega arith)

-- the calls that neither reach the shelf nor paint
pub data Quiet : Call → Type 0 where
  place : (k x y : ℤ) → Quiet (Place k x y)
  move : (k x y : ℤ) → Quiet (Move k x y)
  lift : (k n : ℤ) → Quiet (Lift k n)
  remove : (k : ℤ) → Quiet (Remove k)

module _ {P S : Type 0} (w : World P S) (hard : P → Bool) (sound : (s : S) → Sound hard (w.tells s)) (s : S) (c : Screens P) (es : List (Event P S)) (now : S) (seen : Screens P) (st : State) (k : Kept w s c es now seen st) where
  -- one event more
  kept_more : (call : Call) (answer : Answer) (now' : S) (seen' : Screens P) (st' : State)
      → Right w st call (event call answer now seen now' seen')
      → st' ≡ next w.width w.height (w.tells now) call (damage_of answer) st
      → seen'.width ≡ seen.width → seen'.height ≡ seen.height
      → Orderly w.width w.height st'
      → Fresh seen' (picture w.lay (w.tells now') w.base st'.stack) st'
      → Kept w s c (event call answer now seen now' seen' ∷ es) now' seen' st'
  kept_more call answer now' seen' st' right state width height orderly fresh = record {
    lawful = (record { shelf = k.shelf; screens = k.screens; right = subst (λ q. Right w q call (event call answer now seen now' seen')) k.state right }, k.lawful);
    shelf = refl;
    screens = refl;
    state = state ∙ ap (next w.width w.height (w.tells now) call (damage_of answer)) k.state;
    width = width ∙ k.width;
    height = height ∙ k.height;
    sides = k.sides;
    orderly = orderly;
    fresh = fresh;
  }

  changes_of : (u : Told P) (st' : State) → Type 0
  changes_of u st' = Changes seen w.lay w.base w.width w.height (w.tells now) u st st'

  -- what a quiet call makes of the state
  if_refused : (r : Option Refusal) (call : Call) → (r ≡ None → Changes seen w.lay w.base w.width w.height (w.tells now) (w.tells now) st (done w.width w.height (w.tells now) call no_box st))
      → Changes seen w.lay w.base w.width w.height (w.tells now) (w.tells now) st (cond (is_some r) st (done w.width w.height (w.tells now) call no_box st))
  if_refused (Some r) call f = unchanged seen w.lay w.base w.width w.height k.sides.width_most k.sides.height_most k.width k.height hard (w.tells now) (sound now) st k.orderly
  if_refused None call f = f refl

  quiet_changes : (call : Call) → Quiet call → Changes seen w.lay w.base w.width w.height (w.tells now) (w.tells now) st (next w.width w.height (w.tells now) call no_box st)
  quiet_changes _ (place n x y) =
      if_refused (refusal (w.tells now) st.stack (Place n x y)) (Place n x y)
      (λ e.
      let a = good (known (w.tells now) n) _ _ e in
      let b = good (not (on_stack st.stack n)) _ _ a.1 in
      placing_changes seen w.lay w.base w.width w.height k.sides.width_most k.sides.height_most k.width k.height hard (w.tells now) (sound now) st k.orderly
      (pane (natural n) x y) (none_from (height_of (natural n) st.stack) b.0))
  quiet_changes _ (move n x y) =
      if_refused (refusal (w.tells now) st.stack (Move n x y)) (Move n x y)
      (λ e.
      moving_changes seen w.lay w.base w.width w.height k.sides.width_most k.sides.height_most k.width k.height hard (w.tells now) (sound now) st k.orderly
      (pane (natural n) x y) (height_of (natural n) st.stack) refl)
  quiet_changes _ (lift n m) =
      if_refused (refusal (w.tells now) st.stack (Lift n m)) (Lift n m)
      (λ e.
      lifting_changes seen w.lay w.base w.width w.height k.sides.width_most k.sides.height_most k.width k.height hard (w.tells now) (sound now) st k.orderly
      (natural n) (natural m) (height_of (natural n) st.stack) refl)
  quiet_changes _ (remove n) =
      if_refused (refusal (w.tells now) st.stack (Remove n)) (Remove n)
      (λ e.
      removing_changes seen w.lay w.base w.width w.height k.sides.width_most k.sides.height_most k.width k.height hard (w.tells now) (sound now) st k.orderly
      (natural n) (height_of (natural n) st.stack) refl)

  quiet_right : (call : Call) → Quiet call → (answer : Answer) (now' : S) (seen' : Screens P) → answer ≡ plainly (refusal (w.tells now) st.stack call) → now' ≡ now → seen' ≡ seen
      → Right w st call (event call answer now seen now' seen')
  quiet_right _ (place n x y) answer now' seen' a p q = record { answer = a; untouched = record { shelf = p; screens = q } }
  quiet_right _ (move n x y) answer now' seen' a p q = record { answer = a; untouched = record { shelf = p; screens = q } }
  quiet_right _ (lift n m) answer now' seen' a p q = record { answer = a; untouched = record { shelf = p; screens = q } }
  quiet_right _ (remove n) answer now' seen' a p q = record { answer = a; untouched = record { shelf = p; screens = q } }

  -- the damage box does not matter to a quiet call
  quiet_box : (call : Call) → Quiet call → (d : Rect) → next w.width w.height (w.tells now) call no_box st ≡ next w.width w.height (w.tells now) call d st
  quiet_box _ (place n x y) d = refl
  quiet_box _ (move n x y) d = refl
  quiet_box _ (lift n m) d = refl
  quiet_box _ (remove n) d = refl

  pub quiet_keeps : (call : Call) → Quiet call → (answer : Answer) (now' : S) (seen' : Screens P) (st' : State)
      → answer ≡ plainly (refusal (w.tells now) st.stack call) → now' ≡ now → seen' ≡ seen
      → st' ≡ next w.width w.height (w.tells now) call no_box st
      → Kept w s c (event call answer now seen now' seen' ∷ es) now' seen' st'
  quiet_keeps call quiet answer now' seen' st' a p q e =
      let d = quiet_changes call quiet in
      let n = next w.width w.height (w.tells now) call no_box st in
      let f : Fresh seen (picture w.lay (w.tells now) w.base n.stack) n = fresh_noted seen (picture w.lay (w.tells now) w.base st.stack) (picture w.lay (w.tells now) w.base n.stack) st n d.noted k.fresh in
      kept_more call answer now' seen' st' (quiet_right call quiet answer now' seen' a p q) (e ∙ quiet_box call quiet (damage_of answer))
      (ap (λ v. v.width) q) (ap (λ v. v.height) q)
      (subst (Orderly w.width w.height) (sym e) d.orderly)
      (subst (λ v. Fresh v (picture w.lay (w.tells now') w.base st'.stack) st') (sym q)
      (subst (λ v. Fresh seen (picture w.lay (w.tells v) w.base st'.stack) st') (sym p)
      (subst (λ v. Fresh seen (picture w.lay (w.tells now) w.base v.stack) v) (sym e) f)))

  -- a tell that is refused
  pub refused_keeps : (n : ℤ) (o : Order) (r : Refusal) (answer : Answer) (now' : S) (seen' : Screens P) (st' : State)
      → refusal (w.tells now) st.stack (Tell n o) ≡ Some r → answer ≡ answers.Refused r → now' ≡ now → seen' ≡ seen → st' ≡ st
      → Kept w s c (event (Tell n o) answer now seen now' seen' ∷ es) now' seen' st'
  refused_keeps n o r answer now' seen' st' f a p q e =
      kept_more (Tell n o) answer now' seen' st'
      (subst (λ v. ToldRight w v (natural n) o (event (Tell n o) answer now seen now' seen')) (sym f) (record { answer = a; untouched = record { shelf = p; screens = q } }))
      (e ∙ ap (λ v. cond (is_some v) st (done w.width w.height (w.tells now) (Tell n o) (damage_of answer) st)) (sym f))
      (ap (λ v. v.width) q) (ap (λ v. v.height) q)
      (subst (Orderly w.width w.height) (sym e) k.orderly)
      (subst (λ v. Fresh v (picture w.lay (w.tells now') w.base st'.stack) st') (sym q)
      (subst (λ v. Fresh seen (picture w.lay (w.tells v) w.base st'.stack) st') (sym p)
      (subst (λ v. Fresh seen (picture w.lay (w.tells now) w.base v.stack) v) (sym e) k.fresh)))

  -- a tell whose order is taken
  pub taken_keeps : (n : ℤ) (o : Order) (d : Rect) (answer : Answer) (now' : S) (seen' : Screens P) (st' : State)
      → refusal (w.tells now) st.stack (Tell n o) ≡ None → answer ≡ answers.Damaged d
      → w.becomes now (natural n) o d now' → Damaged (w.tells now) (w.tells now') (natural n) d → seen' ≡ seen
      → st' ≡ telling_at w.width w.height d (height_of (natural n) st.stack) st
      → Kept w s c (event (Tell n o) answer now seen now' seen' ∷ es) now' seen' st'
  taken_keeps n o d answer now' seen' st' f a m b q e =
      let z : damage_of answer ≡ d = ap damage_of a in
      let u = telling_at w.width w.height d (height_of (natural n) st.stack) st in
      let g = telling_changes seen w.lay w.base w.width w.height k.sides.width_most k.sides.height_most k.width k.height hard (w.tells now) (sound now) st k.orderly
      (natural n) d (w.tells now') b (height_of (natural n) st.stack) refl in
      let h : Fresh seen (picture w.lay (w.tells now') w.base u.stack) u = fresh_noted seen (picture w.lay (w.tells now) w.base st.stack) (picture w.lay (w.tells now') w.base u.stack) st u g.noted k.fresh in
      kept_more (Tell n o) answer now' seen' st'
      (subst (λ v. ToldRight w v (natural n) o (event (Tell n o) answer now seen now' seen')) (sym f)
      (record {
        answer = a ∙ ap answers.Damaged (sym z);
        made = subst (λ v. w.becomes now (natural n) o v now') (sym z) m;
        damaged = subst (λ v. Damaged (w.tells now) (w.tells now') (natural n) v) (sym z) b;
        screens = q;
      }))
      (e ∙ (ap (λ v. telling_at w.width w.height v (height_of (natural n) st.stack) st) (sym z) ∙ ap (λ v. cond (is_some v) st (done w.width w.height (w.tells now) (Tell n o) (damage_of answer) st)) (sym f)))
      (ap (λ v. v.width) q) (ap (λ v. v.height) q)
      (subst (Orderly w.width w.height) (sym e) g.orderly)
      (subst (λ v. Fresh v (picture w.lay (w.tells now') w.base st'.stack) st') (sym q)
      (subst (λ v. Fresh seen (picture w.lay (w.tells now') w.base v.stack) v) (sym e) h))

  -- A show.
  module _ (rs : List Rect) (is : rs ≡ stated w.width w.height (back_age seen) st) where
    on : OnDisplay w.width w.height rs
    on = subst (OnDisplay w.width w.height) (sym is) (stated_on w.width w.height k.sides.width_least k.sides.width_most k.sides.height_least k.sides.height_most st k.orderly.pending k.orderly.past (back_age seen))

    in_display : (x y : ℕ) → inside (box 0 0 w.width w.height) x y ≡ true → (x < w.width) × (y < w.height)
    in_display x y e =
        let a = and_parts _ _ e in
        (ltb-true x w.width (and_parts _ _ a.0).1, ltb-true y w.height (and_parts _ _ a.1).1)

    fits : FitsIn w.width w.height rs
    fits = stays_in rs on.listed w.width w.height (λ x y e. in_display x y (on.within x y e))

    shown_on_lem : (x y : ℕ) → screens.inside w.width w.height x y ≡ true → on_display seen x y ≡ true
    shown_on_lem x y g = ap (λ v. screens.inside v seen.height x y) k.width ∙ (ap (λ v. screens.inside w.width v x y) k.height ∙ g)

    on_shown : (x y : ℕ) → on_display seen x y ≡ true → screens.inside w.width w.height x y ≡ true
    on_shown x y g = ap (λ v. screens.inside v w.height x y) (sym k.width) ∙ (ap (λ v. screens.inside seen.width v x y) (sym k.height) ∙ g)

    -- the area is the number of pixels
    touched_is : area rs ≡ pixels w.width w.height (covers rs)
    touched_is = counts rs on.listed w.width w.height fits

    sum_is : (f : ℕ → ℕ → ℕ) → list_sum f rs ≡ place_sum w.width w.height f (covers rs)
    sum_is f = each_once rs on.listed w.width w.height f fits

    -- every pixel of the region is one of the display
    one_each : (x y : ℕ) → cond (covers rs x y) (one_per_place seen x y) 0 ≡ cond (covers rs x y) 1 0
    one_each x y = go (covers rs x y) refl
      where
        go : (b : Bool) → covers rs x y ≡ b → cond b (one_per_place seen x y) 0 ≡ cond b 1 0
        go true e =
            let i = in_display x y (on.within x y e) in
            cond-true (on_display seen x y) 1 0 (shown_on_lem x y (and_from _ _ (lt-ltb x w.width i.0) (lt-ltb y w.height i.1)))
        go false e = refl

    writes_are : list_sum (one_per_place seen) rs ≡ pixels w.width w.height (covers rs)
    writes_are =
        sum_is (one_per_place seen)
        ∙ sum_same (λ y. sum (λ x. cond (covers rs x y) (one_per_place seen x y) 0) 0 w.width) (λ y. sum (λ x. cond (covers rs x y) 1 0) 0 w.width) 0 w.height
        (λ y. sum_same (λ x. cond (covers rs x y) (one_per_place seen x y) 0) (λ x. cond (covers rs x y) 1 0) 0 w.width (λ x. one_each x y))

    pub show_keeps : (m seen' : Screens P) (answer : Answer) (now' : S) (st' : State) → seen.back < seen.count
        → RegionPainted seen rs (picture w.lay (w.tells now) w.base st.stack) m → Swapped m seen'
        → answer ≡ answers.Shown (record { age = back_age seen; touched = area rs; laid = list_sum (depth (w.tells now) st.stack) rs })
        → now' ≡ now → st' ≡ shifted st
        → Kept w s c (event Show answer now seen now' seen' ∷ es) now' seen' st'
    show_keeps m seen' answer now' st' low pt sw a p e =
        let pic = picture w.lay (w.tells now) w.base st.stack in
        let enough : (x y : ℕ) → on_display seen x y ≡ true → covers rs x y ≡ false → due (seen.age seen.back) st x y ≡ false =
        λ x y g o. stated_enough w.width w.height k.sides.width_least k.sides.width_most k.sides.height_least k.sides.height_most st k.orderly.pending k.orderly.past (back_age seen) x y (on_shown x y g) (ap (λ v. covers v x y) (sym is) ∙ o) in
        kept_more Show answer now' seen' st'
        (subst (λ v. Shows w st (event Show answer now seen v seen')) (sym p)
        (record {
          front = λ x y g. front_whole seen m seen' pic (covers rs) (list_sum (one_per_place seen) rs) pt sw st low enough k.fresh x y (shown_on_lem x y g);
          outside = λ x y o. front_outside seen m seen' pic (covers rs) (list_sum (one_per_place seen) rs) pt sw x y (ap (λ v. covers v x y) is ∙ o);
          writes = sw.writes ∙ (pt.writes ∙ ap (λ v. (seen.writes + v) % 2 ^ 32) (writes_are ∙ ap (λ v. pixels w.width w.height (covers v)) is));
          answer = a ∙ ap (λ v. answers.Shown (record { age = back_age seen; touched = v; laid = list_sum (depth (w.tells now) st.stack) rs })) (touched_is ∙ ap (λ v. pixels w.width w.height (covers v)) is)
              ∙ ap (λ v. answers.Shown (record { age = back_age seen; touched = pixels w.width w.height (covers (stated w.width w.height (back_age seen) st)); laid = v })) (sum_is (depth (w.tells now) st.stack) ∙ ap (λ v. place_sum w.width w.height (depth (w.tells now) st.stack) (covers v)) is);
          shelf = refl;
        }))
        e
        (sw.width ∙ pt.width) (sw.height ∙ pt.height)
        (subst (Orderly w.width w.height) (sym e)
        (record { stack = k.orderly.stack; pending = empty_on w.width w.height; past = past_on w.width w.height 7 (st.pending ∷ st.past) (k.orderly.pending, k.orderly.past) }))
        (subst (λ v. Fresh seen' (picture w.lay (w.tells v) w.base st'.stack) st') (sym p)
        (subst (λ v. Fresh seen' (picture w.lay (w.tells now) w.base v.stack) v) (sym e)
        (fresh_shown seen m seen' pic (covers rs) (list_sum (one_per_place seen) rs) pt sw st low enough k.fresh)))

-- A panel that was just opened.
pub opening_keeps : {P S : Type 0} (w : World P S) (s : S) (c : Screens P) → Sides w.width w.height → c.width ≡ w.width → c.height ≡ w.height → Kept w s c [] s c (opening w.width w.height)
opening_keeps w s c sides i j = record {
  lawful = tt;
  shelf = refl;
  screens = refl;
  state = refl;
  width = i;
  height = j;
  sides = sides;
  orderly = record { stack = tt; pending = whole_on w.width w.height sides.width_least sides.width_most sides.height_least sides.height_most; past = tt };
  fresh = fresh_opening c (picture w.lay (w.tells s) w.base []) (opening w.width w.height)
      (λ x y g. whole_covers w.width w.height x y (ap (λ v. screens.inside v w.height x y) (sym i) ∙ (ap (λ v. screens.inside c.width v x y) (sym j) ∙ g)));
}
