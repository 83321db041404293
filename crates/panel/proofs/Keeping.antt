-- What each call of the panel promises keeps the law of whole runs.
use Rattle.std.proofs.Common.{◌≡◌, ℕ, Bool, true, false, cond, not, ltb, List, ◌∷◌, length, ℤ, is_some, Some, None, Ok, Err, Option, Result, sym, refl, ap, ◌∙◌, subst}
use Rattle.std.proofs.lemmas.Bool.{cond-true}
use Rattle.region_laws.specs.Boxes.{no_box}
use Rattle.region_laws.specs.declared.rect.Rect.{Rect}
use Rattle.region.specs.declared.display.Display.{Display}
use Rattle.surface.specs.Told.{Told}
use Rattle.surface.specs.Sound.{Sound}
use Rattle.surface.specs.declared.order.Order.{Order}
use Rattle.chain.specs.Screens.{Screens}
use Rattle.chain.specs.Screens as screens
use Rattle.reference.specs.declared.pane.Pane.{Pane}
use Rattle.reference.specs.declared.call.Call.{Call}
use Rattle.reference.specs.declared.call.Call.TheVariants.{Place, Move, Lift, Remove, Tell, Show}
use Rattle.reference.specs.declared.answer.Answer.TheVariants as answers
use Rattle.reference.specs.declared.answer.Shown.{Shown}
use Rattle.reference.specs.declared.refusal.Refusal.{Refusal}
use Rattle.reference.specs.Stack.{pane, height_of}
use Rattle.reference.specs.Places.{surface_box}
use Rattle.reference.specs.Refusals.{refusal, natural, known, most, on_stack, place_refusal, move_refusal, lift_refusal, remove_refusal, tell_refusal}
use Rattle.reference.specs.Damage.{State}
use Rattle.reference.specs.Steps.{done, placing, moving_at, lifting_at, removing_at, telling_at}
use Rattle.reference.specs.declared.refusal.Refusal.TheVariants.{NoSurface, NotTaken}
use Rattle.surface.specs.Damaged.{Damaged}
use Rattle.reference.specs.History.{Event, plainly}
use Rattle.reference.specs.Kept.{Kept, event}
use Rattle.reference_laws.proofs.Calls.{good, Quiet, quiet_keeps, refused_keeps, taken_keeps, show_keeps}
use Rattle.scene.specs.States.{state_of}
use Rattle.scene.specs.Checks.{accepted}
use Rattle.scene.specs.declared.known.Known.{Known}
use Rattle.scene.specs.declared.scene.Scene.{Scene}
use Rattle.panel.specs.declared.panel.Panel.{Panel}
use Rattle.reference.specs.Answers.{said}
use Rattle.panel.specs.Calls.{Meaning, world_of, KeptBy, Keeps, found, Quietly, Taken, Declined, Displays, StackCall}

said_accepted : (r : Option Refusal) → said (accepted r) ≡ plainly r
said_accepted None = refl
said_accepted (Some r) = refl

module _ {P S C : Type 0} (m : Meaning P S C) where
  -- a panel of the same base and display is judged by the same
  same_world : (p q : Panel P S C) (s : S) (c : Screens P) (es : List (Event P S)) → q.base ≡ p.base → q.display ≡ p.display
      → Kept (world_of m p) s c es q.shelf (m.screens q.chain) (state_of q.scene) → KeptBy m q s c es
  same_world p q s c es b d k =
      subst (λ (v : Display). Kept (record { lay = m.lay; tells = m.tells; becomes = m.becomes; base = q.base; width = v.width; height = v.height }) s c es q.shelf (m.screens q.chain) (state_of q.scene)) (sym d)
      (subst (λ (v : P). Kept (record { lay = m.lay; tells = m.tells; becomes = m.becomes; base = v; width = p.display.width; height = p.display.height }) s c es q.shelf (m.screens q.chain) (state_of q.scene)) (sym b) k)

  -- a call that met this refusal
  pub refused_quietly : (p : Panel P S C) (call : Call) (e : Refusal) → refusal (m.tells p.shelf) (state_of p.scene).stack call ≡ Some e → Quietly m p call (Err e) p
  refused_quietly p call e k = record {
    answer = ap accepted (sym k);
    scene = ap (λ r. cond (is_some r) (state_of p.scene) (done p.display.width p.display.height (m.tells p.shelf) call no_box (state_of p.scene))) (sym k);
    base = refl;
    shelf = refl;
    chain = refl;
    display = refl;
  }

  -- a call that met none, of which the scene made what it should
  pub done_quietly : (p : Panel P S C) (call : Call) (sc : Scene) → refusal (m.tells p.shelf) (state_of p.scene).stack call ≡ None
      → state_of sc ≡ done p.display.width p.display.height (m.tells p.shelf) call no_box (state_of p.scene)
      → Quietly m p call (Ok tt) (record { base = p.base; shelf = p.shelf; chain = p.chain; display = p.display; scene = sc })
  done_quietly p call sc k e = record {
    answer = ap accepted (sym k);
    scene = e ∙ ap (λ r. cond (is_some r) (state_of p.scene) (done p.display.width p.display.height (m.tells p.shelf) call no_box (state_of p.scene))) (sym k);
    base = refl;
    shelf = refl;
    chain = refl;
    display = refl;
  }

  module _ (hard : P → Bool) (sound : (s : S) → Sound hard (m.tells s)) where
    pub quietly_keeps : (p q : Panel P S C) (call : Call) (r : Result (Unit {0}) Refusal) → Quiet call → Quietly m p call r q → Keeps m p call (said r) q
    quietly_keeps p q call r quiet h s c es k =
        same_world p q s c (event call (said r) p.shelf (m.screens p.chain) q.shelf (m.screens q.chain) ∷ es) h.base h.display
        (quiet_keeps (world_of m p) hard sound s c es p.shelf (m.screens p.chain) (state_of p.scene) k call quiet (said r) q.shelf (m.screens q.chain) (state_of q.scene)
        (ap said h.answer ∙ said_accepted (refusal (m.tells p.shelf) (state_of p.scene).stack call)) h.shelf (ap m.screens h.chain) h.scene)

    pub refused_call : (p : Panel P S C) (call : Call) (e : Refusal) → Quiet call → refusal (m.tells p.shelf) (state_of p.scene).stack call ≡ Some e → StackCall m p call (Err e) p
    refused_call p call e quiet k = let q = refused_quietly p call e k in record { quietly = q; keeps = quietly_keeps p p call (Err e) quiet q }

    pub done_call : (p : Panel P S C) (call : Call) (sc : Scene) → Quiet call → refusal (m.tells p.shelf) (state_of p.scene).stack call ≡ None
        → state_of sc ≡ done p.display.width p.display.height (m.tells p.shelf) call no_box (state_of p.scene)
        → StackCall m p call (Ok tt) (record { base = p.base; shelf = p.shelf; chain = p.chain; display = p.display; scene = sc })
    done_call p call sc quiet k e = let q = done_quietly p call sc k e in record { quietly = q; keeps = quietly_keeps p _ call (Ok tt) quiet q }

    pub declined_keeps : (p q : Panel P S C) (n : ℤ) (o : Order) (e : Refusal) → Declined m p n o e q → Keeps m p (Tell n o) (answers.Refused e) q
    declined_keeps p q n o e h s c es k =
        same_world p q s c (event (Tell n o) (answers.Refused e) p.shelf (m.screens p.chain) q.shelf (m.screens q.chain) ∷ es) h.base h.display
        (refused_keeps (world_of m p) hard sound s c es p.shelf (m.screens p.chain) (state_of p.scene) k n o e (answers.Refused e) q.shelf (m.screens q.chain) (state_of q.scene)
        h.first refl h.shelf (ap m.screens h.chain) (ap state_of h.scene))

    pub told_keeps : (p q : Panel P S C) (n : ℤ) (o : Order) (d : Rect) → Taken m p n o d q → Keeps m p (Tell n o) (answers.Damaged d) q
    told_keeps p q n o d h s c es k =
        same_world p q s c (event (Tell n o) (answers.Damaged d) p.shelf (m.screens p.chain) q.shelf (m.screens q.chain) ∷ es) h.base h.display
        (taken_keeps (world_of m p) hard sound s c es p.shelf (m.screens p.chain) (state_of p.scene) k n o d (answers.Damaged d) q.shelf (m.screens q.chain) (state_of q.scene)
        h.free refl h.made h.damaged (ap m.screens h.chain) h.scene)

    pub displays_keeps : (whole : (c : C) → screens.Sound (m.screens c)) (p q : Panel P S C) (r : Shown) → Displays m p r q → Keeps m p Show (answers.Shown r) q
    displays_keeps whole p q r h s c es k =
        same_world p q s c (event Show (answers.Shown r) p.shelf (m.screens p.chain) q.shelf (m.screens q.chain) ∷ es) h.base h.display
        (show_keeps (world_of m p) hard sound s c es p.shelf (m.screens p.chain) (state_of p.scene) k _ refl h.painted (m.screens q.chain) (answers.Shown r) q.shelf (state_of q.scene)
        (whole p.chain).back h.paints h.swaps (ap answers.Shown h.answer) h.shelf h.scene)

-- the surface that is found of a number
some_of : {A : Type 0} (b : Bool) (a : A) → is_some (cond b (Some a) None) ≡ b
some_of true a = refl
some_of false a = refl

the_one : {A : Type 0} (b : Bool) (a v : A) → cond b (Some a) None ≡ Some v → v ≡ a
the_one true a v e = cc
the_one false a v e = cc

-- what a panel found of a number k, which came through a call as k'
module _ {P : Type 0} (t : Told P) (k k' : ℤ) (e : k' ≡ k) (o : Option Known) (h : o ≡ found t k') where
  pub there_is : is_some o ≡ known t k
  there_is = ap is_some h ∙ (some_of (known t k') _ ∙ ap (known t) e)

  pub found_is : (v : Known) → o ≡ Some v → v ≡ record { number = natural k; whole = surface_box t (natural k) }
  found_is v s = the_one (known t k') _ v (sym h ∙ s) ∙ ap (λ z. let w : Known = record { number = natural z; whole = surface_box t (natural z) } in w) e

  module _ (ps : List Pane) (r : Option Refusal) where
    pub place_refusal_lem : (x x' y y' : ℤ) → x' ≡ x → y' ≡ y → place_refusal (is_some o) ps k' x' y' ≡ r → refusal t ps (Place k x y) ≡ r
    place_refusal_lem x x' y y' f g q = sym (λ i. place_refusal (there_is i) ps (e i) (f i) (g i)) ∙ q

    pub move_refusal_lem : (x x' y y' : ℤ) → x' ≡ x → y' ≡ y → move_refusal (is_some o) ps k' x' y' ≡ r → refusal t ps (Move k x y) ≡ r
    move_refusal_lem x x' y y' f g q = sym (λ i. move_refusal (there_is i) ps (e i) (f i) (g i)) ∙ q

    pub lift_refusal_lem : (n n' : ℤ) → n' ≡ n → lift_refusal (is_some o) ps k' n' ≡ r → refusal t ps (Lift k n) ≡ r
    lift_refusal_lem n n' f q = sym (λ i. lift_refusal (there_is i) ps (e i) (f i)) ∙ q

    pub remove_refusal_lem : remove_refusal (is_some o) ps k' ≡ r → refusal t ps (Remove k) ≡ r
    remove_refusal_lem q = sym (λ i. remove_refusal (there_is i) ps (e i)) ∙ q

  -- what the scene makes of a call that is not refused
  module _ (w high : ℕ) (st st' : State) (v : Known) (s : o ≡ Some v) where
    pub place_done : (x x' y y' : ℤ) → x' ≡ x → y' ≡ y → refusal t st.stack (Place k x y) ≡ None
        → st' ≡ cond (ltb (length st.stack) most) (placing w high v.whole (pane v.number x' y') st) st → st' ≡ done w high t (Place k x y) no_box st
    place_done x x' y y' f g z i =
        let a = good (known t k) _ _ z in
        let c = good (not (on_stack st.stack k)) _ _ a.1 in
        let d = good (ltb (length st.stack) most) _ _ c.1 in
        i ∙ (cond-true (ltb (length st.stack) most) (placing w high v.whole (pane v.number x' y') st) st d.0 ∙ (λ j. placing w high (found_is v s j).whole (pane (found_is v s j).number (f j) (g j)) st))

    pub move_done : (x x' y y' : ℤ) → x' ≡ x → y' ≡ y → st' ≡ moving_at w high v.whole (height_of v.number st.stack) (pane v.number x' y') st → st' ≡ done w high t (Move k x y) no_box st
    move_done x x' y y' f g i = i ∙ (λ j. moving_at w high (found_is v s j).whole (height_of (found_is v s j).number st.stack) (pane (found_is v s j).number (f j) (g j)) st)

    pub lift_done : (u : ℤ) (n : ℕ) → n ≡ natural u → st' ≡ lifting_at w high v.whole (height_of v.number st.stack) n st → st' ≡ done w high t (Lift k u) no_box st
    lift_done u n f i = i ∙ (λ j. lifting_at w high (found_is v s j).whole (height_of (found_is v s j).number st.stack) (f j) st)

    pub remove_done : st' ≡ removing_at w high v.whole (height_of v.number st.stack) st → st' ≡ done w high t (Remove k) no_box st
    remove_done i = i ∙ (λ j. removing_at w high (found_is v s j).whole (height_of (found_is v s j).number st.stack) st)

-- an order that the shelf took, or did not
module _ {P S C : Type 0} (m : Meaning P S C) (p : Panel P S C) (k k' : ℤ) (e : k' ≡ k) (found_of : Option Known) (h : found_of ≡ found (m.tells p.shelf) k') (o : Order) where
  tell_refusal_lem : (b c : Bool) → is_some found_of ≡ b → (m.tells p.shelf).takes (natural k) o ≡ c → refusal (m.tells p.shelf) (state_of p.scene).stack (Tell k o) ≡ tell_refusal b c k
  tell_refusal_lem b c i j = λ l. tell_refusal ((sym (there_is (m.tells p.shelf) k k' e found_of h) ∙ i) l) (j l) k

  module _ (v : Known) (i : found_of ≡ Some v) where
    number_is : v.number ≡ natural k
    number_is = ap (λ (w : Known). w.number) (found_is (m.tells p.shelf) k k' e found_of h v i)

    takes_is : (b : Bool) → b ≡ (m.tells p.shelf).takes v.number o → (m.tells p.shelf).takes (natural k) o ≡ b
    takes_is b j = ap (λ z. (m.tells p.shelf).takes z o) (sym number_is) ∙ sym j

    pub told_taken : (d : Rect) (s : S) (sc : Scene) → true ≡ (m.tells p.shelf).takes v.number o → m.becomes p.shelf v.number o d s → Damaged (m.tells p.shelf) (m.tells s) v.number d
        → state_of sc ≡ telling_at p.display.width p.display.height d (height_of v.number (state_of p.scene).stack) (state_of p.scene)
        → Taken m p k o d (record { base = p.base; shelf = s; chain = p.chain; display = p.display; scene = sc })
    told_taken d s sc j b a z = record {
      free = tell_refusal_lem true true (ap is_some i) (takes_is true j);
      made = subst (λ n. m.becomes p.shelf n o d s) number_is b;
      damaged = subst (λ n. Damaged (m.tells p.shelf) (m.tells s) n d) number_is a;
      scene = z ∙ ap (λ n. telling_at p.display.width p.display.height d (height_of n (state_of p.scene).stack) (state_of p.scene)) number_is;
      base = refl;
      chain = refl;
      display = refl;
    }

    pub told_declined : (s : S) → false ≡ (m.tells p.shelf).takes v.number o → s ≡ p.shelf → Declined m p k o (NotTaken k') (record { base = p.base; shelf = s; chain = p.chain; display = p.display; scene = p.scene })
    told_declined s j z = record { first = tell_refusal_lem true false (ap is_some i) (takes_is false j) ∙ ap (λ n. Some (NotTaken n)) (sym e); shelf = z; scene = refl; base = refl; chain = refl; display = refl }

  pub told_unknown : found_of ≡ None → Declined m p k o (NoSurface k') p
  told_unknown i = record { first = tell_refusal_lem false _ (ap is_some i) refl ∙ ap (λ n. Some (NoSurface n)) (sym e); shelf = refl; scene = refl; base = refl; chain = refl; display = refl }
