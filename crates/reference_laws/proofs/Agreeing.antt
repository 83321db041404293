-- Two lawful runs of equal calls, over shelves that tell the same, agree.
use Rattle.std.proofs.Common.{◌≡◌, ℕ, Bool, true, false, cond, ◌&&◌, List, [], ◌∷◌, ℤ, is_some, Some, None, Option, sym, refl, ap, ◌∙◌, subst}
use Rattle.std.specs.List.{remove}
use Rattle.region_laws.specs.declared.rect.Rect.{Rect}
use Rattle.surface.specs.Told.{Told, opened}
use Rattle.surface.specs.declared.order.Order.{Order}
use Rattle.chain.specs.Screens.{Screens, inside}
use Rattle.reference.specs.declared.pane.Pane.{Pane}
use Rattle.reference.specs.declared.call.Call.{Call}
use Rattle.reference.specs.declared.call.Call.TheVariants.{Place, Move, Lift, Remove, Tell, Show}
use Rattle.reference.specs.declared.refusal.Refusal.{Refusal}
use Rattle.reference.specs.Stack.{pane, height_of, placed, moved, lifted}
use Rattle.reference.specs.Places.{past, surface_box}
use Rattle.reference.specs.Picture.{picture, pane_at, pixel_at, laid_over}
use Rattle.reference.specs.Refusals.{refusal, natural, below, known, place_refusal, move_refusal, lift_refusal, remove_refusal, tell_refusal}
use Rattle.reference.specs.Damage.{State}
use Rattle.reference.specs.Steps.{done, next, moving_at, lifting_at, removing_at, telling_at}
use Rattle.reference.specs.History.{Event, World, reference, Lawful, Right, ToldRight, plainly, damage_of}
use Rattle.reference.specs.Agreement.{TellSame, refusal_of, Both, Alike, FramesAgree, Agree, SameWorld, FramesStayAlike}

known_same : {P : Type 0} (t u : Told P) → TellSame t u → (k : ℤ) → known t k ≡ known u k
known_same t u s k = ap (λ n. below k n && opened (t.size (natural k))) s.count ∙ ap (λ z. below k u.count && opened z) (s.size (natural k))

-- shelves that tell the same refuse the same
refusal_same : {P : Type 0} (t u : Told P) → TellSame t u → (ps : List Pane) (c : Call) → refusal t ps c ≡ refusal u ps c
refusal_same t u s ps (Place k x y) = ap (λ b. place_refusal b ps k x y) (known_same t u s k)
refusal_same t u s ps (Move k x y) = ap (λ b. move_refusal b ps k x y) (known_same t u s k)
refusal_same t u s ps (Lift k n) = ap (λ b. lift_refusal b ps k n) (known_same t u s k)
refusal_same t u s ps (Remove k) = ap (λ b. remove_refusal b ps k) (known_same t u s k)
refusal_same t u s ps (Tell k o) = ap (λ b. tell_refusal b (t.takes (natural k) o) k) (known_same t u s k) ∙ ap (λ b. tell_refusal (known u k) b k) (s.takes (natural k) o)
refusal_same t u s ps Show = refl

plain_refusal : (r : Option Refusal) → refusal_of (plainly r) ≡ r
plain_refusal None = refl
plain_refusal (Some r) = refl

-- a right answer tells the refusal that the reference finds
module _ {P S : Type 0} (w : World P S) where
  told_refusal : (r : Option Refusal) (k : ℕ) (o : Order) (e : Event P S) → ToldRight w r k o e → refusal_of e.answer ≡ r
  told_refusal (Some r) k o e h = ap refusal_of h.answer
  told_refusal None k o e h = ap refusal_of h.answer

  right_refusal : (st : State) (c : Call) (e : Event P S) → Right w st c e → refusal_of e.answer ≡ refusal (w.tells e.shelf) st.stack c
  right_refusal st (Place k x y) e h = ap refusal_of h.answer ∙ plain_refusal (refusal (w.tells e.shelf) st.stack (Place k x y))
  right_refusal st (Move k x y) e h = ap refusal_of h.answer ∙ plain_refusal (refusal (w.tells e.shelf) st.stack (Move k x y))
  right_refusal st (Lift k n) e h = ap refusal_of h.answer ∙ plain_refusal (refusal (w.tells e.shelf) st.stack (Lift k n))
  right_refusal st (Remove k) e h = ap refusal_of h.answer ∙ plain_refusal (refusal (w.tells e.shelf) st.stack (Remove k))
  right_refusal st (Tell k o) e h = told_refusal (refusal (w.tells e.shelf) st.stack (Tell k o)) (natural k) o e h
  right_refusal st Show e h = ap refusal_of h.answer

-- the stack after a call depends on the call, its refusal and the stack before
stack_at : Option ℕ → (ℕ → List Pane) → List Pane → List Pane
stack_at None f ps = ps
stack_at (Some i) f ps = f i

done_stack : Call → List Pane → List Pane
done_stack (Place k x y) ps = placed (pane (natural k) x y) ps
done_stack (Move k x y) ps = stack_at (height_of (natural k) ps) (λ i. moved i (pane (natural k) x y) ps) ps
done_stack (Lift k n) ps = stack_at (height_of (natural k) ps) (λ i. lifted i (natural n) ps) ps
done_stack (Remove k) ps = stack_at (height_of (natural k) ps) (λ i. remove ps i) ps
done_stack (Tell k o) ps = ps
done_stack Show ps = ps

module _ (w h : ℕ) where
  moving_stack : (b : Rect) (o : Option ℕ) (q : Pane) (st : State) → (moving_at w h b o q st).stack ≡ stack_at o (λ i. moved i q st.stack) st.stack
  unfolding stack_at
  moving_stack b None q st = refl
  moving_stack b (Some i) q st = refl

  lifting_stack : (b : Rect) (o : Option ℕ) (n : ℕ) (st : State) → (lifting_at w h b o n st).stack ≡ stack_at o (λ i. lifted i n st.stack) st.stack
  unfolding stack_at
  lifting_stack b None n st = refl
  lifting_stack b (Some i) n st = refl

  removing_stack : (b : Rect) (o : Option ℕ) (st : State) → (removing_at w h b o st).stack ≡ stack_at o (λ i. remove st.stack i) st.stack
  unfolding stack_at
  removing_stack b None st = refl
  removing_stack b (Some i) st = refl

  telling_stack : (d : Rect) (o : Option ℕ) (st : State) → (telling_at w h d o st).stack ≡ st.stack
  telling_stack d None st = refl
  telling_stack d (Some i) st = refl

module _ {P : Type 0} (w h : ℕ) (t : Told P) where
  done_stack_lem : (c : Call) (d : Rect) (st : State) → (done w h t c d st).stack ≡ done_stack c st.stack
  unfolding done_stack
  done_stack_lem (Place k x y) d st = refl
  done_stack_lem (Move k x y) d st = moving_stack w h (surface_box t (natural k)) (height_of (natural k) st.stack) (pane (natural k) x y) st
  done_stack_lem (Lift k n) d st = lifting_stack w h (surface_box t (natural k)) (height_of (natural k) st.stack) (natural n) st
  done_stack_lem (Remove k) d st = removing_stack w h (surface_box t (natural k)) (height_of (natural k) st.stack) st
  done_stack_lem (Tell k o) d st = telling_stack w h d (height_of (natural k) st.stack) st
  done_stack_lem Show d st = refl

  next_stack : (c : Call) (d : Rect) (st : State) → (next w h t c d st).stack ≡ cond (is_some (refusal t st.stack c)) st.stack (done_stack c st.stack)
  next_stack c d st = go (is_some (refusal t st.stack c))
    where
      go : (b : Bool) → (cond b st (done w h t c d st)).stack ≡ cond b st.stack (done_stack c st.stack)
      go true = refl
      go false = done_stack_lem c d st

-- shelves that tell the same make the same picture
pixel_same : {P : Type 0} (t u : Told P) → TellSame t u → (k : ℕ) (i j : Option ℕ) → pixel_at t k i j ≡ pixel_at u k i j
pixel_same t u s k (Some i) (Some j) = s.pixel k i j
pixel_same t u s k (Some i) None = refl
pixel_same t u s k None j = refl

laid_same : {P : Type 0} (lay lay' : P → P → P) → ((s d : P) → lay s d ≡ lay' s d) → (d : P) (o : Option P) → laid_over lay d o ≡ laid_over lay' d o
laid_same lay lay' e d None = refl
laid_same lay lay' e d (Some s) = e s d

picture_same : {P : Type 0} (lay lay' : P → P → P) → ((s d : P) → lay s d ≡ lay' s d) → (t u : Told P) → TellSame t u → (base : P) (ps : List Pane) (x y : ℕ) → picture lay t base ps x y ≡ picture lay' u base ps x y
picture_same lay lay' e t u s base [] x y = refl
picture_same lay lay' e t u s base (p ∷ ps) x y =
    picture_same lay lay' e t u s (laid_over lay base (pane_at t x y p)) ps x y
    ∙ ap (λ d. picture lay' u d ps x y) (laid_same lay lay' e base (pane_at t x y p) ∙ ap (laid_over lay' base) (pixel_same t u s p.surface (past x p.x) (past y p.y)))

module _ {P S T : Type 0} (v : World P S) (w : World P T) (same : SameWorld v w) where
  frames : (c : Call) (st st' : State) (e : Event P S) (f : Event P T) → st.stack ≡ st'.stack → TellSame (v.tells e.shelf) (w.tells f.shelf) → Right v st c e → Right w st' c f → FramesAgree v w c e f
  frames (Place k x y) st st' e f q s h i = tt
  frames (Move k x y) st st' e f q s h i = tt
  frames (Lift k n) st st' e f q s h i = tt
  frames (Remove k) st st' e f q s h i = tt
  frames (Tell k o) st st' e f q s h i = tt
  frames Show st st' e f q s h i = λ x y g.
      h.front x y g
      ∙ (ap Some
      (picture_same v.lay w.lay same.lay (v.tells e.shelf) (w.tells f.shelf) s v.base st.stack x y
      ∙ (ap (λ b. picture w.lay (w.tells f.shelf) b st.stack x y) same.base ∙ ap (λ ps. picture w.lay (w.tells f.shelf) w.base ps x y) q))
      ∙ sym (i.front x y (ap (λ n. inside n w.height x y) (sym same.width) ∙ (ap (λ n. inside v.width n x y) (sym same.height) ∙ g))))

  one : (c : Call) (st st' : State) (e : Event P S) (f : Event P T) → st.stack ≡ st'.stack → TellSame (v.tells e.shelf) (w.tells f.shelf) → Right v st c e → Right w st' c f
      → (refusal_of e.answer ≡ refusal_of f.answer) × ((next v.width v.height (v.tells e.shelf) c (damage_of e.answer) st).stack ≡ (next w.width w.height (w.tells f.shelf) c (damage_of f.answer) st').stack)
  one c st st' e f q s h i =
      let r : refusal (v.tells e.shelf) st.stack c ≡ refusal (w.tells f.shelf) st'.stack c =
      refusal_same (v.tells e.shelf) (w.tells f.shelf) s st.stack c ∙ ap (λ ps. refusal (w.tells f.shelf) ps c) q in (
        right_refusal v st c e h ∙ (r ∙ sym (right_refusal w st' c f i)),
        next_stack v.width v.height (v.tells e.shelf) c (damage_of e.answer) st
            ∙ (ap (λ z. cond (is_some z) st.stack (done_stack c st.stack)) r ∙ (ap (λ ps. cond (is_some (refusal (w.tells f.shelf) st'.stack c)) ps (done_stack c ps)) q
            ∙ sym (next_stack w.width w.height (w.tells f.shelf) c (damage_of f.answer) st'))),
      )

  all : (s : S) (c : Screens P) (es : List (Event P S)) (t : T) (d : Screens P) (fs : List (Event P T)) → Lawful v s c es → Lawful w t d fs → Both (Alike v w) es fs
      → ((reference v es).stack ≡ (reference w fs).stack) × Both (Agree v w) es fs
  all s c [] t d [] le lf al = (refl, tt)
  all s c [] t d (f ∷ fs) le lf al = absurd al
  all s c (e ∷ es) t d [] le lf al = absurd al
  all s c (e ∷ es) t d (f ∷ fs) le lf al =
      let r = all s c es t d fs le.1 lf.1 al.1 in
      let sf : Right w (reference w fs) e.call f = subst (λ z. Right w (reference w fs) z f) (sym al.0.call) lf.0.right in
      let o = one e.call (reference v es) (reference w fs) e f r.0 al.0.told le.0.right sf in (
        o.1 ∙ ap (λ z. (next w.width w.height (w.tells f.shelf) z (damage_of f.answer) (reference w fs)).stack) al.0.call,
        (record { refusals = o.0; frames = frames e.call (reference v es) (reference w fs) e f r.0 al.0.told le.0.right sf }, r.1),
      )

  pub frames_stay_alike : FramesStayAlike v w
  frames_stay_alike k s c es t d fs le lf al = (all s c es t d fs le lf al).1
