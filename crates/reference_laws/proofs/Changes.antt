-- What each call changes, and that it notes it.
use Rattle.std.proofs.Common.{◌≡◌, ℕ, zero, suc, ◌<◌, ◌≤◌, Bool, true, false, eqb, ltb, List, [], ◌∷◌, length, get_or, Some, None, Option, sym, refl, ◌∙◌, subst, arith}
use Rattle.std.specs.List.{remove, AllByRecursion}
use Rattle.std.proofs.lemmas.Bool.{and_parts, ltb-true}
use Rattle.region_laws.specs.Bands.{covers}
use Rattle.region_laws.specs.Joined.{joined}
use Rattle.region_laws.specs.declared.rect.Rect.{Rect}
use Rattle.surface.specs.Told.{Told}
use Rattle.surface.specs.Sound.{Sound}
use Rattle.surface.specs.Damaged.{Damaged}
use Rattle.chain.specs.Screens.{Screens, on_display}
use Rattle.reference.specs.declared.pane.Pane.{Pane}
use Rattle.reference.specs.Stack.{no_pane, height_of, placed, lifted, Without, Once}
use Rattle.reference.specs.Places.{surface_box, shown_box, moved_box}
use Rattle.reference.specs.Picture.{picture, pane_at}
use Rattle.reference.specs.Damage.{State, restacked, OnDisplay, Orderly}
use Rattle.reference.specs.Steps.{placing, moving_at, lifting_at, removing_at, telling_at}
use Rattle.reference_laws.proofs.Pictures.{picture_removed, picture_inserted, picture_set, picture_placed, picture_told, pane_none, told_other, told_off}
use Rattle.reference_laws.proofs.Stacks.{height_none, height_some, once_placed, once_moved, once_lifted, once_removed, removed_without}
use Rattle.reference_laws.proofs.Regions.{joined_off, joined_on, clipped_on}
use Rattle.reference_laws.proofs.Freshness.{Noted}

-- what a call may do to the state: it stays orderly, and what changes of the picture is pending
pub record Changes {P : Type 0} (s : Screens P) (lay : P → P → P) (base : P) (w h : ℕ) (t u : Told P) (st st' : State) : Type 0 where
  pub orderly : Orderly w h st'
  pub noted : Noted s (picture lay t base st.stack) st (picture lay u base st'.stack) st'

-- all but one element, and that one
all_removed : {X : Type 0} (Q : X → Type 0) (z : X) (xs : List X) (i : ℕ) → i < length xs → Q (get_or xs i z) → AllByRecursion Q (remove xs i) → AllByRecursion Q xs
all_removed Q z [] i h q a = tt
all_removed Q z (x ∷ xs) zero h q a = (q, a)
all_removed Q z (x ∷ xs) (suc i) h q a = (a.0, all_removed Q z xs i (omega arith) q a.1)

all_mapped : {X : Type 0} (Q R : X → Type 0) → ((x : X) → Q x → R x) → (xs : List X) → AllByRecursion Q xs → AllByRecursion R xs
all_mapped Q R f [] a = tt
all_mapped Q R f (x ∷ xs) a = (f x a.0, all_mapped Q R f xs a.1)

module _ {P : Type 0} (s : Screens P) (lay : P → P → P) (base : P) (w h : ℕ) (wide : w ≤ 1024) (high : h ≤ 1024) (width : s.width ≡ w) (height : s.height ≡ h)
    (hard : P → Bool) (t : Told P) (sound : Sound hard t) (st : State) (ok : Orderly w h st) where
  left_of : (x y : ℕ) → on_display s x y ≡ true → x < w
  left_of x y g = subst (λ v. x < v) width (ltb-true x s.width (and_parts (ltb x s.width) (ltb y s.height) g).0)

  above : (x y : ℕ) → on_display s x y ≡ true → y < h
  above x y g = subst (λ v. y < v) height (ltb-true y s.height (and_parts (ltb x s.width) (ltb y s.height) g).1)

  box_on : (p : Pane) (b : Rect) → OnDisplay w h (shown_box w h p b)
  box_on p b = clipped_on w h (moved_box p b) wide high

  -- nothing changes
  pub unchanged : Changes s lay base w h t t st st
  unchanged = record { orderly = ok; noted = record { past = refl; off = λ x y g e. (e, refl) } }

  -- one region is noted, and off it the picture is as it was
  noting : (r : List Rect) (ps : List Pane) → OnDisplay w h r → Once ps
      → ((x y : ℕ) → x < w → y < h → covers r x y ≡ false → picture lay t base ps x y ≡ picture lay t base st.stack x y)
      → Changes s lay base w h t t st (restacked ps r st)
  noting r ps on once same = record {
    orderly = record { stack = once; pending = joined_on w h st.pending r ok.pending on; past = ok.past };
    noted = record {
      past = refl;
      off = λ x y g e. let o = joined_off w h st.pending r x y ok.pending on e in (o.0, same x y (left_of x y g) (above x y g) o.1);
    };
  }

  pub placing_changes : (q : Pane) → height_of q.surface st.stack ≡ None → Changes s lay base w h t t st (placing w h (surface_box t q.surface) q st)
  placing_changes q e =
      noting (shown_box w h q (surface_box t q.surface)) (placed q st.stack) (box_on q (surface_box t q.surface)) (once_placed st.stack q ok.stack (height_none q.surface st.stack e))
      (λ x y i j o. picture_placed lay t base x y st.stack q (pane_none hard t sound w h x y q.surface q refl i j o))

  pub lifting_changes : (k n : ℕ) (o : Option ℕ) → height_of k st.stack ≡ o → Changes s lay base w h t t st (lifting_at w h (surface_box t k) o n st)
  lifting_changes k n None e = unchanged
  lifting_changes k n (Some i) e =
      let a = height_some k i st.stack e in
      let p = get_or st.stack i no_pane in
      noting (shown_box w h p (surface_box t k)) (lifted i n st.stack) (box_on p (surface_box t k)) (once_lifted st.stack i n ok.stack a.inside)
      (λ x y u v o. let c = pane_none hard t sound w h x y k p a.surface u v o in picture_inserted lay t base x y (remove st.stack i) n p c ∙ picture_removed lay t base x y st.stack i a.inside c)

  pub removing_changes : (k : ℕ) (o : Option ℕ) → height_of k st.stack ≡ o → Changes s lay base w h t t st (removing_at w h (surface_box t k) o st)
  removing_changes k None e = unchanged
  removing_changes k (Some i) e =
      let a = height_some k i st.stack e in
      let p = get_or st.stack i no_pane in
      noting (shown_box w h p (surface_box t k)) (remove st.stack i) (box_on p (surface_box t k)) (once_removed st.stack i ok.stack)
      (λ x y u v o. picture_removed lay t base x y st.stack i a.inside (pane_none hard t sound w h x y k p a.surface u v o))

  pub moving_changes : (q : Pane) (o : Option ℕ) → height_of q.surface st.stack ≡ o → Changes s lay base w h t t st (moving_at w h (surface_box t q.surface) o q st)
  moving_changes q None e = unchanged
  moving_changes q (Some i) e =
      let a = height_some q.surface i st.stack e in
      let p = get_or st.stack i no_pane in
      let b = surface_box t q.surface in
      let old = shown_box w h p b in
      let new = shown_box w h q b in
      let on = joined_on w h st.pending old ok.pending (box_on p b) in
      record {
        orderly = record { stack = once_moved st.stack i q ok.stack a.inside (sym a.surface); pending = joined_on w h (joined st.pending old) new on (box_on q b); past = ok.past };
        noted = record {
          past = refl;
          off = λ x y g e.
              let m = joined_off w h (joined st.pending old) new x y on (box_on q b) e in
              let o = joined_off w h st.pending old x y ok.pending (box_on p b) m.0 in (
                o.0,
                picture_set lay t base x y st.stack i q a.inside
                    (pane_none hard t sound w h x y q.surface p a.surface (left_of x y g) (above x y g) o.1)
                    (pane_none hard t sound w h x y q.surface q refl (left_of x y g) (above x y g) m.1),
              );
        };
      }

  -- an order that was taken
  module _ (k : ℕ) (d : Rect) (u : Told P) (m : Damaged t u k d) where
    pub telling_changes : (o : Option ℕ) → height_of k st.stack ≡ o → Changes s lay base w h t u st (telling_at w h d o st)
    telling_changes None e = record {
      orderly = ok;
      noted = record {
        past = refl;
        off = λ x y g f. (f, picture_told lay t u x y base st.stack (all_mapped (λ p. eqb p.surface k ≡ false) (λ p. pane_at u x y p ≡ pane_at t x y p) (told_other t u k d m x y) st.stack (height_none k st.stack e)));
      };
    }
    telling_changes (Some i) e =
        let a = height_some k i st.stack e in
        let p = get_or st.stack i no_pane in
        let on = box_on p d in
        record {
          orderly = record { stack = ok.stack; pending = joined_on w h st.pending (shown_box w h p d) ok.pending on; past = ok.past };
          noted = record {
            past = refl;
            off = λ x y g f.
                let o = joined_off w h st.pending (shown_box w h p d) x y ok.pending on f in (
                  o.0,
                  picture_told lay t u x y base st.stack
                      (all_removed (λ q. pane_at u x y q ≡ pane_at t x y q) no_pane st.stack i a.inside (told_off t u k d m w h x y p (left_of x y g) (above x y g) o.1)
                      (all_mapped (λ q. eqb q.surface k ≡ false) (λ q. pane_at u x y q ≡ pane_at t x y q) (told_other t u k d m x y) (remove st.stack i)
                      (subst (λ v. Without v (remove st.stack i)) a.surface (removed_without st.stack i ok.stack a.inside)))),
                );
          };
        }
