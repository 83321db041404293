-- What a call makes of the reference compositor's state.
use Rattle.std.specs.Prelude.{ℕ, cond, is_some, Some, None, Option, slice_index_or}
use Rattle.std.specs.List.{remove}
use Rattle.region_laws.specs.declared.rect.Rect.{Rect}
use Rattle.surface.specs.Told.{Told}
use Rattle.reference.specs.declared.pane.Pane.{Pane}
use Rattle.reference.specs.declared.call.Call.{Call}
use Rattle.reference.specs.declared.call.Call.TheVariants.{Place, Move, Lift, Remove, Tell, Show}
use Rattle.reference.specs.Stack.{pane, no_pane, height_of, placed, moved, lifted}
use Rattle.reference.specs.Places.{surface_box, shown_box}
use Rattle.reference.specs.Refusals.{refusal, natural}
use Rattle.reference.specs.Damage.{State, noted, restacked, shifted}

module _ (w h : ℕ) where
  -- a pane is put on top; b is the box of its whole surface. Its box on the display is damaged
  abbrev pub placing : Rect → Pane → State → State
  placing b p st = restacked (placed p st.stack) (shown_box w h p b) st

  -- the pane at height i becomes q, which is elsewhere: its old box is damaged, then its new one
  abbrev pub moving_at : Rect → Option ℕ → Pane → State → State
  moving_at b None q st = st
  moving_at b (Some i) q st = noted (shown_box w h q b) (restacked (moved i q st.stack) (shown_box w h (slice_index_or st.stack i no_pane) b) st)

  -- the pane at height i is put back with n panes under it: its box is damaged
  abbrev pub lifting_at : Rect → Option ℕ → ℕ → State → State
  lifting_at b None n st = st
  lifting_at b (Some i) n st = restacked (lifted i n st.stack) (shown_box w h (slice_index_or st.stack i no_pane) b) st

  -- the pane at height i is taken off: its box is damaged
  abbrev pub removing_at : Rect → Option ℕ → State → State
  removing_at b None st = st
  removing_at b (Some i) st = restacked (remove st.stack i) (shown_box w h (slice_index_or st.stack i no_pane) b) st

  -- the box d of the surface of the pane at height i, if it is on the stack, is damaged
  abbrev pub telling_at : Rect → Option ℕ → State → State
  telling_at d None st = st
  telling_at d (Some i) st = noted (shown_box w h (slice_index_or st.stack i no_pane) d) st

  -- what a call that is not refused makes of the state, over what the shelf tells; d is the damage box that a tell
  -- answers
  abbrev pub done : {P : Type 0} → Told P → Call → Rect → State → State
  done t (Place k x y) d st = placing (surface_box t (natural k)) (pane (natural k) x y) st
  done t (Move k x y) d st = moving_at (surface_box t (natural k)) (height_of (natural k) st.stack) (pane (natural k) x y) st
  done t (Lift k n) d st = lifting_at (surface_box t (natural k)) (height_of (natural k) st.stack) (natural n) st
  done t (Remove k) d st = removing_at (surface_box t (natural k)) (height_of (natural k) st.stack) st
  done t (Tell k o) d st = telling_at d (height_of (natural k) st.stack) st
  done t Show d st = shifted st

  -- what any call makes of it: a refused one alters nothing
  abbrev pub next : {P : Type 0} → Told P → Call → Rect → State → State
  next t c d st = cond (is_some (refusal t st.stack c)) st (done t c d st)
