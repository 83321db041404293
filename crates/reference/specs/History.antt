-- The law of whole runs: what must hold of every call that was made on a panel, by the reference compositor.
use Rattle.std.specs.Prelude.{◌≡◌, ℕ, ◌+◌, ◌%◌, ◌^◌, true, false, List, [], ◌∷◌, Some, None, Option}
use Rattle.region_laws.specs.Boxes.{no_box}
use Rattle.region_laws.specs.Bands.{covers}
use Rattle.region_laws.specs.Counted.{pixels, place_sum}
use Rattle.region_laws.specs.declared.rect.Rect.{Rect}
use Rattle.surface.specs.Told.{Told}
use Rattle.surface.specs.Damaged.{Damaged}
use Rattle.surface.specs.declared.order.Order.{Order}
use Rattle.chain.specs.Screens.{Screens, inside, back_age, back_pixel, front_pixel}
use Rattle.reference.specs.declared.call.Call.{Call}
use Rattle.reference.specs.declared.call.Call.TheVariants.{Place, Move, Lift, Remove, Tell, Show}
use Rattle.reference.specs.declared.answer.Answer.{Answer}
use Rattle.reference.specs.declared.answer.Answer.TheVariants as answers
use Rattle.reference.specs.declared.refusal.Refusal.{Refusal}
use Rattle.reference.specs.Picture.{picture, depth}
use Rattle.reference.specs.Refusals.{refusal, natural}
use Rattle.reference.specs.Damage.{State, opening, stated}
use Rattle.reference.specs.Steps.{next}

-- One call on a panel: what was called and answered, and the shelf and what the chain told before and after.
pub record Event (P S : Type 0) : Type 0 where
  pub call : Call
  pub answer : Answer
  pub shelf : S
  pub screens : Screens P
  pub shelf' : S
  pub screens' : Screens P

-- the damage box that a tell answered
abbrev pub damage_of : Answer → Rect
damage_of answers.Done = no_box
damage_of (answers.Damaged d) = d
damage_of (answers.Shown s) = no_box
damage_of (answers.Refused r) = no_box

-- how a call that is neither tell nor show answers
abbrev pub plainly : Option Refusal → Answer
plainly None = answers.Done
plainly (Some r) = answers.Refused r

-- neither the shelf nor anything that the chain tells has altered
pub record Untouched {P S : Type 0} (e : Event P S) : Type 0 where
  pub shelf : e.shelf' ≡ e.shelf
  pub screens : e.screens' ≡ e.screens

-- the call met the refusal r or none, and answered so
pub record Plain {P S : Type 0} (r : Option Refusal) (e : Event P S) : Type 0 where
  pub answer : e.answer ≡ plainly r
  pub untouched : Untouched e

-- an order was taken: the shelf became what its kind says, and altered only inside the box that the tell answered
pub record Taken {P S : Type 0} (tells : S → Told P) (becomes : S → ℕ → Order → Rect → S → Type 0) (k : ℕ) (o : Order) (e : Event P S) : Type 0 where
  pub answer : e.answer ≡ answers.Damaged (damage_of e.answer)
  pub made : becomes e.shelf k o (damage_of e.answer) e.shelf'
  pub damaged : Damaged (tells e.shelf) (tells e.shelf') k (damage_of e.answer)
  pub screens : e.screens' ≡ e.screens

-- What the events of a panel are judged by: how its pixels are laid, what its shelf tells and becomes, its base, and the
-- sides of its display.
pub record World (P S : Type 0) : Type 1 where
  pub lay : P → P → P
  pub tells : S → Told P
  pub becomes : S → ℕ → Order → Rect → S → Type 0
  pub base : P
  pub width : ℕ
  pub height : ℕ

module _ {P S : Type 0} (w : World P S) where
  -- the reference compositor after some events, newest first: it is fed each call with its numbers, what the shelf told
  -- before it, and the damage box that a tell answered
  abbrev pub reference : List (Event P S) → State
  reference [] = opening w.width w.height
  reference (e ∷ es) = next w.width w.height (w.tells e.shelf) e.call (damage_of e.answer) (reference es)

  -- the region that the reference states for a show
  abbrev pub stated_at : State → Event P S → List Rect
  stated_at st e = stated w.width w.height (back_age e.screens) st

  -- A show that is done.
  pub record Shows (st : State) (e : Event P S) : Type 0 where
    -- the front equals the whole picture at every place of the display
    pub front : (x y : ℕ) → inside w.width w.height x y ≡ true
        → front_pixel e.screens' x y ≡ Some (picture w.lay (w.tells e.shelf) w.base st.stack x y)
    -- outside the stated region the frame is what its buffer held before
    pub outside : (x y : ℕ) → covers (stated_at st e) x y ≡ false → front_pixel e.screens' x y ≡ back_pixel e.screens x y
    -- one write for each pixel of the stated region
    pub writes : e.screens'.writes ≡ (e.screens.writes + pixels w.width w.height (covers (stated_at st e))) % 2 ^ 32
    -- the age met, the number of pixels of the stated region, and the panes that made them
    pub answer : e.answer ≡ answers.Shown
        (record {
          age = back_age e.screens;
          touched = pixels w.width w.height (covers (stated_at st e));
          laid = place_sum w.width w.height (depth (w.tells e.shelf) st.stack) (covers (stated_at st e));
        })
    pub shelf : e.shelf' ≡ e.shelf

  -- a tell met the refusal r, or none and the order was taken
  abbrev pub ToldRight : Option Refusal → ℕ → Order → Event P S → Type 0
  ToldRight (Some r) k o e = Plain (Some r) e
  ToldRight None k o e = Taken w.tells w.becomes k o e

  -- what must hold of a call, at the reference's state before it
  abbrev pub Right : State → Call → Event P S → Type 0
  Right st (Place k x y) e = Plain (refusal (w.tells e.shelf) st.stack (Place k x y)) e
  Right st (Move k x y) e = Plain (refusal (w.tells e.shelf) st.stack (Move k x y)) e
  Right st (Lift k n) e = Plain (refusal (w.tells e.shelf) st.stack (Lift k n)) e
  Right st (Remove k) e = Plain (refusal (w.tells e.shelf) st.stack (Remove k)) e
  Right st (Tell k o) e = ToldRight (refusal (w.tells e.shelf) st.stack (Tell k o)) (natural k) o e
  Right st Show e = Shows st e

  -- the shelf, and what the chain tells, after some events that began with s and c
  abbrev pub shelf_after : S → List (Event P S) → S
  shelf_after s [] = s
  shelf_after s (e ∷ es) = e.shelf'

  abbrev pub screens_after : Screens P → List (Event P S) → Screens P
  screens_after c [] = c
  screens_after c (e ∷ es) = e.screens'

  -- an event starts where the ones before it ended, and is right
  pub record Follows (s : S) (c : Screens P) (es : List (Event P S)) (e : Event P S) : Type 0 where
    pub shelf : e.shelf ≡ shelf_after s es
    pub screens : e.screens ≡ screens_after c es
    pub right : Right (reference es) e.call e

  -- the law of whole runs, of the events since a panel was opened on the shelf s and a chain that told c, newest first
  abbrev pub Lawful : S → Screens P → List (Event P S) → Type 0
  Lawful s c [] = Unit {0}
  Lawful s c (e ∷ es) = Follows s c es e × Lawful s c es
