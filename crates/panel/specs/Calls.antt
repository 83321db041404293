-- What the calls of a panel promise.
use Rattle.std.specs.Prelude.{◌≡◌, ℕ, cond, List, [], ◌∷◌, ℤ, pos, negsuc, Some, None, Option, Result, MatchResult}
use Rattle.region_laws.specs.Boxes.{no_box}
use Rattle.region_laws.specs.Counted.{area, list_sum}
use Rattle.region_laws.specs.declared.rect.Rect.{Rect}
use Rattle.surface.specs.Told.{Told}
use Rattle.surface.specs.Damaged.{Damaged}
use Rattle.surface.specs.declared.order.Order.{Order}
use Rattle.chain.specs.Screens.{Screens, back_age, front_pixel}
use Rattle.chain.specs.Swaps.{Swapped}
use Rattle.reference.specs.declared.call.Call.{Call}
use Rattle.reference.specs.declared.call.Call.TheVariants.{Tell, Show}
use Rattle.reference.specs.declared.answer.Answer.{Answer}
use Rattle.reference.specs.declared.answer.Answer.TheVariants as answers
use Rattle.reference.specs.declared.answer.Shown.{Shown}
use Rattle.reference.specs.declared.refusal.Refusal.{Refusal}
use Rattle.reference.specs.Stack.{height_of}
use Rattle.reference.specs.Places.{surface_box}
use Rattle.reference.specs.Picture.{picture, depth}
use Rattle.reference.specs.Answers.{said, said_of}
use Rattle.reference.specs.Refusals.{known, natural, refusal, open_refusal}
use Rattle.reference.specs.Damage.{opening, stated, shifted}
use Rattle.reference.specs.Steps.{next, telling_at}
use Rattle.reference.specs.Painting.{RegionPainted}
use Rattle.reference.specs.History.{Event, World}
use Rattle.reference.specs.Kept.{Kept, event}
use Rattle.scene.specs.States.{state_of}
use Rattle.scene.specs.Checks.{accepted}
use Rattle.scene.specs.declared.known.Known.{Known}
use Rattle.panel.specs.declared.panel.Panel.{Panel}
use Rattle.panel.specs.declared.panel.Unopened.{Unopened}

-- the surface that a number names, if the shelf has it and it is not closed
abbrev pub found : {P : Type 0} → Told P → ℤ → Option Known
found t k = cond (known t k) (Some (record { number = natural k; whole = surface_box t (natural k) })) None

-- What pixels, shelf and chain of a panel mean: how pixels are laid, what the shelf tells, what an order makes of it,
-- and what the chain tells.
pub record Meaning (P S C : Type 0) : Type 1 where
  pub lay : P → P → P
  pub tells : S → Told P
  pub becomes : S → ℕ → Order → Rect → S → Type 0
  pub screens : C → Screens P

abbrev pub meaning : {P S C : Type 0} → (P → P → P) → (S → Told P) → (S → ℕ → Order → Rect → S → Type 0) → (C → Screens P) → Meaning P S C
meaning lay tells becomes screens = record { lay = lay; tells = tells; becomes = becomes; screens = screens }

module _ {P S C : Type 0} (m : Meaning P S C) where
  -- what the events of a panel are judged by
  abbrev pub world_of : Panel P S C → World P S
  world_of p = record { lay = m.lay; tells = m.tells; becomes = m.becomes; base = p.base; width = p.display.width; height = p.display.height }

  -- the whole picture of a panel, and how many panes make it
  abbrev pub picture_of : Panel P S C → ℕ → ℕ → P
  picture_of p = picture m.lay (m.tells p.shelf) p.base (state_of p.scene).stack

  abbrev pub depth_of : Panel P S C → ℕ → ℕ → ℕ
  depth_of p = depth (m.tells p.shelf) (state_of p.scene).stack

  -- the region that a show states
  abbrev pub stated_by : Panel P S C → List Rect
  stated_by p = stated p.display.width p.display.height (back_age (m.screens p.chain)) (state_of p.scene)

  -- the panel was opened on the shelf s and a chain that told c, the events es have come since, and the law of whole
  -- runs holds of them
  abbrev pub KeptBy : Panel P S C → S → Screens P → List (Event P S) → Type 0
  KeptBy p s c es = Kept (world_of p) s c es p.shelf (m.screens p.chain) (state_of p.scene)

  -- a call that took the panel p to q keeps the law of whole runs
  abbrev pub Keeps : Panel P S C → Call → Answer → Panel P S C → Type 0
  Keeps p call answer q = (s : S) (c : Screens P) (es : List (Event P S)) → KeptBy p s c es
      → KeptBy q s c (event call answer p.shelf (m.screens p.chain) q.shelf (m.screens q.chain) ∷ es)

  -- place, move, lift and remove: the first refusal that applies, or none; the scene makes the reference's step; all else
  -- is as it was
  pub record Quietly (p : Panel P S C) (call : Call) (r : Result (Unit {0}) Refusal) (q : Panel P S C) : Type 0 where
    pub answer : r ≡ accepted (refusal (m.tells p.shelf) (state_of p.scene).stack call)
    pub scene : state_of q.scene ≡ next p.display.width p.display.height (m.tells p.shelf) call no_box (state_of p.scene)
    pub base : q.base ≡ p.base
    pub shelf : q.shelf ≡ p.shelf
    pub chain : q.chain ≡ p.chain
    pub display : q.display ≡ p.display

  -- a tell whose order was taken and answered the damage box d
  pub record Taken (p : Panel P S C) (k : ℤ) (o : Order) (d : Rect) (q : Panel P S C) : Type 0 where
    pub free : refusal (m.tells p.shelf) (state_of p.scene).stack (Tell k o) ≡ None
    pub made : m.becomes p.shelf (natural k) o d q.shelf
    pub damaged : Damaged (m.tells p.shelf) (m.tells q.shelf) (natural k) d
    pub scene : state_of q.scene ≡ telling_at p.display.width p.display.height d (height_of (natural k) (state_of p.scene).stack) (state_of p.scene)
    pub base : q.base ≡ p.base
    pub chain : q.chain ≡ p.chain
    pub display : q.display ≡ p.display

  -- a tell that met the refusal e
  pub record Declined (p : Panel P S C) (k : ℤ) (o : Order) (e : Refusal) (q : Panel P S C) : Type 0 where
    pub first : refusal (m.tells p.shelf) (state_of p.scene).stack (Tell k o) ≡ Some e
    pub shelf : q.shelf ≡ p.shelf
    pub scene : q.scene ≡ p.scene
    pub base : q.base ≡ p.base
    pub chain : q.chain ≡ p.chain
    pub display : q.display ≡ p.display

  -- a show: the stated region was painted with the whole picture, one write each, and the buffers were swapped
  pub record Displays (p : Panel P S C) (r : Shown) (q : Panel P S C) : Type 0 where
    pub answer : r ≡ record { age = back_age (m.screens p.chain); touched = area (stated_by p); laid = list_sum (depth_of p) (stated_by p) }
    pub painted : Screens P
    pub paints : RegionPainted (m.screens p.chain) (stated_by p) (picture_of p) painted
    pub swaps : Swapped painted (m.screens q.chain)
    pub scene : state_of q.scene ≡ shifted (state_of p.scene)
    pub base : q.base ≡ p.base
    pub shelf : q.shelf ≡ p.shelf
    pub display : q.display ≡ p.display

  -- nothing altered, but that the chain was asked
  pub record Asked (p q : Panel P S C) : Type 0 where
    pub screens : m.screens q.chain ≡ m.screens p.chain
    pub scene : q.scene ≡ p.scene
    pub base : q.base ≡ p.base
    pub shelf : q.shelf ≡ p.shelf
    pub display : q.display ≡ p.display

  -- a pixel of the front at a signed place: none where the place is negative or off the display, or nothing was shown
  abbrev pub front_at : Screens P → ℤ → ℤ → Option P
  front_at c (pos x) (pos y) = front_pixel c x y
  front_at c (pos x) (negsuc y) = None
  front_at c (negsuc x) y = None

  -- a panel opened on a shelf, a chain and a base
  pub record Opened (s : S) (c : C) (base : P) (p : Panel P S C) : Type 0 where
    pub free : open_refusal (m.screens c).width (m.screens c).height ≡ None
    pub shelf : p.shelf ≡ s
    pub screens : m.screens p.chain ≡ m.screens c
    pub base_is : p.base ≡ base
    pub width : p.display.width ≡ (m.screens c).width
    pub height : p.display.height ≡ (m.screens c).height
    pub scene : state_of p.scene ≡ opening p.display.width p.display.height
    pub kept : KeptBy p s (m.screens c) []

  -- an opening that met a refusal: shelf and chain are handed back
  pub record HandedBack (s : S) (c : C) (u : Unopened S C) : Type 0 where
    pub first : open_refusal (m.screens c).width (m.screens c).height ≡ Some u.refusal
    pub shelf : u.shelf ≡ s
    pub screens : m.screens u.chain ≡ m.screens c

  -- the base and the display never change
  pub record Fixed (p q : Panel P S C) : Type 0 where
    pub base : q.base ≡ p.base
    pub display : q.display ≡ p.display

  -- what each call promises: what it does with no premise, and that it so keeps the law of whole runs
  pub record StackCall (p : Panel P S C) (call : Call) (r : Result (Unit {0}) Refusal) (q : Panel P S C) : Type 0 where
    pub quietly : Quietly p call r q
    pub keeps : Keeps p call (said r) q

  pub record TellCall (p : Panel P S C) (k : ℤ) (o : Order) (r : Result Rect Refusal) (q : Panel P S C) : Type 0 where
    pub told : MatchResult r (λ d. Taken p k o d q) (λ e. Declined p k o e q)
    pub keeps : Keeps p (Tell k o) (said_of r) q

  pub record ShowCall (p : Panel P S C) (r : Shown) (q : Panel P S C) : Type 0 where
    pub displays : Displays p r q
    pub keeps : Keeps p Show (answers.Shown r) q
