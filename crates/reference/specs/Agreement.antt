-- Two panels on two chains show the same frames.
use Rattle.std.specs.Prelude.{◌≡◌, ℕ, true, List, [], ◌∷◌, Some, None, Option}
use Rattle.surface.specs.Told.{Told}
use Rattle.surface.specs.declared.order.Order.{Order}
use Rattle.chain.specs.Screens.{Screens, inside, front_pixel}
use Rattle.reference.specs.declared.call.Call.{Call}
use Rattle.reference.specs.declared.call.Call.TheVariants.{Place, Move, Lift, Remove, Tell, Show}
use Rattle.reference.specs.declared.answer.Answer.{Answer}
use Rattle.reference.specs.declared.answer.Answer.TheVariants as answers
use Rattle.reference.specs.declared.refusal.Refusal.{Refusal}
use Rattle.reference.specs.History.{Event, World, Lawful}

-- two shelves tell the same: counts, sizes, pictures and taken orders agree, whatever their solid boxes
pub record TellSame {P : Type 0} (a b : Told P) : Type 0 where
  pub count : a.count ≡ b.count
  pub size : (k : ℕ) → a.size k ≡ b.size k
  pub pixel : (k x y : ℕ) → a.pixel k x y ≡ b.pixel k x y
  pub takes : (k : ℕ) (o : Order) → a.takes k o ≡ b.takes k o

-- the refusal that a call met
abbrev pub refusal_of : Answer → Option Refusal
refusal_of answers.Done = None
refusal_of (answers.Damaged d) = None
refusal_of (answers.Shown s) = None
refusal_of (answers.Refused r) = Some r

-- of two lists of one length, each element of one and that of the other
abbrev pub Both : {X Y : Type 0} → (X → Y → Type 0) → List X → List Y → Type 0
Both R [] [] = Unit {0}
Both R [] (y ∷ ys) = ⊥
Both R (x ∷ xs) [] = ⊥
Both R (x ∷ xs) (y ∷ ys) = R x y × Both R xs ys

module _ {P S T : Type 0} (v : World P S) (w : World P T) where
  -- the same call, on shelves that tell the same before it
  pub record Alike (e : Event P S) (f : Event P T) : Type 0 where
    pub call : e.call ≡ f.call
    pub told : TellSame (v.tells e.shelf) (w.tells f.shelf)

  -- at a show, equal frames
  abbrev pub FramesAgree : Call → Event P S → Event P T → Type 0
  FramesAgree (Place k x y) e f = Unit {0}
  FramesAgree (Move k x y) e f = Unit {0}
  FramesAgree (Lift k n) e f = Unit {0}
  FramesAgree (Remove k) e f = Unit {0}
  FramesAgree (Tell k o) e f = Unit {0}
  FramesAgree Show e f = (x y : ℕ) → inside v.width v.height x y ≡ true → front_pixel e.screens' x y ≡ front_pixel f.screens' x y

  -- the same refusal or none, and equal frames
  pub record Agree (e : Event P S) (f : Event P T) : Type 0 where
    pub refusals : refusal_of e.answer ≡ refusal_of f.answer
    pub frames : FramesAgree e.call e f

  -- two panels of one base and one size of display
  pub record SameWorld : Type 0 where
    pub lay : (s d : P) → v.lay s d ≡ w.lay s d
    pub base : v.base ≡ w.base
    pub width : v.width ≡ w.width
    pub height : v.height ≡ w.height

  -- lawful events of equal calls, on shelves that tell the same before each, agree, whatever the chains
  abbrev pub FramesStayAlike : Type 0
  FramesStayAlike = SameWorld → (s : S) (c : Screens P) (es : List (Event P S)) (t : T) (d : Screens P) (fs : List (Event P T))
      → Lawful v s c es → Lawful w t d fs → Both Alike es fs → Both Agree es fs
