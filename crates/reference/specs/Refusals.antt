-- When a call is refused, and how a refusal is told.
use Rattle.std.specs.Prelude.{ℕ, Bool, false, cond, not, ◌&&◌, ◌||◌, List, length, ℤ, pos, negsuc, is_some, Some, None, Option, int_lt, nat_le, nat_lt}
use Rattle.surface.specs.Told.{Told, opened}
use Rattle.reference.specs.declared.pane.Pane.{Pane}
use Rattle.reference.specs.declared.call.Call.{Call}
use Rattle.reference.specs.declared.call.Call.TheVariants.{Place, Move, Lift, Remove, Tell, Show}
use Rattle.reference.specs.declared.refusal.Refusal.{Refusal}
use Rattle.reference.specs.declared.refusal.Refusal.TheVariants.{BadDisplay, NoSurface, AlreadyPlaced, NotPlaced, StackFull, TooFar, BadHeight, NotTaken}
use Rattle.reference.specs.declared.refusal.Layer.{Layer}
use Rattle.reference.specs.declared.refusal.Layer.TheVariants.{Panel, Shelf}
use Rattle.reference.specs.Stack.{height_of}

-- the number, the layer and the place that a refusal is told with
abbrev pub number : Refusal → ℕ
number BadDisplay = 3
number (NoSurface k) = 4
number (AlreadyPlaced k) = 5
number (NotPlaced k) = 6
number (StackFull k) = 7
number (TooFar k) = 8
number (BadHeight k) = 9
number (NotTaken k) = 10

abbrev pub layer : Refusal → Layer
layer BadDisplay = Panel
layer (NoSurface k) = Panel
layer (AlreadyPlaced k) = Panel
layer (NotPlaced k) = Panel
layer (StackFull k) = Panel
layer (TooFar k) = Panel
layer (BadHeight k) = Panel
layer (NotTaken k) = Shelf

abbrev pub place : Refusal → ℤ
place BadDisplay = pos 0
place (NoSurface k) = k
place (AlreadyPlaced k) = k
place (NotPlaced k) = k
place (StackFull k) = k
place (TooFar k) = k
place (BadHeight k) = k
place (NotTaken k) = k

-- the natural number of a signed one, and 0 of a negative one
abbrev pub natural : ℤ → ℕ
natural (pos n) = n
natural (negsuc n) = 0

-- a number from 0 and below n
abbrev pub below : ℤ → ℕ → Bool
below (pos k) n = nat_lt k n
below (negsuc k) n = false

-- the shelf has a surface of this number, and it is not closed
abbrev pub known : {P : Type 0} → Told P → ℤ → Bool
known t k = below k t.count && opened (t.size (natural k))

-- the surface is on the stack
abbrev pub on_stack : List Pane → ℤ → Bool
on_stack ps k = is_some (height_of (natural k) ps)

-- at most so many panes make a stack
abbrev pub most : ℕ
most = 16

-- a place below -2,048 or above 2,047
abbrev pub far : ℤ → Bool
far x = int_lt x (negsuc 2047) || int_lt (pos 2047) x

-- the refusal r where the test fails, else what comes after it
abbrev pub unless : Bool → Refusal → Option Refusal → Option Refusal
unless good r rest = cond good rest (Some r)

-- The first refusal that applies to each call; `there` says whether the shelf has the surface, and it is not closed.
abbrev pub place_refusal : Bool → List Pane → ℤ → ℤ → ℤ → Option Refusal
place_refusal there ps k x y =
    unless there (NoSurface k)
    (unless (not (on_stack ps k)) (AlreadyPlaced k) (unless (nat_lt (length ps) most) (StackFull k) (unless (not (far x || far y)) (TooFar k) None)))

abbrev pub move_refusal : Bool → List Pane → ℤ → ℤ → ℤ → Option Refusal
move_refusal there ps k x y = unless there (NoSurface k) (unless (on_stack ps k) (NotPlaced k) (unless (not (far x || far y)) (TooFar k) None))

abbrev pub lift_refusal : Bool → List Pane → ℤ → ℤ → Option Refusal
lift_refusal there ps k n = unless there (NoSurface k) (unless (on_stack ps k) (NotPlaced k) (unless (below n (length ps)) (BadHeight k) None))

abbrev pub remove_refusal : Bool → List Pane → ℤ → Option Refusal
remove_refusal there ps k = unless there (NoSurface k) (unless (on_stack ps k) (NotPlaced k) None)

-- taken: whether the surface takes the order
abbrev pub tell_refusal : Bool → Bool → ℤ → Option Refusal
tell_refusal there taken k = unless there (NoSurface k) (unless taken (NotTaken k) None)

-- the first refusal that applies to a call, over what the shelf tells and the stack
abbrev pub refusal : {P : Type 0} → Told P → List Pane → Call → Option Refusal
refusal t ps (Place k x y) = place_refusal (known t k) ps k x y
refusal t ps (Move k x y) = move_refusal (known t k) ps k x y
refusal t ps (Lift k n) = lift_refusal (known t k) ps k n
refusal t ps (Remove k) = remove_refusal (known t k) ps k
refusal t ps (Tell k o) = tell_refusal (known t k) (t.takes (natural k) o) k
refusal t ps Show = None

-- the refusal that opening meets: a side of the chain is not 1 to 1,024
abbrev pub side : ℕ → Bool
side n = nat_le 1 n && nat_le n 1024

abbrev pub open_refusal : ℕ → ℕ → Option Refusal
open_refusal w h = unless (side w && side h) BadDisplay None
