-- What a whole run of a panel promises.
use Rattle.std.specs.Prelude.{◌≡◌, ℕ, List, ◌++◌, map, reverse, take, None}
use Rattle.chain.specs.Screens.{Screens}
use Rattle.reference.specs.declared.call.Call.{Call}
use Rattle.reference.specs.declared.answer.Answer.{Answer}
use Rattle.surface.specs.Told.{Told}
use Rattle.reference.specs.Refusals.{open_refusal}
use Rattle.reference.specs.History.{Event, World, Lawful, shelf_after, screens_after}
use Rattle.reference.specs.Agreement.{TellSame, Both, Agree}
use Rattle.panel.specs.declared.panel.Panel.{Panel}
use Rattle.panel.specs.declared.panel.Unopened.{Unopened}
use Rattle.panel.specs.Calls.{Meaning, KeptBy, HandedBack}

-- the calls and the answers of events that are listed newest first
abbrev pub calls_of : {P S : Type 0} → List (Event P S) → List Call
calls_of es = reverse (map (λ e. e.call) es)

abbrev pub answers_of : {P S : Type 0} → List (Event P S) → List Answer
answers_of es = reverse (map (λ e. e.answer) es)

module _ {P S C : Type 0} (m : Meaning P S C) where
  -- the first n calls were made and answered, one event each, and the law of whole runs still holds
  pub record Made (calls : List Call) (answers : List Answer) (n : ℕ) (q : Panel P S C) (s : S) (c : Screens P) (es : List (Event P S)) : Type 0 where
    pub made : List (Event P S)
    pub called : calls_of made ≡ take n calls
    pub answered : answers_of made ≡ take n answers
    pub kept : KeptBy m q s c (made ++ es)

  -- whatever events came before
  abbrev pub Runs : Panel P S C → List Call → List Answer → ℕ → Panel P S C → Type 0
  Runs p calls answers n q = (s : S) (c : Screens P) (es : List (Event P S)) → KeptBy m p s c es → Made calls answers n q s c es

-- what the events of a panel are judged by: its base, and the size of the chain that it was opened on
abbrev pub world_from : {P S C : Type 0} → Meaning P S C → C → P → World P S
world_from m c base =
    record { lay = m.lay; tells = m.tells; becomes = m.becomes; base = base; width = (m.screens c).width; height = (m.screens c).height }

-- A panel was opened on the shelf s, the chain c and a base, and the first n calls were made on it; it is now p. The
-- events are listed newest first.
pub record Lived {P S C : Type 0} (m : Meaning P S C) (s : S) (c : C) (base : P) (calls : List Call) (answers : List Answer) (n : ℕ) (p : Panel P S C) : Type 0 where
  -- the opening met no refusal
  pub opened : open_refusal (m.screens c).width (m.screens c).height ≡ None
  pub events : List (Event P S)
  -- one event for each call, with its answer
  pub called : calls_of events ≡ take n calls
  pub answered : answers_of events ≡ take n answers
  -- each call met the first refusal that applies, or none; each show that is done has the whole picture in front,
  -- touched nothing outside the stated region, and answered the reference's counts; nothing else altered
  pub lawful : Lawful (world_from m c base) s (m.screens c) events
  -- the panel's shelf and chain are what the last event left
  pub shelf : p.shelf ≡ shelf_after (world_from m c base) s events
  pub screens : m.screens p.chain ≡ screens_after (world_from m c base) (m.screens c) events

-- the opening was refused: shelf and chain are handed back, and no answer was written
pub record NeverOpened {P S C : Type 0} (m : Meaning P S C) (s : S) (c : C) (before after : List Answer) (u : Unopened S C) : Type 0 where
  pub handed_back : HandedBack m s c u
  pub unwritten : after ≡ before

-- the shelves of two lists of events tell the same before each call
abbrev pub TellSameThroughout : {P S T : Type 0} → (S → Told P) → (T → Told P) → List (Event P S) → List (Event P T) → Type 0
TellSameThroughout f g es fs = Both (λ e h. TellSame (f e.shelf) (g h.shelf)) es fs

-- Two panels of one base were opened and the same calls made on both. On chains of one size, and over shelves that tell
-- the same before each call, they met the same refusals at the same calls, and equal frames at each show.
pub record Agreed {P S C T D : Type 0} (m : Meaning P S C) (k : Meaning P T D) (c : C) (d : D) (base : P) (es : List (Event P S)) (fs : List (Event P T)) : Type 0 where
  pub frames_agree : (m.screens c).width ≡ (k.screens d).width → (m.screens c).height ≡ (k.screens d).height
      → TellSameThroughout m.tells k.tells es fs → Both (Agree (world_from m c base) (world_from k d base)) es fs

-- chains of one size are both opened or both refused
abbrev pub OpenAlike : {P S C T D : Type 0} → Meaning P S C → Meaning P T D → C → D → Type 0
OpenAlike m k c d = (m.screens c).width ≡ (k.screens d).width → (m.screens c).height ≡ (k.screens d).height
    → open_refusal (m.screens c).width (m.screens c).height ≡ open_refusal (k.screens d).width (k.screens d).height

-- both panels were opened, and agree over their runs
pub record TwoLived {P S C T D : Type 0} (m : Meaning P S C) (k : Meaning P T D) (s : S) (c : C) (t : T) (d : D) (base : P) (calls : List Call) (first second : List Answer) (n : ℕ) (p : Panel P S C) (q : Panel P T D) : Type 0 where
  pub one : Lived m s c base calls first n p
  pub other : Lived k t d base calls second n q
  pub agreed : Agreed m k c d base one.events other.events
