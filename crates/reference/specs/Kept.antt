-- What a panel keeps from call to call.
use Rattle.std.specs.Prelude.{◌≡◌, ℕ, ◌≤◌, List}
use Rattle.chain.specs.Screens.{Screens}
use Rattle.reference.specs.declared.call.Call.{Call}
use Rattle.reference.specs.declared.answer.Answer.{Answer}
use Rattle.reference.specs.Picture.{picture}
use Rattle.reference.specs.Damage.{State, Orderly}
use Rattle.reference.specs.Freshness.{Fresh}
use Rattle.reference.specs.History.{Event, World, reference, Lawful, shelf_after, screens_after}

-- the sides of a display are 1 to 1,024
pub record Sides (w h : ℕ) : Type 0 where
  pub width_least : 1 ≤ w
  pub width_most : w ≤ 1024
  pub height_least : 1 ≤ h
  pub height_most : h ≤ 1024

-- A panel was opened on the shelf s and a chain that told c, and the events es have come since, newest first. Now its
-- shelf is `now`, its chain tells `seen`, and it holds the stack and the regions st.
pub record Kept {P S : Type 0} (w : World P S) (s : S) (c : Screens P) (es : List (Event P S)) (now : S) (seen : Screens P) (st : State) : Type 0 where
  -- the law of whole runs holds of the events
  pub lawful : Lawful w s c es
  -- shelf, chain and state are what they led to
  pub shelf : now ≡ shelf_after w s es
  pub screens : seen ≡ screens_after w c es
  pub state : st ≡ reference w es
  pub width : seen.width ≡ w.width
  pub height : seen.height ≡ w.height
  pub sides : Sides w.width w.height
  pub orderly : Orderly w.width w.height st
  -- and every buffer still holds what its age says that it must
  pub fresh : Fresh seen (picture w.lay (w.tells now) w.base st.stack) st

-- the event of a call that took a shelf and what a chain tells to others
abbrev pub event : {P S : Type 0} → Call → Answer → S → Screens P → S → Screens P → Event P S
event call answer s c s' c' = record { call = call; answer = answer; shelf = s; screens = c; shelf' = s'; screens' = c' }
