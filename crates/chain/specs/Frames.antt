-- What an age says of a buffer's contents.
use Rattle.std.specs.Prelude.{◌≡◌, ℕ, suc, ◌<◌, Bool, ◌≢◌, List, [], ◌∷◌, Some, Option}
use Rattle.std.specs.List.{slice_get}
use Rattle.chain.specs.Screens.{Screens, back_pixel, front_pixel}
use Rattle.chain.specs.Writes.{Puts}
use Rattle.chain.specs.Swaps.{Swapped}

-- A frame: what a buffer showed at each place.
abbrev pub Frame : Type 0 → Type 0
Frame P = ℕ → ℕ → Option P

-- A buffer holds the frame that its age says, of the frames shown so far, newest first. An age that reaches past these
-- frames says nothing here, and neither does 255, which stands for many ages.
abbrev pub Holds : {P : Type 0} → List (Frame P) → Screens P → ℕ → Type 0
Holds {P} frames s b = (n : ℕ) (f : Frame P) → suc n < 255 → s.age b ≡ suc n → slice_get frames n ≡ Some f → (x y : ℕ) → s.pixel b x y ≡ f x y

-- A run of a chain, whatever it told at first: writes between shows. `frames` are those shown, newest first.
pub data Ran {P : Type 0} : List (Frame P) → Screens P → Type 0 where
  begun : (s : Screens P) → Ran [] s
  wrote : (frames : List (Frame P)) (s t : Screens P) (x y : ℕ) (p : P) (r : Bool) → Ran frames s → Puts s x y p r t → Ran frames t
  showed : (frames : List (Frame P)) (s t : Screens P) → Ran frames s → Swapped s t → Ran (back_pixel s ∷ frames) t

-- Law: after any run of any chain, whatever it picks and forgets and however much is written between the shows.
-- kept: each buffer but the back, which may have been written since, holds the frame that its age says.
-- met: right after a show the new back does so too, and this is what the next show meets.
-- seen: what is seen after a show is the frame shown.
pub record AgesTell (P : Type 0) : Type 0 where
  pub kept : (frames : List (Frame P)) (s : Screens P) → Ran frames s → (b : ℕ) → b < s.count → b ≢ s.back → Holds frames s b
  pub met : (frames : List (Frame P)) (s t : Screens P) → Ran frames s → Swapped s t → (b : ℕ) → b < t.count → Holds (back_pixel s ∷ frames) t b
  pub seen : (s t : Screens P) → Swapped s t → (x y : ℕ) → front_pixel t x y ≡ back_pixel s x y
