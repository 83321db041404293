-- What the buffers of a chain still hold of the picture.
use Rattle.std.specs.Prelude.{◌≡◌, ℕ, zero, suc, ◌-◌, ◌<◌, true, false, cond, ◌||◌, List, [], ◌∷◌, Some}
use Rattle.region_laws.specs.Boxes.{Places}
use Rattle.region_laws.specs.Bands.{covers}
use Rattle.region_laws.specs.declared.rect.Rect.{Rect}
use Rattle.chain.specs.Screens.{Screens, on_display}
use Rattle.reference.specs.Damage.{State, usable}

-- the places of the newest n of some regions, or of all where there are fewer
abbrev pub among : ℕ → List (List Rect) → Places
among zero rs x y = false
among (suc n) [] x y = false
among (suc n) (r ∷ rs) x y = covers r x y || among n rs x y

-- whether a place may have changed since the frame that a buffer of this age holds
abbrev pub due : ℕ → State → Places
due age st x y = cond (usable age) (covers st.pending x y || among (age - 1) st.past x y) true

-- every buffer holds the picture at each place of the display that cannot have changed since its frame
abbrev pub Fresh : {P : Type 0} → Screens P → (ℕ → ℕ → P) → State → Type 0
Fresh s pic st = (b x y : ℕ) → b < s.count → on_display s x y ≡ true → due (s.age b) st x y ≡ false → s.pixel b x y ≡ Some (pic x y)
