-- Showing the back and picking another.
use Rattle.std.specs.Prelude.{◌≡◌, ℕ, ◌<◌, Bool, ◌≢◌, Some}
use Rattle.chain.specs.Screens.{Screens}
use Rattle.chain.specs.Ages.{older, age_after}

-- A swap of any chain. The back becomes the front, with age 1 and its pixels. Every other buffer is one show older and
-- has its pixels, or is forgotten: it then has age 0 and may hold anything. Any buffer may be the next back.
pub record Swapped {P : Type 0} (s t : Screens P) : Type 0 where
  pub width : t.width ≡ s.width
  pub height : t.height ≡ s.height
  pub count : t.count ≡ s.count
  pub writes : t.writes ≡ s.writes
  pub front : t.front ≡ Some s.back
  pub newest : t.age s.back ≡ 1
  pub shown : (x y : ℕ) → t.pixel s.back x y ≡ s.pixel s.back x y
  pub ages : (b : ℕ) → b < s.count → b ≢ s.back → t.age b ≢ 0 → t.age b ≡ older (s.age b)
  pub kept : (b : ℕ) → b < s.count → b ≢ s.back → t.age b ≢ 0 → (x y : ℕ) → t.pixel b x y ≡ s.pixel b x y

-- The swap of a chain that says which buffer it picks, whether it forgets that one, and that it alters no pixel.
pub record Turned {P : Type 0} (s : Screens P) (picked : ℕ) (forget : Bool) (t : Screens P) : Type 0 where
  pub width : t.width ≡ s.width
  pub height : t.height ≡ s.height
  pub count : t.count ≡ s.count
  pub pixel : (b x y : ℕ) → t.pixel b x y ≡ s.pixel b x y
  pub age : (b : ℕ) → t.age b ≡ age_after s.age s.back picked forget b
  pub back : t.back ≡ picked
  pub front : t.front ≡ Some s.back
  pub writes : t.writes ≡ s.writes

-- what such a swap leaves, as a function
abbrev pub turned : {P : Type 0} → Screens P → ℕ → Bool → Screens P
turned s picked forget =
    record {
      width = s.width;
      height = s.height;
      count = s.count;
      pixel = s.pixel;
      age = age_after s.age s.back picked forget;
      back = picked;
      front = Some s.back;
      writes = s.writes;
    }

-- Law: such a swap is a swap.
abbrev pub TurnSwaps : Type 0 → Type 0
TurnSwaps P = (s t : Screens P) (picked : ℕ) (forget : Bool) → Turned s picked forget t → Swapped s t

-- Law: such a swap leaves one outcome. So two chains that tell the same do so after the same swap, whatever their memory.
abbrev pub TurnIsFunction : Type 0 → Type 0
TurnIsFunction P = (s t : Screens P) (picked : ℕ) (forget : Bool) → Turned s picked forget t → t ≡ turned s picked forget
