-- What a chain of picture buffers tells. Nothing here speaks of an order of memory.
use Rattle.std.specs.Prelude.{◌≡◌, ℕ, ◌^◌, ◌<◌, ◌≤◌, Bool, true, ◌&&◌, is_some, Some, None, Option, nat_lt}

-- width and height: the sides of the display in pixels. count: the number of buffers, which are numbered from 0.
-- These three are fixed for life.
-- pixel b x y: the pixel of buffer b at column x and row y, and none where there is no such buffer or place.
-- age b: 0 if the contents of buffer b are unknown; n if it holds the frame shown n shows ago; 255 for 255 or more.
-- back: the buffer that is written. front: the buffer that is seen, none before the first show.
-- writes: how many pixels were written, modulo 2 ^ 32.
pub record Screens (P : Type 0) : Type 0 where
  pub width : ℕ
  pub height : ℕ
  pub count : ℕ
  pub pixel : ℕ → ℕ → ℕ → Option P
  pub age : ℕ → ℕ
  pub back : ℕ
  pub front : Option ℕ
  pub writes : ℕ

-- is the place x, y on a display of w by h
abbrev pub inside : ℕ → ℕ → ℕ → ℕ → Bool
inside w h x y = nat_lt x w && nat_lt y h

-- the same of the display of a chain
abbrev pub on_display : {P : Type 0} → Screens P → ℕ → ℕ → Bool
on_display s x y = inside s.width s.height x y

-- the age of the back
abbrev pub back_age : {P : Type 0} → Screens P → ℕ
back_age s = s.age s.back

-- a pixel of the back
abbrev pub back_pixel : {P : Type 0} → Screens P → ℕ → ℕ → Option P
back_pixel s x y = s.pixel s.back x y

-- a pixel of the buffer that may be there
abbrev pub pixel_of : {P : Type 0} → Screens P → Option ℕ → ℕ → ℕ → Option P
pixel_of s (Some b) x y = s.pixel b x y
pixel_of s None x y = None

-- a pixel of the front
abbrev pub front_pixel : {P : Type 0} → Screens P → ℕ → ℕ → Option P
front_pixel s x y = pixel_of s s.front x y

-- a buffer that may be there is one of n
abbrev pub is_below : Option ℕ → ℕ → Bool
is_below (Some b) n = nat_lt b n
is_below None n = true

abbrev pub Below : Option ℕ → ℕ → Type 0
Below o n = is_below o n ≡ true

-- What holds of every chain: there is a pixel exactly at its buffers and on its display, the back and the front are
-- among its buffers, an age is at most 255, and the writes are counted modulo 2 ^ 32.
pub record Sound {P : Type 0} (s : Screens P) : Type 0 where
  pub there : (b x y : ℕ) → is_some (s.pixel b x y) ≡ (nat_lt b s.count && on_display s x y)
  pub back : s.back < s.count
  pub front : Below s.front s.count
  pub age : (b : ℕ) → s.age b ≤ 255
  pub writes : s.writes < 2 ^ 32
