-- Writing one pixel of the back.
use Rattle.std.specs.Prelude.{◌≡◌, ℕ, ◌+◌, ◌%◌, ◌^◌, Bool, true, false, cond, ◌&&◌, Some, ◌==◌}
use Rattle.chain.specs.Screens.{Screens, on_display}

-- is u, v of buffer c the place x, y of buffer b
abbrev pub hit : ℕ → ℕ → ℕ → ℕ → ℕ → ℕ → Bool
hit b x y c u v = c == b && (u == x && v == y)

-- one pixel of the back is p, every other pixel of every buffer is as it was, and there is one write more
pub record Wrote {P : Type 0} (s : Screens P) (x y : ℕ) (p : P) (t : Screens P) : Type 0 where
  pub width : t.width ≡ s.width
  pub height : t.height ≡ s.height
  pub count : t.count ≡ s.count
  pub pixel : (b i j : ℕ) → t.pixel b i j ≡ cond (hit s.back x y b i j) (Some p) (s.pixel b i j)
  pub age : (b : ℕ) → t.age b ≡ s.age b
  pub back : t.back ≡ s.back
  pub front : t.front ≡ s.front
  pub writes : t.writes ≡ (s.writes + 1) % (2 ^ 32)

-- a write and its answer r: yes exactly on the display, and off it nothing is written
pub record Puts {P : Type 0} (s : Screens P) (x y : ℕ) (p : P) (r : Bool) (t : Screens P) : Type 0 where
  pub yes : r ≡ on_display s x y
  pub done : r ≡ true → Wrote s x y p t
  pub not : r ≡ false → t ≡ s

-- what a write on the display leaves, as a function
abbrev pub wrote : {P : Type 0} → Screens P → ℕ → ℕ → P → Screens P
wrote s x y p =
    record {
      width = s.width;
      height = s.height;
      count = s.count;
      pixel = λ b i j. cond (hit s.back x y b i j) (Some p) (s.pixel b i j);
      age = s.age;
      back = s.back;
      front = s.front;
      writes = (s.writes + 1) % (2 ^ 32);
    }

-- what any write leaves, on the display or off it
abbrev pub written : {P : Type 0} → Screens P → ℕ → ℕ → P → Screens P
written s x y p = cond (on_display s x y) (wrote s x y p) s

-- Law: a write leaves one outcome. So two chains that tell the same do so after the same write, whatever their memory.
abbrev pub WriteIsFunction : Type 0 → Type 0
WriteIsFunction P = (s t : Screens P) (x y : ℕ) (p : P) (r : Bool) → Puts s x y p r t → t ≡ written s x y p
