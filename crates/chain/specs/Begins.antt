-- What a new chain tells of the caller's memory.
use Rattle.std.specs.Prelude.{◌≡◌, ℕ, ◌*◌, Bool, cond, ◌&&◌, List, None, ◌==◌, nat_le, nat_lt}
use Rattle.std.specs.List.{slice_get}
use Rattle.chain.specs.Screens.{Screens, inside}
use Rattle.chain.specs.Places.{place}
use Rattle.chain.specs.declared.layout.Layout.{Layout}

-- a side of a display
abbrev pub side : ℕ → Bool
side n = nat_le 1 n && nat_le n 1024

-- Do `least` to 4 buffers of w by h fill a memory of len pixels exactly? `least` itself is 1 or more.
abbrev pub fitting : ℕ → ℕ → ℕ → ℕ → ℕ → Bool
fitting least w h n len = nat_le 1 least && (nat_le least n && (nat_le n 4 && (side w && (side h && len == n * (w * h)))))

-- A new chain of n buffers of w by h over a memory. Where the numbers fit, its buffers are that memory, in the order of
-- the layout; where they do not, both sides are 0 and there is one buffer, which has no pixel.
pub record Begins {P : Type 0} (o : Layout) (mem : List P) (fit : Bool) (w h n : ℕ) (s : Screens P) : Type 0 where
  pub width : s.width ≡ cond fit w 0
  pub height : s.height ≡ cond fit h 0
  pub count : s.count ≡ cond fit n 1
  pub pixel : (b x y : ℕ) → s.pixel b x y ≡ cond (fit && (nat_lt b n && inside w h x y)) (slice_get mem (place o w h b x y)) None
  pub age : (b : ℕ) → s.age b ≡ 0
  pub back : s.back ≡ 0
  pub front : s.front ≡ None
  pub writes : s.writes ≡ 0

-- the same as a function
abbrev pub begun : {P : Type 0} → Layout → List P → Bool → ℕ → ℕ → ℕ → Screens P
begun o mem fit w h n =
    record {
      width = cond fit w 0;
      height = cond fit h 0;
      count = cond fit n 1;
      pixel = λ b x y. cond (fit && (nat_lt b n && inside w h x y)) (slice_get mem (place o w h b x y)) None;
      age = λ b. 0;
      back = 0;
      front = None;
      writes = 0;
    }

-- Law: what a new chain tells is one outcome.
abbrev pub BeginIsFunction : Type 0 → Type 0
BeginIsFunction P = (o : Layout) (mem : List P) (fit : Bool) (w h n : ℕ) (s : Screens P) → Begins o mem fit w h n s → s ≡ begun o mem fit w h n
