-- The shape of a chain's buffers.
use Rattle.std.specs.Prelude.{ℕ, ◌*◌, ◌≤◌, Bool, cond}
use Rattle.chain.specs.Begins.{fitting}
use Rattle.chain.specs.declared.shape.Shape.{Shape}

-- no side is longer than a display's can be
abbrev pub Small : Shape → Type 0
Small s = (s.width ≤ 1024) × (s.height ≤ 1024)

-- the pixels of all the buffers
abbrev pub room : Shape → ℕ
room s = s.count * (s.width * s.height)

-- do at least so many buffers of this shape fill a memory of len pixels exactly
abbrev pub fits : ℕ → Shape → ℕ → Bool
fits least s len = fitting least s.width s.height s.count len

-- the shape that a new chain has over such a memory: where its own does not fit, one buffer with both sides 0
abbrev pub fitted : ℕ → Shape → ℕ → Shape
fitted least s len =
    record {
      layout = s.layout;
      width = cond (fits least s len) s.width 0;
      height = cond (fits least s len) s.height 0;
      count = cond (fits least s len) s.count 1;
    }
