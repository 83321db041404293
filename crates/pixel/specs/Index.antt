-- The index kind: one byte.
use Rattle.std.specs.Prelude.{ℕ, Bool, cond, not, ◌==◌}

-- 0 shows what lies below, every other byte itself
abbrev pub laid : ℕ → ℕ → ℕ
laid s d = cond (s == 0) d s

-- every byte but 0 is solid
abbrev pub hidden : ℕ → Bool
hidden s = not (s == 0)
