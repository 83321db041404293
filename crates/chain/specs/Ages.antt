-- How a buffer's age grows.
use Rattle.std.specs.Prelude.{ℕ, ◌+◌, min, Bool, cond, ◌&&◌, ◌==◌}

-- an age one show later: unknown contents stay unknown, and 255 stands for all that is more
abbrev pub older : ℕ → ℕ
older n = cond (n == 0) 0 (min 255 (n + 1))

-- The age of buffer b after a swap that shows one buffer, picks another and perhaps forgets the picked one.
-- What is shown has age 1, and is never forgotten.
abbrev pub age_after : (ℕ → ℕ) → ℕ → ℕ → Bool → ℕ → ℕ
age_after age shown picked forget b = cond (b == shown) 1 (cond (forget && b == picked) 0 (older (age b)))
