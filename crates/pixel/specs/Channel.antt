-- One channel of a pixel laid over one channel of another.
use Rattle.std.specs.Prelude.{ℕ, ◌+◌, ◌-◌, ◌*◌, min}
use Rattle.pixel.specs.Rounding.{near}

-- what is left of a channel d under a pixel of this alpha
abbrev pub dimmed : ℕ → ℕ → ℕ
dimmed d alpha = near (d * (255 - alpha))

-- the channel s of a pixel of this alpha, laid over the channel d, and held to 255
abbrev pub blended : ℕ → ℕ → ℕ → ℕ
blended s d alpha = min 255 (s + dimmed d alpha)
