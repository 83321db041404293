-- The premultiplied kind: from the top byte down alpha, red, green and blue.
use Rattle.std.specs.Prelude.{ℕ, ◌+◌, ◌*◌, ◌/◌, ◌%◌, Bool, ◌&&◌, ◌==◌, nat_le}
use Rattle.pixel.specs.Channel.{blended, dimmed}

-- A number past 32 bits has an alpha past 255, and so is never solid.
abbrev pub alpha : ℕ → ℕ
alpha p = p / 16777216

abbrev pub red : ℕ → ℕ
red p = p / 65536 % 256

abbrev pub green : ℕ → ℕ
green p = p / 256 % 256

abbrev pub blue : ℕ → ℕ
blue p = p % 256

-- the pixel of these channels
abbrev pub argb : ℕ → ℕ → ℕ → ℕ → ℕ
argb a r g b = ((a * 256 + r) * 256 + g) * 256 + b

-- each channel, alpha too, is laid by itself
abbrev pub laid : ℕ → ℕ → ℕ
laid s d = argb (blended (alpha s) (alpha d) (alpha s)) (blended (red s) (red d) (alpha s)) (blended (green s) (green d) (alpha s)) (blended (blue s) (blue d) (alpha s))

-- solid exactly at the full alpha
abbrev pub hidden : ℕ → Bool
hidden p = alpha p == 255

-- no colour is above alpha
abbrev pub premultiplied : ℕ → Bool
premultiplied p = nat_le (red p) (alpha p) && (nat_le (green p) (alpha p) && nat_le (blue p) (alpha p))

-- no channel of s laid over d has to be held to 255
abbrev pub unclamped : ℕ → ℕ → Bool
unclamped s d = (nat_le (alpha s + dimmed (alpha d) (alpha s)) 255 && nat_le (red s + dimmed (red d) (alpha s)) 255)
    && (nat_le (green s + dimmed (green d) (alpha s)) 255 && nat_le (blue s + dimmed (blue d) (alpha s)) 255)
