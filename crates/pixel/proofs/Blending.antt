-- One channel laid over another.
use Rattle.std.proofs.Common.{ℕ, ◌-◌, ◌≤◌, mul-le-mul_right, arith}
use Rattle.pixel.specs.Channel.{blended}

-- a colour s of alpha a over a colour d of alpha b, neither above its alpha: the result is not above its alpha
pub stays : (s a d b : ℕ) → s ≤ a → d ≤ b → blended s d a ≤ blended a b a
stays s a d b i k = let q = mul-le-mul_right (255 - a) k in omega arith
