use Rattle.std.proofs.Common.{◌≡◌, ℕ, cond, ltb, length, get_or}
use Rattle.chain.specs.Ages.{older}
use Rattle.chain.proofs.ages.Ages.show.Given as goal

-- the ages before this one are one show older, and the others as they were
abbrev pub invariant-loop-age : goal.invariant-loop-age
invariant-loop-age l =
    (length l.age-items ≡ 4)
    × ((i : ℕ) → get_or l.age-items i 0 ≡ cond (ltb i l.age-index) (older (get_or l.fn.self.by_buffer i 0)) (get_or l.fn.self.by_buffer i 0))
