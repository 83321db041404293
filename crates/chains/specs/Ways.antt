-- Which buffer is the back after each swap.
use Rattle.std.specs.Prelude.{ℕ, zero, suc, Bool}
use Rattle.chain.specs.Screens.{Screens}
use Rattle.chain.specs.Swaps.{Turned, turned}

-- What a rule does: the buffer that it picks next, of a chain of so many buffers whose back is a given one; whether it
-- forgets that buffer; and the rule that is left then.
pub record Way (R : Type 0) : Type 0 where
  pub picks : R → ℕ → ℕ → ℕ
  pub forgets : R → Bool
  pub after : R → R

-- one swap by a rule
abbrev pub Turns : {P R : Type 0} → Way R → R → Screens P → Screens P → Type 0
Turns w r s t = Turned s (w.picks r s.back s.count) (w.forgets r) t

-- the same as a function
abbrev pub turned_by : {P R : Type 0} → Way R → R → Screens P → Screens P
turned_by w r s = turned s (w.picks r s.back s.count) (w.forgets r)

-- the rule that is left after k swaps
abbrev pub later : {R : Type 0} → Way R → ℕ → R → R
later w zero r = r
later w (suc k) r = w.after (later w k r)

-- what a chain tells after k swaps
abbrev pub turnings : {P R : Type 0} → Way R → ℕ → R → Screens P → Screens P
turnings w zero r s = s
turnings w (suc k) r s = turned_by w (later w k r) (turnings w k r s)
