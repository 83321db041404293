-- The ages that shows meet.
use Rattle.std.specs.Prelude.{◌≡◌, ℕ, zero, suc, ◌<◌, true, false, List, [], ◌∷◌, length, slice_index}
use Rattle.chain.specs.Screens.{Screens, back_age}
use Rattle.chain.specs.Swaps.{turned}
use Rattle.chain.specs.Begins.{begun}
use Rattle.chain.specs.declared.layout.Layout.TheVariants.{Rows}
use Rattle.chains.specs.Rotation.{rotations}
use Rattle.chains.specs.Picked.{pickings}

-- a single chain after k swaps
abbrev pub repeats : {P : Type 0} → ℕ → Screens P → Screens P
repeats zero s = s
repeats (suc k) s = turned (repeats k s) 0 false

-- what show number i met, of a chain that tells `after k` after k swaps
abbrev pub Met : {P : Type 0} → (ℕ → Screens P) → List ℕ → Type 0
Met after ages = (i : ℕ) → i < length ages → slice_index ages i ≡ back_age (after i)

-- the ages that the first k shows of a chain meet
abbrev pub meeting : {P : Type 0} → (ℕ → Screens P) → ℕ → List ℕ
meeting after zero = []
meeting after (suc k) = back_age (after 0) ∷ meeting (λ i. after (suc i)) k

-- Worked examples: five shows on a rotating chain of 3, four on a picking chain of 2 with the number 9, on any memory and
-- a display of any size.
pub record Worked (P : Type 0) : Type 0 where
  pub rotating : (mem : List P) (w h : ℕ) → meeting (λ k. rotations k (begun Rows mem true w h 3)) 5 ≡ 0 ∷ 0 ∷ 0 ∷ 3 ∷ 3 ∷ []
  pub picking : (mem : List P) (w h : ℕ) → meeting (λ k. pickings 9 0 k (begun Rows mem true w h 2)) 4 ≡ 0 ∷ 0 ∷ 2 ∷ 1 ∷ []
