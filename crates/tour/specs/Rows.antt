-- Rows of pixels.
use Rattle.std.specs.Prelude.{List, [], ◌∷◌}

-- a row laid over another, pixel by pixel, as far as both go
abbrev pub laid_row : {P : Type 0} → (P → P → P) → List P → List P → List P
laid_row lay [] ds = ds
laid_row lay (s ∷ ss) [] = []
laid_row lay (s ∷ ss) (d ∷ ds) = lay s d ∷ laid_row lay ss ds
