-- The lines of a script: each ends at a line feed (10), which the last may lack.
use Rattle.std.specs.Prelude.{ℕ, ◌+◌, cond, List, [], ◌∷◌, drop, ◌==◌}
use Rattle.std.specs.List.{onto_first}
use Rattle.script.specs.Parting.{front_length, front}

-- the first line, and what comes after its line feed
abbrev pub line : List ℕ → List ℕ
line bs = front 10 bs

abbrev pub lines_after : List ℕ → List ℕ
lines_after bs = drop (front_length 10 bs + 1) bs

-- all lines: an empty script has none, and a final line feed starts no further line
abbrev pub lines_of : List ℕ → List (List ℕ)
lines_of [] = []
lines_of (b ∷ bs) = cond (b == 10) ([] ∷ lines_of bs) (onto_first b (lines_of bs))
