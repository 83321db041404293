-- A text is parted at each byte of one kind: a script's lines at line feeds (10), a line's fields at tabs (9).
use Rattle.std.specs.Prelude.{ℕ, ◌+◌, cond, length, List, [], drop, take, Some, None, Option, ◌==◌, nat_lt}
use Rattle.std.specs.List.{position_or_len, slice_split}

-- how many bytes stand before the first byte that parts, and these bytes
abbrev pub front_length : ℕ → List ℕ → ℕ
front_length sep bs = position_or_len (λ b. b == sep) bs

abbrev pub front : ℕ → List ℕ → List ℕ
front sep bs = take (front_length sep bs) bs

-- what stands after the first byte that parts, if there is one
abbrev pub rest : ℕ → List ℕ → Option (List ℕ)
rest sep bs = cond (nat_lt (front_length sep bs) (length bs)) (Some (drop (front_length sep bs + 1) bs)) None

-- the parts of a text: always one more than the bytes that part it
abbrev pub parts : ℕ → List ℕ → List (List ℕ)
parts sep bs = slice_split (λ b. b == sep) bs

-- the parts of what comes after a part, if anything does
abbrev pub parts_after : ℕ → Option (List ℕ) → List (List ℕ)
parts_after sep None = []
parts_after sep (Some bs) = parts sep bs
