-- What the characters look like.
use Rattle.std.specs.Prelude.{ℕ, ◌-◌, ◌/◌, ◌%◌, ◌^◌, Bool, List, [], ◌∷◌, ◌==◌, slice_index, slice_index_or}
use Rattle.figure.specs.declared.character.Character.{Character}
use Rattle.figure.specs.Characters.{glyph}

-- five rows from the top, each three bits, the bit of value 4 leftmost: the digits, the minus, the blank
abbrev pub table : List (List ℕ)
table = (7 ∷ 5 ∷ 5 ∷ 5 ∷ 7 ∷ [])
    ∷ (2 ∷ 6 ∷ 2 ∷ 2 ∷ 7 ∷ [])
    ∷ (7 ∷ 1 ∷ 7 ∷ 4 ∷ 7 ∷ [])
    ∷ (7 ∷ 1 ∷ 7 ∷ 1 ∷ 7 ∷ [])
    ∷ (5 ∷ 5 ∷ 7 ∷ 1 ∷ 1 ∷ [])
    ∷ (7 ∷ 4 ∷ 7 ∷ 1 ∷ 7 ∷ [])
    ∷ (7 ∷ 4 ∷ 7 ∷ 5 ∷ 7 ∷ [])
    ∷ (7 ∷ 1 ∷ 1 ∷ 1 ∷ 1 ∷ [])
    ∷ (7 ∷ 5 ∷ 7 ∷ 5 ∷ 7 ∷ [])
    ∷ (7 ∷ 5 ∷ 7 ∷ 1 ∷ 7 ∷ [])
    ∷ (0 ∷ 0 ∷ 7 ∷ 0 ∷ 0 ∷ [])
    ∷ (0 ∷ 0 ∷ 0 ∷ 0 ∷ 0 ∷ [])
    ∷ []

-- the bits of one row of a character
abbrev pub bits : Character → ℕ → ℕ
bits c row = slice_index (slice_index_or table (glyph c) []) row

-- the character has ink in this column, from 0 at the left, of this row
abbrev pub ink : Character → ℕ → ℕ → Bool
ink c column row = bits c row / 2 ^ (2 - column) % 2 == 1
