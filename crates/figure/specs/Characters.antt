-- A number in four characters: right-aligned, blanks in front, the minus directly before the first digit.
use Rattle.std.specs.Prelude.{◌≡◌, ℕ, suc, ◌+◌, ◌-◌, ◌*◌, ◌/◌, ◌%◌, ◌^◌, Bool, true, false, cond, not, ◌&&◌, ◌||◌, List, [], ◌∷◌, ℤ, pos, negsuc, neg_ℤ, ◌==◌, int_le, nat_le}
use Rattle.figure.specs.declared.character.Character.{Character}
use Rattle.figure.specs.declared.character.Character.TheVariants.{Digit, Minus, Blank}

-- -999 to 9,999
abbrev pub in_range : ℤ → Bool
in_range v = int_le (negsuc 998) v && int_le v (pos 9999)

-- what a digit in cell i counts, the cells numbered from 0 at the left
abbrev pub weight : ℕ → ℕ
weight i = 10 ^ (3 - i)

-- the digits of n have begun at cell i; the last cell always has one
abbrev pub begun : ℕ → ℕ → Bool
begun n i = nat_le 3 i || nat_le (weight i) n

-- the character in cell i of a number
abbrev pub in_cell : ℤ → ℕ → Character
in_cell (pos n) i = cond (begun n i) (Digit (n / weight i % 10)) Blank
in_cell (negsuc m) i = cond (begun (suc m) i) (Digit (suc m / weight i % 10)) (cond (begun (suc m) (i + 1)) Minus Blank)

-- the four characters of a number
abbrev pub row : ℤ → List Character
row v = in_cell v 0 ∷ in_cell v 1 ∷ in_cell v 2 ∷ in_cell v 3 ∷ []

-- the number of a character's glyph
abbrev pub glyph : Character → ℕ
glyph (Digit d) = d
glyph Minus = 10
glyph Blank = 11

-- reading characters back, from the left: digits count in tens, whatever else counts nothing
abbrev pub digit : Character → ℕ
digit (Digit d) = d
digit Minus = 0
digit Blank = 0

abbrev pub digits : ℕ → List Character → ℕ
digits n [] = n
digits n (c ∷ cs) = digits (n * 10 + digit c) cs

-- a minus anywhere makes the number negative
abbrev pub is_minus : Character → Bool
is_minus (Digit d) = false
is_minus Minus = true
is_minus Blank = false

abbrev pub negative : List Character → Bool
negative [] = false
negative (c ∷ cs) = is_minus c || negative cs

abbrev pub read : List Character → ℤ
read cs = cond (negative cs) (neg_ℤ (pos (digits 0 cs))) (pos (digits 0 cs))

-- a digit with these characters after it may begin a number: 0 only as the last
abbrev pub leading : ℕ → List Character → Bool
leading d [] = true
leading d (c ∷ cs) = not (d == 0)

abbrev pub all_digits : List Character → Bool
all_digits [] = true
all_digits (Digit d ∷ cs) = all_digits cs
all_digits (Minus ∷ cs) = false
all_digits (Blank ∷ cs) = false

abbrev pub numeral : List Character → Bool
numeral [] = false
numeral (Digit d ∷ cs) = leading d cs && all_digits cs
numeral (Minus ∷ cs) = false
numeral (Blank ∷ cs) = false

-- the characters are blanks, then a minus or none, then digits to the end, the first of them not 0 unless it is alone
abbrev pub tidy : List Character → Bool
tidy [] = false
tidy (Digit d ∷ cs) = numeral (Digit d ∷ cs)
tidy (Minus ∷ cs) = numeral cs
tidy (Blank ∷ cs) = tidy cs

-- the characters are those of v, and read back they give v; no other number in range has them; they are tidy
pub record Shows (v : ℤ) (cs : List Character) : Type 0 where
  pub named : cs ≡ row v
  pub back : read cs ≡ v
  pub apart : (u : ℤ) → in_range u ≡ true → row u ≡ cs → u ≡ v
  pub aligned : tidy cs ≡ true
