-- What a lexer gives, token after token.
use Rattle.std.specs.Prelude.{ℕ, ◌+◌, ◌-◌, ◌^◌, min, cond, List, [], ◌∷◌, ◌==◌}
use Rattle.script.specs.declared.token.Token.{Token}
use Rattle.script.specs.declared.token.Token.TheVariants.{Word, Number, End}
use Rattle.script.specs.Parting.{parts}

-- what a token says, with its bytes in place of the reference to them: bytes, place and line, or place and line
pub data Said : Type 0 where
  word : List ℕ → ℕ → ℕ → Said
  number : List ℕ → ℕ → ℕ → Said
  end : ℕ → ℕ → Said

abbrev pub said : Token → Said
said (Word bytes place line) = word bytes.now place line
said (Number bytes place line) = number bytes.now place line
said (End place line) = end place line

-- where a lexer stands: the fields to come, the number of the next of them, and the line's number
pub record State : Type 0 where
  pub fields : List (List ℕ)
  pub place : ℕ
  pub line : ℕ

-- at the start of a line
abbrev pub start : List ℕ → ℕ → State
start bs line = record { fields = parts 9 bs; place = 0; line = line }

-- the token that comes next: field 0 is the word
abbrev pub token_at : ℕ → ℕ → List (List ℕ) → Said
token_at place line [] = end place line
token_at place line (f ∷ fs) = cond (place == 0) (word f place line) (number f place line)

abbrev pub token : State → Said
token s = token_at s.place s.line s.fields

-- the number after a field's; it stays at the largest that a place can be
abbrev pub following : ℕ → ℕ
following place = min (place + 1) (2 ^ 64 - 1)

-- where the lexer stands after that token
abbrev pub step_at : ℕ → ℕ → List (List ℕ) → State
step_at place line [] = record { fields = []; place = place; line = line }
step_at place line (f ∷ fs) = record { fields = fs; place = following place; line = line }

abbrev pub step : State → State
step s = step_at s.place s.line s.fields
