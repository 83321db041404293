-- A number is an optional minus and 1 to 10 digits, within 32 signed bits.
use Rattle.std.specs.Prelude.{ℕ, ◌+◌, ◌-◌, ◌*◌, ◌^◌, Bool, cond, ◌&&◌, List, [], ◌∷◌, length, drop, ℤ, pos, neg_ℤ, Some, None, Option, ◌==◌, nat_le, nat_lt, slice_index}
use Rattle.std.specs.Str.{all_ascii_digits}

-- the number that digits write, after the number n before them
abbrev pub read_on : ℕ → List ℕ → ℕ
read_on n [] = n
read_on n (b ∷ bs) = read_on (n * 10 + (b - 48)) bs

-- 1 to 10 digits
abbrev pub digits : List ℕ → Bool
digits bs = nat_lt 0 (length bs) && (nat_le (length bs) 10 && all_ascii_digits bs)

abbrev pub magnitude_of : List ℕ → Option ℕ
magnitude_of bs = cond (digits bs) (Some (read_on 0 bs)) None

-- without a minus, and after one
abbrev pub above : Option ℕ → Option ℤ
above None = None
above (Some n) = cond (nat_lt n (2 ^ 31)) (Some (pos n)) None

abbrev pub below : Option ℕ → Option ℤ
below None = None
below (Some n) = cond (nat_le n (2 ^ 31)) (Some (neg_ℤ (pos n))) None

-- a text that begins with a minus (45)
abbrev pub minus : List ℕ → Bool
minus bs = nat_lt 0 (length bs) && slice_index bs 0 == 45

-- the number that a field writes, if it writes one: -0 is 0
abbrev pub number_of : List ℕ → Option ℤ
number_of bs = cond (minus bs) (below (magnitude_of (drop 1 bs))) (above (magnitude_of bs))
