-- What a line of a script says.
use Rattle.std.specs.Prelude.{ℕ, zero, suc, Bool, cond, ◌||◌, List, [], ◌∷◌, ℤ, pos, Some, None, Ok, Err, Option, Result, int_lt, slice_index_or}
use Rattle.std.specs.Option.{ok_or}
use Rattle.reference.specs.declared.call.Call.TheVariants.{Place, Move, Lift, Remove, Tell, Show}
use Rattle.script.specs.declared.verb.Verb.{Verb}
use Rattle.script.specs.declared.verb.Verb.TheVariants as verb
use Rattle.script.specs.declared.record.Opening.{Opening}
use Rattle.script.specs.declared.record.Record.{Record}
use Rattle.script.specs.declared.record.Record.TheVariants as the_record
use Rattle.replies.specs.declared.refused.Refused.{Refused}
use Rattle.replies.specs.declared.refused.Refused.TheVariants.{NotARecord}
use Rattle.script.specs.Tokens.{Said, word, number, end, State, token, step, start}
use Rattle.script.specs.Numbers.{number_of}
use Rattle.script.specs.Verbs.{verb_of, count_of}

-- what comes after a success; a refusal stays
abbrev pub then : {A B E : Type 0} → Result A E → (A → Result B E) → Result B E
then (Ok x) f = f x
then (Err e) f = Err e

-- the word: another than the seven is refused at its place
abbrev pub as_verb : Said → Result Verb Refused
as_verb (word bs place line) = ok_or (verb_of bs) (NotARecord place)
as_verb (number bs place line) = Err (NotARecord place)
as_verb (end place line) = Err (NotARecord place)

-- a field that is to be a number: bad or missing, it is refused at its place
abbrev pub as_number : Said → Result ℤ Refused
as_number (word bs place line) = Err (NotARecord place)
as_number (number bs place line) = ok_or (number_of bs) (NotARecord place)
as_number (end place line) = Err (NotARecord place)

-- no field is to come: one too many is refused at its place
abbrev pub as_end : Said → Result (Unit {0}) Refused
as_end (word bs place line) = Err (NotARecord place)
as_end (number bs place line) = Err (NotARecord place)
as_end (end place line) = Ok tt

-- so many numbers, and then the line's end
abbrev pub numbers_of : ℕ → State → Result (List ℤ) Refused
numbers_of zero s = then (as_end (token s)) (λ _. Ok [])
numbers_of (suc k) s = then (as_number (token s)) (λ z. then (numbers_of k (step s)) (λ zs. Ok (z ∷ zs)))

-- the record that a verb and its numbers make
abbrev pub nth : List ℤ → ℕ → ℤ
nth zs i = slice_index_or zs i (pos 0)

abbrev pub record_of : Verb → List ℤ → Record
record_of verb.Open zs = the_record.Open (record { width = nth zs 0; height = nth zs 1; base = nth zs 2; chain = nth zs 3 })
record_of verb.Place zs = the_record.Call (Place (nth zs 0) (nth zs 1) (nth zs 2))
record_of verb.Move zs = the_record.Call (Move (nth zs 0) (nth zs 1) (nth zs 2))
record_of verb.Lift zs = the_record.Call (Lift (nth zs 0) (nth zs 1))
record_of verb.Remove zs = the_record.Call (Remove (nth zs 0))
record_of verb.Tell zs = the_record.Call (Tell (nth zs 0) (record { act = nth zs 1; a = nth zs 2; b = nth zs 3 }))
record_of verb.Show zs = the_record.Call Show

-- the rest of a line after its verb
abbrev pub record_from : State → Verb → Result Record Refused
record_from s v = then (numbers_of (count_of v) s) (λ zs. Ok (record_of v zs))

-- what the line of the number n says: read from the left, the first field that is bad, missing or too many is refused
abbrev pub parsed : ℕ → List ℕ → Result Record Refused
parsed n bs = then (as_verb (token (start bs n))) (λ v. record_from (step (start bs n)) v)

-- a number below the first or above the second
abbrev pub outside : ℤ → ℤ → ℤ → Bool
outside low high z = int_lt z low || int_lt high z

-- the first field of an open that is out of its range
abbrev pub misfit : Opening → Option ℕ
misfit o =
    cond (outside (pos 1) (pos 64) o.width) (Some 1)
    (cond (outside (pos 1) (pos 64) o.height) (Some 2)
    (cond (outside (pos 0) (pos 255) o.base) (Some 3)
    (cond (outside (pos 1) (pos 4) o.chain) (Some 4) None)))
