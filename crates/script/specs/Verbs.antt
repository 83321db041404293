-- The word that a record begins with, and how many numbers follow it.
use Rattle.std.specs.Prelude.{ℕ, cond, List, Some, None, codes, Option}
use Rattle.std.specs.Str.{bytes_eq}
use Rattle.script.specs.declared.verb.Verb.{Verb}
use Rattle.script.specs.declared.verb.Verb.TheVariants.{Open, Place, Move, Lift, Remove, Tell, Show}

-- a verb's word
abbrev pub word_of : Verb → List ℕ
word_of Open = codes "open"
word_of Place = codes "place"
word_of Move = codes "move"
word_of Lift = codes "lift"
word_of Remove = codes "remove"
word_of Tell = codes "tell"
word_of Show = codes "show"

-- the verb that a word spells: v where it is v's word, else what comes after
abbrev pub or_else : List ℕ → Verb → Option Verb → Option Verb
or_else bs v o = cond (bytes_eq bs (word_of v)) (Some v) o

abbrev pub verb_of : List ℕ → Option Verb
verb_of bs = or_else bs Open (or_else bs Place (or_else bs Move (or_else bs Lift (or_else bs Remove (or_else bs Tell (or_else bs Show None))))))

-- how many numbers follow
abbrev pub count_of : Verb → ℕ
count_of Open = 4
count_of Place = 3
count_of Move = 3
count_of Lift = 2
count_of Remove = 1
count_of Tell = 4
count_of Show = 0
