-- A pair of shelves, as one shelf.
use Rattle.std.specs.Prelude.{◌≡◌, Option, Some, None}
use Rattle.region_laws.specs.declared.rect.Rect.{Rect}
use Rattle.surface.specs.declared.order.Order.{Order}
use Rattle.surface.specs.declared.pair.Pair.{Pair}
use Rattle.surface.specs.declared.pair.Part.{Part}
use Rattle.surface.specs.declared.pair.Part.TheVariants.{First, Second}
use Rattle.surface.specs.Told.{Told}
use Rattle.surface.specs.Answered.{Becomes}
use Rattle.surface.specs.Settled.{Settled}
use Rattle.surface.specs.Beside.{part, beside}

-- what a pair tells, where its parts tell f and g
abbrev pub paired : {P A B : Type 0} → (A → Told P) → (B → Told P) → Pair A B → Told P
paired f g s = beside (f s.first) (g s.second)

-- the order went to the part that has the surface, under the part's own number, and the other part is the same value
abbrev pub Went : {A B : Type 0} → Option Part → Becomes A → Becomes B → Pair A B → Order → Rect → Pair A B → Type 0
Went None m n s o d t = ⊥
Went (Some (First j)) m n s o d t = m s.first j o d t.first × (t.second ≡ s.second)
Went (Some (Second j)) m n s o d t = n s.second j o d t.second × (t.first ≡ s.first)

-- what an order may make of a pair, where its parts tell f and g and become by m and n
abbrev pub PairBecomes : {P A B : Type 0} → (A → Told P) → Becomes A → Becomes B → Becomes (Pair A B)
PairBecomes f m n s k o d t = Went (part (f s.first).count k) m n s o d t

-- a pair leaves no choice where its parts leave none
abbrev pub PairSettles : {P A B : Type 0} → (A → Told P) → (B → Told P) → Becomes A → Becomes B → Type 0
PairSettles f g m n = Settled f m → Settled g n → Settled (paired f g) (PairBecomes f m n)
