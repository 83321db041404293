-- What one call does to a panel, whatever came before it.
use Rattle.std.specs.Prelude.{ℤ, Ok, Err}
use Rattle.surface.specs.declared.order.Order.{Order}
use Rattle.reference.specs.declared.call.Call.{Call}
use Rattle.reference.specs.declared.call.Call.TheVariants.{Place, Move, Lift, Remove, Tell, Show}
use Rattle.reference.specs.declared.answer.Answer.{Answer}
use Rattle.reference.specs.declared.answer.Answer.TheVariants as answers
use Rattle.panel.specs.declared.panel.Panel.{Panel}
use Rattle.panel.specs.Calls.{Meaning, Quietly, Taken, Declined, Displays}

module _ {P S C : Type 0} (m : Meaning P S C) where
  -- place, move, lift and remove are done or refused
  abbrev pub Arranges : Panel P S C → Call → Answer → Panel P S C → Type 0
  Arranges p call answers.Done q = Quietly m p call (Ok tt) q
  Arranges p call (answers.Damaged d) q = ⊥
  Arranges p call (answers.Shown s) q = ⊥
  Arranges p call (answers.Refused e) q = Quietly m p call (Err e) q

  -- a tell answers a damage box or is refused
  abbrev pub Orders : Panel P S C → ℤ → Order → Answer → Panel P S C → Type 0
  Orders p k o answers.Done q = ⊥
  Orders p k o (answers.Damaged d) q = Taken m p k o d q
  Orders p k o (answers.Shown s) q = ⊥
  Orders p k o (answers.Refused e) q = Declined m p k o e q

  -- a show is never refused
  abbrev pub Presents : Panel P S C → Answer → Panel P S C → Type 0
  Presents p answers.Done q = ⊥
  Presents p (answers.Damaged d) q = ⊥
  Presents p (answers.Shown s) q = Displays m p s q
  Presents p (answers.Refused e) q = ⊥

  -- the call took the panel p to q, and answered a
  abbrev pub Does : Panel P S C → Call → Answer → Panel P S C → Type 0
  Does p (Place k x y) a q = Arranges p (Place k x y) a q
  Does p (Move k x y) a q = Arranges p (Move k x y) a q
  Does p (Lift k n) a q = Arranges p (Lift k n) a q
  Does p (Remove k) a q = Arranges p (Remove k) a q
  Does p (Tell k o) a q = Orders p k o a q
  Does p Show a q = Presents p a q
