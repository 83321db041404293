-- From the opening to the end.
use Rattle.std.proofs.Common.{◌≡◌, ℕ, List, [], ap, ◌∙◌, append-nil}
use Rattle.region.specs.declared.display.Display.{Display}
use Rattle.reference.specs.declared.call.Call.{Call}
use Rattle.reference.specs.declared.answer.Answer.{Answer}
use Rattle.panel.specs.declared.panel.Panel.{Panel}
use Rattle.panel.specs.Calls.{Meaning, Fixed, Opened}
use Rattle.runs.specs.Runs.{Runs, Lived}

module _ {P S C : Type 0} (m : Meaning P S C) where
  pub lives : (s : S) (c : C) (base : P) (p q : Panel P S C) (calls : List Call) (answers : List Answer) (n : ℕ) → Opened m s c base p → Runs m p calls answers n q → Fixed m p q → Lived m s c base calls answers n q
  lives s c base p q calls answers n o r f =
      let done = r s (m.screens c) [] o.kept in
      let base_is : q.base ≡ base = f.base ∙ o.base_is in
      let width : q.display.width ≡ (m.screens c).width = ap (λ (d : Display). d.width) f.display ∙ o.width in
      let height : q.display.height ≡ (m.screens c).height = ap (λ (d : Display). d.height) f.display ∙ o.height in
      let all = rw (append-nil, base_is, width, height) at done.kept in
      record { opened = o.free; events = done.made; called = done.called; answered = done.answered; lawful = all.lawful; shelf = all.shelf; screens = all.screens }
