use Rattle.std.proofs.Common.{◌≡◌, List, length, ap, ◌∙◌, arith}
use Rattle.std.specs.List.{insert}
use Rattle.std.proofs.lemmas.List.{length-take-le}
use Rattle.reference.specs.declared.pane.Pane.{Pane}
use Rattle.reference.specs.Damage.{State}
use Rattle.scene.specs.States.{state_of, stacked}
use Rattle.scene.proofs.Turns.{turned_right, inserted_least}
use Rattle.scene.proofs.scene.Scene.put_in.Goals as goal

pub returns : goal.returns
returns c =
    let s = c.args.self.now in
    let t = c.push.new.self in
    let under = c.args.under in
    let p = c.args.pane in
    let at = c.min-at.result in
    let stack : List Pane = (state_of s).stack in
    let n : length stack ≡ s.count = length-take-le s.count s.panes (omega arith) in
    let e : (state_of t).stack ≡ _ = ap (λ (v : State). v.stack) c.push.ensures.stack in
    ap (λ (ps : List Pane). stacked ps (state_of t)) (turned_right t.panes at t.count stack p c.rotate_right.new.self (omega arith) e (omega arith) (omega arith) c.rotate_right.ensures.after ∙ inserted_least stack under at p (omega arith))
    ∙ ap (stacked (insert stack under p)) c.push.ensures.stack
