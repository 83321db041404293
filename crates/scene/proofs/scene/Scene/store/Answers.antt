use Rattle.std.proofs.Common.{List, ap}
use Rattle.region_laws.specs.declared.rect.Rect.{Rect}
use Rattle.region.specs.Lists.{list_of}
use Rattle.reference.specs.Damage.{State}
use Rattle.scene.specs.States.{state_of}
use Rattle.scene.proofs.Turns.{one_more}
use Rattle.scene.proofs.scene.Scene.store.Goals as goal

pub returns-then-self-lt7 : goal.returns-then-self-lt7
returns-then-self-lt7 c =
    let s = c.args.self.now in
    let st = state_of s in
    ap (λ (rs : List (List Rect)). let v : State = record { stack = st.stack; pending = st.pending; past = rs } in v)
    (one_more (list_of c.args.damage) (list_of s.ago_1) (list_of s.ago_2) (list_of s.ago_3) (list_of s.ago_4) (list_of s.ago_5) (list_of s.ago_6) (list_of s.ago_7) s.shows c.if-self-lt7.true)
