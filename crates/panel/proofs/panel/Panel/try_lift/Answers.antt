use Rattle.std.proofs.Common.{◌≡◌, Err, subst, sym, w32, to_z, of_z, rules}
use Rattle.std.proofs.lemmas.Int.{to_z-of_z}
use Rattle.reference.specs.declared.call.Call.TheVariants.{Lift}
use Rattle.reference.specs.Refusals.{natural}
use Rattle.reference_laws.proofs.Calls as calls
use Rattle.scene.specs.States.{state_of}
use Rattle.panel.specs.Calls.{meaning, StackCall}
use Rattle.panel.proofs.Keeping.{lift_refusal_lem, lift_done, refused_call, done_call}
use Rattle.panel.proofs.panel.Panel.try_lift.Goals as goal

pub returns-in_err-known : goal.returns-in_err-known
returns-in_err-known g c =
    let m = meaning g.P.Pixel.lay (g.S.Shelf.tells g.P.Pixel.solid) g.S.Shelf.becomes g.C.Chain.tells in
    let p = c.args.self.now in
    let e = c.in_err-known.field-0.0 in
    let is : c.from_residual.result ≡ Err e = search rules in
    let first = lift_refusal_lem (m.tells p.shelf) c.args.surface (to_z w32 (of_z w32 c.args.surface)) (to_z-of_z w32 c.args.surface c.ranges.surface) c.find-found.result c.find-found.ensures (state_of p.scene).stack _ c.args.under (to_z w32 (of_z w32 c.args.under)) (to_z-of_z w32 c.args.under c.ranges.under) c.in_err-known.ensures in
    subst (λ r. StackCall m p (Lift c.args.surface c.args.under) r p) (sym is) (refused_call m g.P.Pixel.solid (g.S.Shelf.sound g.P.Pixel.solid) p (Lift c.args.surface c.args.under) e (calls.lift c.args.surface c.args.under) first)

pub returns : goal.returns
returns g c =
    let m = meaning g.P.Pixel.lay (g.S.Shelf.tells g.P.Pixel.solid) g.S.Shelf.becomes g.C.Chain.tells in
    let p = c.args.self.now in
    let k = to_z-of_z w32 c.args.surface c.ranges.surface in
    let first = lift_refusal_lem (m.tells p.shelf) c.args.surface (to_z w32 (of_z w32 c.args.surface)) k c.find-found.result c.find-found.ensures (state_of p.scene).stack _ c.args.under (to_z w32 (of_z w32 c.args.under)) (to_z-of_z w32 c.args.under c.ranges.under) c.in_ok-known.ensures.1 in
    done_call m g.P.Pixel.solid (g.S.Shelf.sound g.P.Pixel.solid) p (Lift c.args.surface c.args.under) c.lift.new.self (calls.lift c.args.surface c.args.under) first
    (lift_done (m.tells p.shelf) c.args.surface (to_z w32 (of_z w32 c.args.surface)) k c.find-found.result c.find-found.ensures p.display.width p.display.height (state_of p.scene) (state_of c.lift.new.self) c.in_ok-known.known c.in_ok-known.ensures.0 c.args.under c.unwrap_or-under.result (let n : c.unwrap_or-under.result ≡ natural c.args.under = search rules in n) c.lift.ensures)
