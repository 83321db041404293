use Rattle.std.proofs.Common.{◌≡◌, Err, subst, sym, w32, to_z, of_z, rules}
use Rattle.std.proofs.lemmas.Int.{to_z-of_z}
use Rattle.reference.specs.declared.call.Call.TheVariants.{Remove}
use Rattle.reference_laws.proofs.Calls as calls
use Rattle.scene.specs.States.{state_of}
use Rattle.panel.specs.Calls.{meaning, StackCall}
use Rattle.panel.proofs.Keeping.{remove_refusal_lem, remove_done, refused_call, done_call}
use Rattle.panel.proofs.panel.Panel.try_remove.Goals as goal

pub returns-in_err-known : goal.returns-in_err-known
returns-in_err-known g c =
    let m = meaning g.P.Pixel.lay (g.S.Shelf.tells g.P.Pixel.solid) g.S.Shelf.becomes g.C.Chain.tells in
    let p = c.args.self.now in
    let e = c.in_err-known.field-0.0 in
    let is : c.from_residual.result ≡ Err e = search rules in
    let first = remove_refusal_lem (m.tells p.shelf) c.args.surface (to_z w32 (of_z w32 c.args.surface)) (to_z-of_z w32 c.args.surface c.ranges.surface) c.find-found.result c.find-found.ensures (state_of p.scene).stack _ c.in_err-known.ensures in
    subst (λ r. StackCall m p (Remove c.args.surface) r p) (sym is) (refused_call m g.P.Pixel.solid (g.S.Shelf.sound g.P.Pixel.solid) p (Remove c.args.surface) e (calls.remove c.args.surface) first)

pub returns : goal.returns
returns g c =
    let m = meaning g.P.Pixel.lay (g.S.Shelf.tells g.P.Pixel.solid) g.S.Shelf.becomes g.C.Chain.tells in
    let p = c.args.self.now in
    let k = to_z-of_z w32 c.args.surface c.ranges.surface in
    let first = remove_refusal_lem (m.tells p.shelf) c.args.surface (to_z w32 (of_z w32 c.args.surface)) k c.find-found.result c.find-found.ensures (state_of p.scene).stack _ c.in_ok-known.ensures.1 in
    done_call m g.P.Pixel.solid (g.S.Shelf.sound g.P.Pixel.solid) p (Remove c.args.surface) c.remove.new.self (calls.remove c.args.surface) first
    (remove_done (m.tells p.shelf) c.args.surface (to_z w32 (of_z w32 c.args.surface)) k c.find-found.result c.find-found.ensures p.display.width p.display.height (state_of p.scene) (state_of c.remove.new.self) c.in_ok-known.known c.in_ok-known.ensures.0 c.remove.ensures)
