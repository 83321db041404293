use Rattle.std.proofs.Common.{◌≡◌, None, Some, Err, subst, sym, w32, to_z, of_z, rules}
use Rattle.std.proofs.lemmas.Int.{to_z-of_z}
use Rattle.reference.specs.declared.refusal.Refusal.TheVariants.{NoSurface}
use Rattle.panel.specs.Calls.{meaning, TellCall}
use Rattle.panel.proofs.Keeping.{told_taken, told_unknown, told_keeps, declined_keeps}
use Rattle.panel.proofs.panel.Panel.pass_on.Goals as goal

pub returns-in_err-known : goal.returns-in_err-known
returns-in_err-known g c =
    let m = meaning g.P.Pixel.lay (g.S.Shelf.tells g.P.Pixel.solid) g.S.Shelf.becomes g.C.Chain.tells in
    let p = c.args.self.now in
    let k = to_z w32 (of_z w32 c.args.surface) in
    let none : c.find-found.result ≡ None = search rules in
    let is : c.from_residual.result ≡ Err (NoSurface k) = search rules in
    let d = told_unknown m p c.args.surface k (to_z-of_z w32 c.args.surface c.ranges.surface) c.find-found.result c.find-found.ensures c.args.order none in
    subst (λ r. TellCall m p c.args.surface c.args.order r p) (sym is) (record { told = d; keeps = declined_keeps m g.P.Pixel.solid (g.S.Shelf.sound g.P.Pixel.solid) p _ c.args.surface c.args.order _ d })

pub returns : goal.returns
returns g c =
    let m = meaning g.P.Pixel.lay (g.S.Shelf.tells g.P.Pixel.solid) g.S.Shelf.becomes g.C.Chain.tells in
    let p = c.args.self.now in
    let some : c.find-found.result ≡ Some c.in_ok-known.known = search rules in
    let d = told_taken m p c.args.surface (to_z w32 (of_z w32 c.args.surface)) (to_z-of_z w32 c.args.surface c.ranges.surface) c.find-found.result c.find-found.ensures c.args.order
    c.in_ok-known.known some c.in-Ok.damage c.order.new.self c.damage.new.self c.in-Ok.ensures.taken c.in-Ok.ensures.made c.in-Ok.ensures.damaged c.damage.ensures in
    record { told = d; keeps = told_keeps m g.P.Pixel.solid (g.S.Shelf.sound g.P.Pixel.solid) p _ c.args.surface c.args.order c.in-Ok.damage d }
