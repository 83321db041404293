use Rattle.std.proofs.Common.{◌≡◌, ◌*◌, true, eqb, ltb, sym, refl, ap, ◌∙◌, subst, arith}
use Rattle.std.proofs.lemmas.Bool.{lt-ltb, eq-eqb}
use Rattle.region_laws.specs.Boxes.{Smallest}
use Rattle.surface.specs.Damaged.{Damaged}
use Rattle.surface.proofs.Hulls.{hulls}
use Rattle.figure.specs.Figures.{told, figure, touched, changed, damage}
use Rattle.figure.proofs.Changes.{show_damaged}
use Rattle.figure.proofs.show.FigureShelf.order.Goals as goal

pub returns-clause-answered : goal.returns-clause-answered
returns-clause-answered g c =
    let s = c.args.self.now in
    let o = c.args.o in
    let k = c.args.k in
    let z = s.scale in
    let hard = g.P.Pixel.solid in
    let next = c.in_ok-next.next.value in
    let n : next ≡ o.a = c.in_ok-next.ensures.shows in
    let e : c.damage-hull.result ≡ damage s.shown.value next z = c.damage-hull.ensures in
    let k1 : eqb c.args.k 0 ≡ true = eq-eqb _ _ (omega arith) in
    let w1 : ltb 0 (15 * c.args.self.now.scale) ≡ true = lt-ltb _ _ (omega arith) in
    let h1 : ltb 0 (5 * c.args.self.now.scale) ≡ true = lt-ltb _ _ (omega arith) in
    record {
      taken = simp (k1, w1, h1) c.in_ok-next.ensures.taken;
      made = record { surface = omega arith; number = n; box = e ∙ ap (λ v. damage s.shown.value v z) n; scale = refl; ink = refl; paper = refl };
      damaged = subst (λ v. Damaged (told hard s) (figure hard z next s.ink s.paper) k v) (sym e) (show_damaged hard z s.shown.value next s.ink s.paper k (omega arith) (omega arith));
    }

pub returns-clause-smallest : goal.returns-clause-smallest
returns-clause-smallest g c =
    let s = c.args.self.now in
    let o = c.args.o in
    let z = s.scale in
    let a : c.damage-hull.result ≡ damage s.shown.value o.a z = c.damage-hull.ensures ∙ ap (λ v. damage s.shown.value v z) c.in_ok-next.ensures.shows in
    subst (λ v. Smallest (changed s o.a) v) (sym a) (hulls (touched s.shown.value o.a z) (15 * z) (5 * z))
