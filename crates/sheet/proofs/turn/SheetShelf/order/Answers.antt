use Rattle.std.proofs.Common.{◌≡◌, true, eqb, ltb, sym, refl, subst, arith}
use Rattle.std.proofs.lemmas.Bool.{eq-eqb, lt-ltb}
use Rattle.surface.specs.Damaged.{Damaged}
use Rattle.region_laws.specs.Boxes.{Smallest}
use Rattle.surface.proofs.Hulls.{hulls}
use Rattle.sheet.specs.Pages.{differs}
use Rattle.sheet.specs.Sheets.{sheet, told, shown, page_of, changed, damage}
use Rattle.sheet.proofs.Turning.{open_both, turn_damaged}
use Rattle.sheet.proofs.turn.SheetShelf.order.Goals as goal

pub returns-clause-answered : goal.returns-clause-answered
returns-clause-answered g c =
    let s = c.args.self.now in
    let k = c.args.k in
    let next = c.in_ok-next.next in
    let hard = g.P.Pixel.solid in
    let equal = g.P.Pixel.equal in
    let k1 : eqb c.args.k 0 ≡ true = eq-eqb _ _ (omega arith) in
    let w1 : ltb 0 c.args.self.now.width ≡ true = lt-ltb _ _ (omega arith) in
    let h1 : ltb 0 c.args.self.now.height ≡ true = lt-ltb _ _ (open_both _ _ s.both (λ z. omega arith)) in
    let e : c.damage_to-damage.result ≡ damage equal s next = c.damage_to-damage.ensures in
    record {
      taken = simp (k1, w1, h1) c.in_ok-next.ensures.taken;
      made = record { surface = omega arith; page = c.in_ok-next.ensures.shows.0; box = e; cells = refl; width = refl; height = refl; pages = refl };
      damaged = subst (λ v. Damaged (told hard s) (sheet hard s.width s.height s.pages (page_of s next)) k v) (sym e)
          (turn_damaged equal g.met.P.Pixel.alike hard s.width s.height s.pages (shown s) (page_of s next) k (omega arith));
    }

pub returns-clause-smallest : goal.returns-clause-smallest
returns-clause-smallest g c =
    let s = c.args.self.now in
    let next = c.in_ok-next.next in
    let equal = g.P.Pixel.equal in
    subst (λ v. Smallest (changed equal s next) v) (sym c.damage_to-damage.ensures) (hulls (differs equal s.width (shown s) (page_of s next)) s.width s.height)
