use Rattle.std.proofs.Common.{◌≡◌, ◌-◌, ◌<◌, ◌≤◌, length, take, drop, unwrap_or, sym, ap, ◌∙◌, arith, rules, tests}
use Rattle.std.proofs.lemmas.List.{take_all, length-take, length-drop}
use Rattle.std.proofs.lemmas.Iterator.{YieldsList-from_slice, IsFirst-from_position}
use Rattle.region_laws.specs.declared.rect.Rect.{Rect}
use Rattle.region.proofs.Sweeps.{passed, row_found}
use Rattle.region.proofs.bands.Bands.row.Goals as goal

pub returns : goal.returns
returns c =
    let bs = c.args.self.now.boxes.now in
    let y = c.args.y in
    let i = c.args.above in
    let rest = take (length bs - i) (drop i bs) in
    let e : rest ≡ drop i bs = take_all (length bs - i) (drop i bs) (simp length-drop (omega arith)) in
    let f = IsFirst-from_position _ _ c.position.result (λ (b : Rect). y < b.top) (λ (b : Rect). b.top ≤ y) c.position.ensures.ran (YieldsList-from_slice rest cc) (λ x q k. search (rules, tests)) (λ x q k. search (rules, tests)) in
    let p = passed (λ (b : Rect). b.top ≤ y) (λ (b : Rect). y < b.top) bs rest i c.position.result e c.requires.within f in
    let u : unwrap_or c.position.result (length rest) ≡ c.unwrap_or-here.result = search rules in
    record {
      row = ap (λ k. take k rest) (sym u) ∙ row_found bs rest y i _ c.args.self.now.banded e c.requires.above c.requires.first p;
      few = let n = c.args.self.now.few in simp (length-take, length-drop) (omega arith);
    }
