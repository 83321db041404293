use Rattle.std.proofs.Common.{◌≡◌, ◌-◌, ◌<◌, ◌≤◌, length, take, drop, unwrap_or, ⊎_elim, arith, rules, tests}
use Rattle.std.proofs.lemmas.Bool.{cases_lt}
use Rattle.std.proofs.lemmas.List.{take_all, length-drop}
use Rattle.std.proofs.lemmas.Iterator.{YieldsList-from_slice, IsFirst-from_position}
use Rattle.region_laws.specs.declared.rect.Rect.{Rect}
use Rattle.region.proofs.Sweeps.{passed}
use Rattle.region.proofs.bands.Bands.count_above.Goals as goal

pub returns : goal.returns
returns c =
    let bs = c.args.self.now.boxes.now in
    let y = c.args.y in
    let i = c.args.above in
    let rest = take (length bs - i) (drop i bs) in
    let e : rest ≡ drop i bs = take_all (length bs - i) (drop i bs) (simp length-drop (omega arith)) in
    let f = IsFirst-from_position _ _ c.position.result (λ (b : Rect). y < b.bottom) (λ (b : Rect). b.bottom ≤ y) c.position.ensures.ran (YieldsList-from_slice rest cc) (λ x q k. search (rules, tests)) (λ x q k. search (rules, tests)) in
    let p = passed (λ (b : Rect). b.bottom ≤ y) (λ (b : Rect). y < b.bottom) bs rest i c.position.result e c.requires.within f in
    let u : c.unwrap_or.result ≡ unwrap_or c.position.result (length rest) = search rules in
    let w = p.within in
    record {
      within = omega arith;
      above = λ m h. ⊎_elim (λ l. c.requires.known m l) (λ g. p.over m g (omega arith)) (cases_lt m i);
      first = λ h. search rules;
    }
