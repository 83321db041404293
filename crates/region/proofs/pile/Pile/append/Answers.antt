use Rattle.std.proofs.Common.{◌≡◌, ◌+◌, true, false, ◌≢◌, [], length, sym, refl, ◌∙◌, arith, rules}
use Rattle.std.proofs.lemmas.Bool.{le-leb, lt-leb}
use Rattle.region_laws.specs.Stacked.{goes_on}
use Rattle.region.specs.Making.{pile_of, strip_of}
use Rattle.region_laws.proofs.Stacking.{stacked_on, stacked_under, fits_none, fits_on, fits_under, strip_none, strip_some, length_front, length-span}
use Rattle.region.proofs.pile.Pile.append.Goals as goal

pub returns-then-row-eq0 : goal.returns-then-row-eq0
returns-then-row-eq0 c =
    let l = length_front c.args.self.now.boxes c.args.self.now.count (search rules) in
    let f = fits_none (pile_of c.args.self.now) c.args.self.now.start (strip_of c.args.row.now) c.args.top c.args.bottom (omega arith) (strip_none c.args.row.now.boxes c.args.row.now.count c.if-row-eq0.true) in
    record { fits = f.0; list = f.1; start = f.2 }

pub returns-then-goes_on : goal.returns-then-goes_on
returns-then-goes_on c =
    let l = length_front c.args.self.now.boxes c.args.self.now.count (search rules) in
    let n : strip_of c.args.row.now ≢ [] = strip_some c.args.row.now.boxes c.args.row.now.count (search rules) c.if-row-eq0.false in
    let g : goes_on (pile_of c.args.self.now) c.args.self.now.start (strip_of c.args.row.now) c.args.top ≡ true = sym c.goes_on.ensures ∙ c.if-goes_on.true in
    let e = stacked_on (pile_of c.args.self.now) c.args.self.now.start (strip_of c.args.row.now) c.args.top c.args.bottom n g in
    record {
      fits = fits_on (pile_of c.args.self.now) c.args.self.now.start (strip_of c.args.row.now) c.args.top c.args.bottom n g (omega arith);
      list = c.lengthen.ensures.list ∙ sym e.0;
      start = c.lengthen.ensures.start ∙ sym e.1;
    }

pub returns-then-self-row-gt-MOST : goal.returns-then-self-row-gt-MOST
returns-then-self-row-gt-MOST c =
    let l = length_front c.args.self.now.boxes c.args.self.now.count (search rules) in
    let m = length-span c.args.row.now.boxes c.args.row.now.count (search rules) in
    let n : strip_of c.args.row.now ≢ [] = strip_some c.args.row.now.boxes c.args.row.now.count (search rules) c.if-row-eq0.false in
    let g : goes_on (pile_of c.args.self.now) c.args.self.now.start (strip_of c.args.row.now) c.args.top ≡ false = sym c.goes_on.ensures ∙ c.if-goes_on.false in
    record {
      fits = sym (lt-leb (length (pile_of c.args.self.now) + length (strip_of c.args.row.now)) 32 (omega arith)) ∙ fits_under (pile_of c.args.self.now) c.args.self.now.start (strip_of c.args.row.now) c.args.top c.args.bottom n g;
      list = refl;
      start = refl;
    }

pub returns : goal.returns
returns c =
    let l = length_front c.args.self.now.boxes c.args.self.now.count (search rules) in
    let m = length-span c.args.row.now.boxes c.args.row.now.count (search rules) in
    let n : strip_of c.args.row.now ≢ [] = strip_some c.args.row.now.boxes c.args.row.now.count (search rules) c.if-row-eq0.false in
    let g : goes_on (pile_of c.args.self.now) c.args.self.now.start (strip_of c.args.row.now) c.args.top ≡ false = sym c.goes_on.ensures ∙ c.if-goes_on.false in
    let e = stacked_under (pile_of c.args.self.now) c.args.self.now.start (strip_of c.args.row.now) c.args.top c.args.bottom n g in
    record {
      fits = sym (le-leb (length (pile_of c.args.self.now) + length (strip_of c.args.row.now)) 32 (omega arith)) ∙ fits_under (pile_of c.args.self.now) c.args.self.now.start (strip_of c.args.row.now) c.args.top c.args.bottom n g;
      list = c.write_band.ensures.list ∙ sym e.0;
      start = c.write_band.ensures.start ∙ (sym l ∙ sym e.1);
    }
