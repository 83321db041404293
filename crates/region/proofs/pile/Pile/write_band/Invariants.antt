use Rattle.std.proofs.Common.{◌≡◌, ◌+◌, ◌++◌, take}
use Rattle.region_laws.specs.Bands.{row_boxes}
use Rattle.region_laws.specs.Spans.{spans}
use Rattle.region.specs.Making.{pile_of}
use Rattle.region.proofs.pile.Pile.write_band.Given as goal

abbrev pub invariant-loop-k : goal.invariant-loop-k
invariant-loop-k l =
    (pile_of l.self ≡ pile_of l.initial.self ++ row_boxes l.top l.bottom (spans (take l.k l.row.boxes)))
    × (l.self.count ≡ l.initial.self.count + l.k)
