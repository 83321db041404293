-- What a region that is being made holds, as a list and a row.
use Rattle.std.specs.Prelude.{List, take}
use Rattle.region_laws.specs.declared.rect.Rect.{Rect}
use Rattle.region_laws.specs.Bands.{Row}
use Rattle.region_laws.specs.Spans.{spans}
use Rattle.region.specs.declared.pile.Pile.{Pile}
use Rattle.region.specs.declared.strip.Strip.{Strip}

-- the boxes so far
abbrev pub pile_of : Pile → List Rect
pile_of p = take p.count p.boxes

-- the row that is being made
abbrev pub strip_of : Strip → Row
strip_of s = spans (take s.count s.boxes)
