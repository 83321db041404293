-- What a region holds, as a list.
use Rattle.std.specs.Prelude.{List, take}
use Rattle.region_laws.specs.declared.rect.Rect.{Rect}
use Rattle.region.specs.declared.region.Region.{Region}

-- the boxes of a region
abbrev pub list_of : Region → List Rect
list_of r = take r.count r.boxes
