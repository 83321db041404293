-- Equality of regions: of their parts, of their lists, and of the pixels that they cover.
use Rattle.std.proofs.Common.{◌≡◌, ◌-◌, true, List, ◌++◌, length, drop, replicate, Decides, sym, refl, ap, ◌∙◌, rules, tests, arith}
use Rattle.std.specs.Cmp.Lexicographic.{pointwise}
use Rattle.std.proofs.lemmas.Slice.Eq.{slice_eq-Decides}
use Rattle.std.proofs.lemmas.List.{take-append-drop}
use Rattle.region_laws.specs.Boxes.{no_box}
use Rattle.region_laws.specs.Bands.{covers}
use Rattle.region_laws.specs.Laws.{Same}
use Rattle.region_laws.specs.declared.rect.Rect.{Rect}
use Rattle.region_laws.specs.contracts.rect.RectPartialEq.TheImpl.{eq-value}
use Rattle.region_laws.proofs.Laws.{one_list}
use Rattle.region_laws.proofs.Stacking.{length_front}
use Rattle.region.specs.Lists.{list_of}
use Rattle.region.specs.declared.region.Region.{Region}

same_box : (a b : Rect) → Decides (eq-value.it a b) (a ≡ b)
same_box a b = search (rules, tests)

pub same_boxes : (xs ys : List Rect) → pointwise eq-value.it xs ys ≡ true → xs ≡ ys
same_boxes xs ys e = (slice_eq-Decides same_box xs ys _ refl).0 e

pub boxes_same : (xs ys : List Rect) → xs ≡ ys → pointwise eq-value.it xs ys ≡ true
boxes_same xs ys e = (slice_eq-Decides same_box xs ys _ refl).1 e

-- a region's list makes its parts: the boxes past the list are all the same
pub count_from_list : (a b : Region) → list_of a ≡ list_of b → a.count ≡ b.count
count_from_list a b e =
    let m = length_front a.boxes a.count (omega arith) in
    let n = length_front b.boxes b.count (omega arith) in
    let l = ap length e in
    omega arith

pub boxes_from_list : (a b : Region) → list_of a ≡ list_of b → a.boxes ≡ b.boxes
boxes_from_list a b e =
    let n = count_from_list a b e in
    let r : drop a.count a.boxes ≡ drop b.count b.boxes = a.rest ∙ (ap (λ m. replicate (32 - m) no_box) n ∙ sym b.rest) in
    sym (take-append-drop a.count a.boxes) ∙ ((λ i. e i ++ r i) ∙ take-append-drop b.count b.boxes)

pub list_from_pixels : (a b : Region) → Same (covers (list_of a)) (covers (list_of b)) → list_of a ≡ list_of b
list_from_pixels a b e = one_list (list_of a) (list_of b) a.banded b.banded e
