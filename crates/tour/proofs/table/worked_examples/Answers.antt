use Rattle.std.proofs.Common.{ℕ, true, List, [], ◌∷◌, refl, ap, ◌∙◌}
use Rattle.chain.specs.Begins.{begun}
use Rattle.chain.specs.declared.layout.Layout.TheVariants.{Rows}
use Rattle.region_laws.specs.Counted.{area}
use Rattle.region_laws.specs.declared.rect.Rect.{Rect}
use Rattle.region_laws.proofs.Examples.{overlap_is, under_is, crowded_is, lengthened_is}
use Rattle.tour.specs.Table.{Worked}
use Rattle.tour.proofs.Meeting.{picked_is}
use Rattle.tour.proofs.table.worked_examples.Goals as goal

worked_is : Worked
worked_is =
    record {
      near_127 = refl;
      near_128 = refl;
      near_largest = refl;
      red_over_blue = refl;
      overlap = overlap_is.list;
      overlap_area = refl;
      under = under_is;
      crowded = crowded_is;
      lengthened = lengthened_is.list;
      lengthened_count = refl;
      lengthened_area = refl;
      rotating = refl;
      picking = refl;
      by_rotating = λ r. refl;
      by_picking = λ p n a. picked_is p 9 0 (begun {P = ℕ} Rows (0 ∷ 0 ∷ []) true 1 1 2) 4 n a;
    }

pub returns : goal.returns
returns c =
    record {
      worked = worked_is;
      ran =
          record {
            near_127 = c.near.ensures.named;
            near_128 = c.near-2.ensures.named;
            near_largest = c.near-3.ensures.named;
            red_over_blue = c.over.ensures.lays;
            overlap = c.overlap-overlap.ensures;
            overlap_area = c.area.ensures.sum ∙ ap (λ (v : List Rect). area v) c.overlap-overlap.ensures;
            under = c.under.ensures;
            crowded = c.crowded.ensures;
            lengthened = c.lengthened-lengthened.ensures;
            lengthened_area = c.area-2.ensures.sum ∙ ap (λ (v : List Rect). area v) c.lengthened-lengthened.ensures;
            rotating = c.rotating.ensures;
            picking = c.picking.ensures;
          };
    }
