use Rattle.std.proofs.Common.{◌≡◌, length}
use Rattle.surface.specs.Hull.{across}
use Rattle.sheet.specs.Pages.{row_differs}
use Rattle.sheet.proofs.page.row_difference.Given as goal

abbrev pub invariant-loop-x : goal.invariant-loop-x
invariant-loop-x g l = record {
  can_next : (goal.iterator-loop-x g).can_next l.x-iterator;
  is_finite : (goal.iterator-loop-x g).is_finite l.x-iterator;
  so_far : l.reach ≡ across (row_differs g.P.Pixel.equal l.old l.new) l.y (length l.yielded) l.initial.reach;
}
